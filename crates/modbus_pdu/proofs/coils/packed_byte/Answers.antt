use Rattle.std.proofs.Common.{◌≡◌, ◌+◌, ◌^◌, arith, sym, ◌∙◌}
use Rattle.modbus_pdu.proofs.Bits.{bits_set, bits_clear, doubled, wider, one_bit}
use Rattle.modbus_pdu.proofs.coils.packed_byte.Goals as goal
use Rattle.modbus_pdu.proofs.coils.packed_byte.Goals.{then-is_on, else-is_on}

pub loop-i-preserved : goal.loop-i-preserved
loop-i-preserved c =
    let coils = c.args.coils.now in
    let place = c.args.place in
    let i = c.loop-i.i in
    let so_far = c.loop-i.invariant.0 in
    let below = c.loop-i.invariant.1 in
    elim c.if-is_on.branch [
      | then-is_on w ↦
          let e : c.if-is_on.byte ≡ c.loop-i.byte + 2 ^ i = omega (arith, w.byte-is, one_bit i c.loop-i-test.true) in
          (e ∙ bits_set coils place i c.loop-i.byte so_far (sym c.coil_or_off-is_on.ensures ∙ w.if-is_on.true), omega (arith, e, doubled i c.loop-i.byte below))
      | else-is_on w ↦
          (w.byte-is ∙ bits_clear coils place i c.loop-i.byte so_far (sym c.coil_or_off-is_on.ensures ∙ w.if-is_on.false), omega (arith, w.byte-is, wider i c.loop-i.byte below))
    ]
