use Rattle.std.proofs.Common.{◌+◌, ◌-◌, ◌*◌, ◌∙◌, sym, arith}
use Rattle.std.proofs.lemmas.List.{take_more_set}
use Rattle.std.proofs.lemmas.List.FromFn.{map-range_with_len_more}
use Rattle.std.proofs.lemmas.Slice.{take-put_mid}
use Rattle.modbus_pdu.specs.Fields.{coil_at}
use Rattle.modbus_pdu.proofs.CoilsRead.{coils_more}
use Rattle.modbus_pdu.proofs.coils.read_coils.Goals as goal

pub loop-k-preserved : goal.loop-k-preserved
loop-k-preserved c =
    let at = 8 * c.loop-k.k in
    let byte = c.read_byte.new.coils in
    let written = take-put_mid at (at + 8 - at) c.loop-k.coils byte (8 * (c.loop-k.k + 1)) (omega arith) (omega arith) in
    rw (written, c.loop-k.invariant, c.read_byte.ensures) (coils_more c.args.bytes.now c.loop-k.k)

pub loop-i-preserved : goal.loop-i-preserved
loop-i-preserved c =
    let i = c.loop-i.i in
    let coil = coil_at c.args.bytes.now in
    take_more_set c.loop-i.coils i (coil i) (omega arith) ∙ rw c.loop-i.invariant (sym (map-range_with_len_more coil 0 i i (omega arith)))
