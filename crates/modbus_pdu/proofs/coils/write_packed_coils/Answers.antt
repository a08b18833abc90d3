use Rattle.std.proofs.Common.{◌≡◌, ℕ, ◌+◌, ◌*◌, ◌/◌, ◌<◌, length, get_or, arith}
use Rattle.std.proofs.Math.ListN.{set, length-set}
use Rattle.std.proofs.lemmas.List.Edits.{fill_by_more}
use Rattle.std.proofs.lemmas.List.FromFn.{fill_by_all}
use Rattle.modbus_pdu.specs.Fields.{bits_at, packed_bytes, packed_size}
use Rattle.modbus_pdu.proofs.coils.write_packed_coils.Goals as goal

pub returns-then-whole-bytes : goal.returns-then-whole-bytes
unfolding packed_bytes
returns-then-whole-bytes c =
    let coils = c.args.coils.now in
    let bytes = c.loop-k.bytes in
    let whole = length coils / 8 in
    let byte : ℕ → ℕ = λ k. bits_at coils (8 * k) 8 in
    let all = set bytes whole (byte whole) in
    let each : (k : ℕ) → k < whole + 1 → get_or all k 0 ≡ byte k = fill_by_more byte bytes whole 0 (omega arith) (λ k lt. c.loop-k.invariant k (omega arith)) in
    rw c.packed_byte.ensures (fill_by_all byte all (packed_size (length coils)) 0 (omega (arith, length-set bytes whole (byte whole))) (λ k lt. each k (omega arith)))

pub returns-else-whole-bytes : goal.returns-else-whole-bytes
unfolding packed_bytes
returns-else-whole-bytes c =
    let coils = c.args.coils.now in
    fill_by_all (λ k. bits_at coils (8 * k) 8) c.loop-k.bytes (packed_size (length coils)) 0 (omega arith) (λ k lt. c.loop-k.invariant k (omega arith))
