-- The bits of a word.
use Rattle.std.proofs.Common.{◌≡◌, ◌==◌, ℕ, ◌/◌, ◌^◌, ◌<◌, ◌≤◌, false, refl, arith}
use Rattle.std.proofs.Math.Nat.{pow-le-pow_right}
use Rattle.std.proofs.lemmas.Nat.{div_below}
use Rattle.std.specs.Int.{bit_at}

-- no bit is set above those of a word
pub none_above : (word place : ℕ) → word < 2 ^ 16 → 16 ≤ place → false ≡ (bit_at word place == 1)
none_above word place small high =
    let wide : 2 ^ 16 ≤ 2 ^ place = pow-le-pow_right {n = 2} (omega arith) {i = 16} {j = place} high in
    let below : word / 2 ^ place < 1 = div_below word (2 ^ place) 1 (omega arith) (omega arith) in
    let zero : word / 2 ^ place ≡ 0 = omega arith in
    rw zero refl
