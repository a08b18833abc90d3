-- The sizes of numbers of words.
use Rattle.std.proofs.Common.{◌≡◌, ℕ, zero, suc, ◌+◌, ◌*◌, ◌^◌, ◌<◌, ◌≤◌, arith}
use Rattle.std.proofs.lemmas.Nat.{pow-add}

-- a number of at most three words has room for one more
pub room : (n r : ℕ) → n ≤ 3 → r < 2 ^ (16 * n) → 65536 * r + 65536 ≤ 2 ^ 64
room zero r le less = omega arith
room (suc zero) r le less = omega arith
room (suc (suc zero)) r le less = omega arith
room (suc (suc (suc zero))) r le less = omega arith
room (suc (suc (suc (suc n)))) r le less = omega arith

-- and with that word it is a number of so many words
pub grown : (n r low : ℕ) → r < 2 ^ (16 * n) → low < 65536 → low + 65536 * r < 2 ^ (16 * (n + 1))
grown n r low less small =
    let e : 2 ^ (16 * n + 16) ≡ 2 ^ (16 * n) * 2 ^ 16 = pow-add 2 (16 * n) 16 in
    let same : 16 * (n + 1) ≡ 16 * n + 16 = omega arith in
    rw same (omega arith)
