-- One more coil of a byte.
use Rattle.std.proofs.Common.{◌≡◌, ℕ, ◌+◌, ◌*◌, ◌%◌, ◌^◌, ◌<◌, Bool, true, false, List, get_or, refl, arith, add-one}
use native.Mathlib.Numerals.{unary_clauses}
use Rattle.std.proofs.lemmas.Nat.{pow_below}
use Rattle.modbus_pdu.specs.Fields.{bits_at, bit_of}

pub bits_more : (coils : List Bool) (place i : ℕ) → bits_at coils place (i + 1) ≡ bits_at coils place i + bit_of (get_or coils (place + i) false) * 2 ^ i
unfolding bits_at
bits_more coils place i = rw add-one refl

pub bits_set : (coils : List Bool) (place i byte : ℕ) → byte ≡ bits_at coils place i → get_or coils (place + i) false ≡ true → byte + 2 ^ i ≡ bits_at coils place (i + 1)
bits_set coils place i byte so_far set = rw (bits_more, set) (omega arith)

pub bits_clear : (coils : List Bool) (place i byte : ℕ) → byte ≡ bits_at coils place i → get_or coils (place + i) false ≡ false → byte ≡ bits_at coils place (i + 1)
bits_clear coils place i byte so_far clear = rw (bits_more, clear) (omega arith)

pub doubled : (i byte : ℕ) → byte < 2 ^ i → byte + 2 ^ i < 2 ^ (i + 1)
doubled i byte below = simp unary_clauses (omega arith)

pub wider : (i byte : ℕ) → byte < 2 ^ i → byte < 2 ^ (i + 1)
wider i byte below = omega (arith, doubled i byte below)

pub one_bit : (i : ℕ) → i < 8 → (1 * 2 ^ i) % 256 ≡ 2 ^ i
one_bit i small = omega (arith, pow_below i 8 small)
