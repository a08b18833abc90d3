-- Coils that are packed are read again.
use Rattle.std.proofs.Common.{◌≡◌, ℕ, zero, suc, ◌+◌, ◌-◌, ◌*◌, ◌/◌, ◌%◌, ◌^◌, ◌<◌, Bool, true, false, List, length, get_or, refl, sym, ap, ◌∙◌, arith, eqb, inl, inr}
use Rattle.std.proofs.Math.Nat.{add-mul-div_left}
use Rattle.std.proofs.lemmas.Nat.{pow-add, div-mul-add}
use Rattle.std.proofs.lemmas.Bool.{cases_lt}
use Rattle.std.proofs.lemmas.List.FromFn.{fill_by_all, get_or-map-range_with_len}
use Rattle.std.proofs.Math.Pow.{pow_pos}
use native.Mathlib.Numerals.{unary_clauses}
use Rattle.modbus_pdu.specs.Fields.{bit_of, bits_at, coil_at, coils_of, packed_bytes, packed_size}

one_more_bit : (b n : ℕ) (w : Bool) → b < 2 ^ n → b + bit_of w * 2 ^ n < 2 ^ suc n
one_more_bit b n true lt = simp unary_clauses (omega arith)
one_more_bit b n false lt = simp unary_clauses (omega arith)

bits_below : (coils : List Bool) (place n : ℕ) → bits_at coils place n < 2 ^ n
unfolding bits_at
bits_below coils place zero = omega arith
bits_below coils place (suc n) = one_more_bit (bits_at coils place n) n (get_or coils (place + n) false) (bits_below coils place n)

even : (q m : ℕ) → (q + 2 * m) % 2 ≡ q % 2
even q m = omega arith

regroup : (w x y : ℕ) → w * (x * (2 * y)) ≡ x * (2 * (w * y))
regroup w x y = omega arith

-- what stands above a bit does not change it
high_bits : (b w n j : ℕ) → j < n → (b + w * 2 ^ n) / 2 ^ j % 2 ≡ b / 2 ^ j % 2
high_bits b w n j lt =
    let m = n - (j + 1) in
    let e : n ≡ j + suc m = omega arith in
    let doubled : 2 ^ suc m ≡ 2 * 2 ^ m = simp unary_clauses (omega arith) in
    let power : 2 ^ n ≡ 2 ^ j * (2 * 2 ^ m) = ap (λ (k : ℕ). 2 ^ k) e ∙ pow-add 2 j (suc m) ∙ ap (λ (x : ℕ). 2 ^ j * x) doubled in
    let parts : w * 2 ^ n ≡ 2 ^ j * (2 * (w * 2 ^ m)) = ap (λ (x : ℕ). w * x) power ∙ regroup w (2 ^ j) (2 ^ m) in
    let high = add-mul-div_left b (2 * (w * 2 ^ m)) {y = 2 ^ j} (pow_pos j) in
    rw (parts, high) (even (b / 2 ^ j) (w * 2 ^ m))

bit_small : (w : Bool) → bit_of w % 2 ≡ bit_of w
bit_small true = refl
bit_small false = refl

top_bit : (b n : ℕ) (w : Bool) → b < 2 ^ n → (b + bit_of w * 2 ^ n) / 2 ^ n % 2 ≡ bit_of w
top_bit b n w lt =
    let e : b + bit_of w * 2 ^ n ≡ bit_of w * 2 ^ n + b = omega arith in
    rw (e, div-mul-add (bit_of w) (2 ^ n) b lt) (bit_small w)

bits_read : (coils : List Bool) (place n j : ℕ) → j < n → bits_at coils place n / 2 ^ j % 2 ≡ bit_of (get_or coils (place + j) false)
unfolding bits_at
bits_read coils place zero j h = absurd (omega arith)
bits_read coils place (suc n) j h =
    elim (cases_lt j n) [
      | inl lt ↦ high_bits (bits_at coils place n) (bit_of (get_or coils (place + n) false)) n j lt ∙ bits_read coils place n j lt
      | inr le ↦
          let e : n ≡ j = omega arith in
          rw (← e) (top_bit (bits_at coils place n) n (get_or coils (place + n) false) (bits_below coils place n))
    ]

is_one : (b : Bool) → eqb (bit_of b) 1 ≡ b
is_one true = refl
is_one false = refl

-- a place of the packed bytes holds its coil, and off past the last one
pub packed_bit : (coils : List Bool) (k : ℕ) → k < 8 * packed_size (length coils) → coil_at (packed_bytes coils) k ≡ get_or coils k false
unfolding packed_bytes
packed_bit coils k h =
    let byte = get_or-map-range_with_len (λ (i : ℕ). bits_at coils (8 * i) 8) 0 (packed_size (length coils)) (k / 8) (k / 8) 0 (omega arith) (omega arith) in
    let place : 8 * (k / 8) + k % 8 ≡ k = omega arith in
    let bit = bits_read coils (8 * (k / 8)) 8 (k % 8) (omega arith) in
    rw (byte, bit, place) (is_one (get_or coils k false))

pub packed_back : (coils : List Bool) → coils_of (packed_bytes coils) (length coils) ≡ coils
packed_back coils = sym (fill_by_all (coil_at (packed_bytes coils)) coils (length coils) false refl (λ k h. sym (packed_bit coils k (omega (arith, h)))))
