-- Coils that are read byte by byte.
use Rattle.std.proofs.Common.{◌≡◌, ℕ, ◌+◌, ◌-◌, ◌*◌, ◌/◌, ◌%◌, ◌<◌, Bool, false, List, [], ◌∷◌, ◌++◌, length, get_or, refl, ◌∙◌, arith, inl, inr}
use Rattle.std.proofs.Math.ListN.{set}
use Rattle.std.proofs.lemmas.Bool.{cases_lt}
use Rattle.std.proofs.lemmas.List.{get_or_append_left, get_or-append_right, length-append}
use Rattle.std.proofs.lemmas.List.FromFn.{fill_by_all, get_or-map-range_with_len, length-map-range_with_len}
use Rattle.modbus_pdu.specs.Fields.{coil_at, coils_of}

-- eight places, each written
pub eight_written : (coils : List Bool) (a b c d e f g h : Bool) → length coils ≡ 8 → set (set (set (set (set (set (set (set coils 0 a) 1 b) 2 c) 3 d) 4 e) 5 f) 6 g) 7 h ≡ a ∷ b ∷ c ∷ d ∷ e ∷ f ∷ g ∷ h ∷ []
eight_written (_ ∷ _ ∷ _ ∷ _ ∷ _ ∷ _ ∷ _ ∷ _ ∷ []) a b c d e f g h is = refl
eight_written _ a b c d e f g h is = absurd (omega arith)

-- a coil, by its byte alone
in_byte : (bytes : List ℕ) (k m : ℕ) → m < 8 → coil_at (get_or bytes k 0 ∷ []) m ≡ coil_at bytes (8 * k + m)
in_byte bytes k m lt =
    let first : m / 8 ≡ 0 = omega arith in
    let place : (8 * k + m) / 8 ≡ k = omega arith in
    let bit : (8 * k + m) % 8 ≡ m % 8 = omega arith in
    rw (first, place, bit) refl

-- the coils of one more byte
pub coils_more : (bytes : List ℕ) (k : ℕ) → coils_of bytes (8 * k) ++ coils_of (get_or bytes k 0 ∷ []) 8 ≡ coils_of bytes (8 * (k + 1))
coils_more bytes k =
    let b = get_or bytes k 0 in
    let n = 8 * k in
    let front = coils_of bytes n in
    let back = coils_of (b ∷ []) 8 in
    let front_length : length front ≡ n = length-map-range_with_len (coil_at bytes) 0 n in
    let back_length : length back ≡ 8 = length-map-range_with_len (coil_at (b ∷ [])) 0 8 in
    fill_by_all (coil_at bytes) (front ++ back) (8 * (k + 1)) false (omega (arith, length-append front back, front_length, back_length)) (λ j h. elim (cases_lt j n) [
      | inl lt ↦ get_or_append_left front back false j (omega (arith, front_length)) ∙ get_or-map-range_with_len (coil_at bytes) 0 n j j false lt (omega arith)
      | inr le ↦ (let e : n + (j - n) ≡ j = omega arith in
          let one : coil_at (b ∷ []) (j - n) ≡ coil_at bytes (n + (j - n)) = in_byte bytes k (j - n) (omega arith) in
          get_or-append_right front back n j false front_length le
          ∙ get_or-map-range_with_len (coil_at (b ∷ [])) 0 8 (j - n) (j - n) false (omega arith) (omega arith)
          ∙ (rw e at one))
    ])
