-- Texts of digits, and the sizes of their numbers.
use Rattle.std.proofs.Common.{◌≡◌, ℕ, ◌+◌, ◌-◌, ◌*◌, ◌^◌, ◌<◌, ◌≤◌, zero, suc, Bool, true, false, ◌&&◌, List, [], ◌∷◌, length, get_or, refl, ap, ◌∙◌, arith}
use Rattle.std.specs.Prelude.{fold}
use Rattle.std.proofs.Math.Nat.{pow-le-pow_right, pow-suc, mul-le-mul_left, mul-le-mul_right}
use Rattle.std.proofs.lemmas.Nat.{pow-add}
use Rattle.modbus_map.specs.Decimals.{is_digit}

stays : (text : List ℕ) → fold (λ (all : Bool) (byte : ℕ). all && is_digit byte) false text ≡ false
stays [] = refl
stays (byte ∷ text) = stays text

both_false : (all : Bool) → (all && false) ≡ false
both_false true = refl
both_false false = refl

-- a text with a byte that is no digit
pub not_digits : (text : List ℕ) (i : ℕ) (all : Bool) → i < length text → is_digit (get_or text i 0) ≡ false
    → fold (λ (all : Bool) (byte : ℕ). all && is_digit byte) all text ≡ false
not_digits [] i all below bad = absurd (omega (arith, below))
not_digits (byte ∷ text) zero all below bad =
    ap (λ (b : Bool). fold (λ (all : Bool) (byte : ℕ). all && is_digit byte) (all && b) text) bad
    ∙ ap (λ (b : Bool). fold (λ (all : Bool) (byte : ℕ). all && is_digit byte) b text) (both_false all) ∙ stays text
not_digits (byte ∷ text) (suc i) all below bad = not_digits text i (all && is_digit byte) (omega (arith, below)) bad

-- one more digit
pub grown : (value start i digit : ℕ) → value < (start + 1) * 10 ^ i → digit ≤ 9 → value * 10 + digit < (start + 1) * 10 ^ (i + 1)
grown value start i digit below small =
    let e : 10 ^ (suc i) ≡ 10 ^ i * 10 = pow-suc 10 i in
    let same : i + 1 ≡ suc i = omega arith in
    rw (same, e) (omega arith)

-- has room, where all digits have
pub room : (value start i all : ℕ) → value < (start + 1) * 10 ^ i → i < all → (start + 1) * 10 ^ all ≤ 10 ^ 38 → value * 10 + 10 ≤ 10 ^ 38
room value start i all below less fits =
    let e : 10 ^ (suc i) ≡ 10 ^ i * 10 = pow-suc 10 i in
    let more : 10 ^ (suc i) ≤ 10 ^ all = pow-le-pow_right {n = 10} (omega arith) {i = suc i} {j = all} (omega arith) in
    let scaled : (start + 1) * 10 ^ (suc i) ≤ (start + 1) * 10 ^ all = mul-le-mul_left (start + 1) more in
    let scaled2 : (start + 1) * (10 ^ i * 10) ≤ (start + 1) * 10 ^ all = rw e at scaled in
    omega arith

-- so many digits before the point have room
pub whole_fits : (whole fraction : ℕ) → whole ≤ 38 - fraction → 10 ^ whole ≤ 10 ^ 38
whole_fits whole fraction le = pow-le-pow_right {n = 10} (omega arith) {i = whole} {j = 38} (omega arith)

-- and so many behind it
pub fraction_fits : (before whole fraction : ℕ) → before < 10 ^ whole → whole ≤ 38 - fraction → fraction ≤ 18 → (before + 1) * 10 ^ fraction ≤ 10 ^ 38
fraction_fits before whole fraction below le few =
    let e : 10 ^ (whole + fraction) ≡ 10 ^ whole * 10 ^ fraction = pow-add 10 whole fraction in
    let all : 10 ^ (whole + fraction) ≤ 10 ^ 38 = pow-le-pow_right {n = 10} (omega arith) {i = whole + fraction} {j = 38} (omega arith) in
    let product : (before + 1) * 10 ^ fraction ≤ 10 ^ whole * 10 ^ fraction = mul-le-mul_right (10 ^ fraction) (omega arith) in
    let all2 : 10 ^ whole * 10 ^ fraction ≤ 10 ^ 38 = rw e at all in
    omega arith
