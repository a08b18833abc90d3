-- The last digits of a number, one after another.
use Rattle.std.proofs.Common.{◌≡◌, ℕ, zero, suc, ◌+◌, ◌-◌, ◌/◌, ◌^◌, ◌<◌, ◌≤◌, List, [], ◌∷◌, ◌++◌, take, refl, ap, ◌∙◌, decimal, arith}
use Rattle.std.proofs.Math.Nat.{div-div-eq-div-mul, pow-suc}
use Rattle.std.proofs.lemmas.Fmt.{decimal_digit}
use Rattle.modbus_map.specs.Decimals.{last_digits, digit_at}

taken : (places i n : ℕ) → i < places
    → take i (last_digits places n) ++ ((48 + digit_at (places - 1 - i) n) ∷ []) ≡ take (suc i) (last_digits places n)
taken zero i n less = absurd (omega arith)
taken (suc place) zero n less =
    let same : suc place - 1 - 0 ≡ place = omega arith in
    ap (λ (k : ℕ). (48 + digit_at k n) ∷ []) same
taken (suc place) (suc i) n less =
    let same : suc place - 1 - suc i ≡ place - 1 - i = omega arith in
    ap (λ (k : ℕ). (48 + digit_at place n) ∷ (take i (last_digits place n) ++ ((48 + digit_at k n) ∷ []))) same
    ∙ ap (λ (digits : List ℕ). (48 + digit_at place n) ∷ digits) (taken place i n (omega arith))

-- one digit more
pub one_more : (places i n digit : ℕ) → i < places → digit ≡ digit_at (places - 1 - i) n → digit < 10
    → take i (last_digits places n) ++ decimal digit ≡ take (i + 1) (last_digits places n)
one_more places i n digit less value below =
    let more : suc i ≡ i + 1 = omega arith in
    ap (λ (text : List ℕ). take i (last_digits places n) ++ text) (decimal_digit digit below)
    ∙ ap (λ (d : ℕ). take i (last_digits places n) ++ ((48 + d) ∷ [])) value
    ∙ taken places i n less
    ∙ ap (λ (k : ℕ). take k (last_digits places n)) more

-- and all of them
pub all : (places i n : ℕ) → places ≤ i → take i (last_digits places n) ≡ last_digits places n
all zero zero n done = refl
all zero (suc i) n done = refl
all (suc place) zero n done = absurd (omega arith)
all (suc place) (suc i) n done = ap (λ (digits : List ℕ). (48 + digit_at place n) ∷ digits) (all place i n (omega arith))

-- a number without one digit more
pub without_more : (n place rest : ℕ) → rest ≡ n / 10 ^ place → rest / 10 ≡ n / 10 ^ (place + 1)
without_more n place rest e =
    let same : place + 1 ≡ suc place = omega arith in
    ap (λ (m : ℕ). m / 10) e ∙ div-div-eq-div-mul n (10 ^ place) 10 ∙ rw (same, pow-suc 10 place) refl
