-- Products of integers by a number.
use Rattle.std.proofs.Common.{◌≡◌, ℕ, zero, suc, ◌+◌, ◌*◌, ◌/◌, ◌%◌, ◌^◌, ◌<◌, refl, sym, ap, ◌∙◌, arith, ℤ, pos, negsuc, neg_ℤ, ◌*ℤ◌, FitsSigned, unsigned_abs, int_rem}
use Rattle.std.proofs.Math.Nat.{mul_assoc, pow-suc, pow-succ', mul-div_cancel}
use Rattle.std.proofs.lemmas.Int.{ints, unsigned_abs-mul}
use Rattle.std.proofs.lemmas.Nat.{mod-mul-add}
use Rattle.std.specs.Int.{w128}

neg_times : (n b : ℕ) → neg_ℤ (pos n) *ℤ pos b ≡ neg_ℤ (pos (n * b))
neg_times zero b = let z : 0 * b ≡ 0 = omega arith in rw z refl
neg_times (suc n) b = refl

pub times_times : (z : ℤ) (a b : ℕ) → z *ℤ pos a *ℤ pos b ≡ z *ℤ pos (a * b)
times_times (pos n) a b = ap pos (mul_assoc n a b)
times_times (negsuc n) a b = neg_times (suc n * a) b ∙ ap (λ (k : ℕ). neg_ℤ (pos k)) (mul_assoc (suc n) a b)

-- what fits after a product fits before it
pub shrinks : (z : ℤ) (m : ℕ) → 0 < m → FitsSigned w128 (z *ℤ pos m) → FitsSigned w128 z
shrinks (pos n) (suc m) some h = omega (arith, ints, h)
shrinks (negsuc n) (suc m) some h = omega (arith, ints, h)
shrinks z zero some h = absurd (omega arith)

nat_cancel : (a b m : ℕ) → 0 < m → a * m ≡ b * m → a ≡ b
nat_cancel a b m some e = sym (mul-div_cancel a some) ∙ ap (λ (k : ℕ). k / m) e ∙ mul-div_cancel b some

sizes : (x y : ℤ) (m : ℕ) → 0 < m → x *ℤ pos m ≡ y *ℤ pos m → unsigned_abs x ≡ unsigned_abs y
sizes x y m some e =
    nat_cancel (unsigned_abs x) (unsigned_abs y) m some (sym (unsigned_abs-mul x (pos m)) ∙ ap unsigned_abs e ∙ unsigned_abs-mul y (pos m))

pub cancel : (x y : ℤ) (m : ℕ) → 0 < m → x *ℤ pos m ≡ y *ℤ pos m → x ≡ y
cancel (pos a) (pos b) m some e = ap pos (sizes (pos a) (pos b) m some e)
cancel (pos a) (negsuc b) (suc m) some e = absurd (omega (arith, ints, e))
cancel (negsuc a) (pos b) (suc m) some e = absurd (omega (arith, ints, e))
cancel (negsuc a) (negsuc b) m some e = let same : suc a ≡ suc b = sizes (negsuc a) (negsuc b) m some e in ap negsuc (omega arith)
cancel x y zero some e = absurd (omega arith)

rem_zero : (z d : ℤ) → unsigned_abs z % unsigned_abs d ≡ 0 → int_rem z d ≡ pos 0
rem_zero (pos n) d e = ap pos e
rem_zero (negsuc n) d e = ap (λ (k : ℕ). neg_ℤ (pos k)) e

-- a multiple leaves nothing
pub rem_of_product : (n d : ℤ) → 0 < unsigned_abs d → int_rem (n *ℤ d) d ≡ pos 0
rem_of_product n d some =
    let e : (unsigned_abs n * unsigned_abs d + 0) % unsigned_abs d ≡ 0 = mod-mul-add (unsigned_abs n) (unsigned_abs d) 0 some in
    let same : unsigned_abs (n *ℤ d) ≡ unsigned_abs n * unsigned_abs d + 0 = unsigned_abs-mul n d ∙ omega arith in
    rem_zero (n *ℤ d) d (ap (λ (k : ℕ). k % unsigned_abs d) same ∙ e)

-- a place more, before the others or behind them
pub tenfold : (z : ℤ) (more : ℕ) → z *ℤ pos 10 *ℤ pos (10 ^ more) ≡ z *ℤ pos (10 ^ suc more)
tenfold z more = times_times z 10 (10 ^ more) ∙ ap (λ (k : ℕ). z *ℤ pos k) (sym (pow-succ' 10 more))

pub tenfold_last : (z : ℤ) (more : ℕ) → z *ℤ pos (10 ^ more) *ℤ pos 10 ≡ z *ℤ pos (10 ^ suc more)
tenfold_last z more = times_times z (10 ^ more) 10 ∙ ap (λ (k : ℕ). z *ℤ pos k) (sym (pow-suc 10 more))
