-- What an integer is worth, as 128 bits compute it.
use Rattle.std.proofs.Common.{◌≡◌, ◌^◌, ◌<◌, ◌≤◌, ◌*◌, ◌-◌, lit<, arith, ℤ, pos, negsuc, ◌*ℤ◌, ◌+ℤ◌, FitsSigned, to_z, of_z, unsigned_abs}
use Rattle.std.proofs.lemmas.Int.{to_z-of_z, ints, fits_signed_mul, unsigned_abs-mul}
use Rattle.std.proofs.lemmas.Nat.{mul-le}
use Rattle.std.specs.Int.{w64, w128}

size_of_64 : (f : ℤ) → FitsSigned w64 f → unsigned_abs f ≤ 2 ^ 63
size_of_64 (pos n) h = omega (arith, h.sfits)
size_of_64 (negsuc n) h = omega (arith, h.sfits)

pub product_fits : (n f : ℤ) → unsigned_abs n < 2 ^ 64 → FitsSigned w64 f → FitsSigned w128 (n *ℤ f)
product_fits n f below h = fits_signed_mul w128 n f (2 ^ 64 - 1) (2 ^ 63) (omega arith) (size_of_64 f h) (lit< tt)

pub product_size : (n f : ℤ) → unsigned_abs n < 2 ^ 64 → FitsSigned w64 f → unsigned_abs (n *ℤ f) ≤ (2 ^ 64 - 1) * 2 ^ 63
product_size n f below h = rw (unsigned_abs-mul n f) (mul-le (unsigned_abs n) (unsigned_abs f) (2 ^ 64 - 1) (2 ^ 63) (omega arith) (size_of_64 f h))

pub sum_fits : (z o : ℤ) → unsigned_abs z ≤ (2 ^ 64 - 1) * 2 ^ 63 → FitsSigned w64 o → FitsSigned w128 (z +ℤ o)
sum_fits z o size h = omega (arith, ints)

pub wide : (z : ℤ) → FitsSigned w64 z → FitsSigned w128 z
wide z h = omega (arith, ints)

-- an integer times a factor, and an offset more, is not cut
pub computed : (n f o : ℤ) → unsigned_abs n < 2 ^ 64 → FitsSigned w128 n → FitsSigned w64 f → FitsSigned w64 o
    → to_z w128 (of_z w128 (to_z w128 (of_z w128 (to_z w128 (of_z w128 n) *ℤ to_z w128 (of_z w128 f))) +ℤ to_z w128 (of_z w128 o)))
    ≡ n *ℤ f +ℤ o
computed n f o below a b c =
    let factor : FitsSigned w128 f = wide f b in
    let offset : FitsSigned w128 o = wide o c in
    let product : FitsSigned w128 (n *ℤ f) = product_fits n f below b in
    let sum : FitsSigned w128 (n *ℤ f +ℤ o) = sum_fits (n *ℤ f) o (product_size n f below b) c in
    simp to_z-of_z
