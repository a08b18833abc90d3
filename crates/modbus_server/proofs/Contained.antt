-- What stands in a list of offsets.
use Rattle.std.proofs.Common.{◌≡◌, ◌⊎◌, inl, inr, ℕ, zero, suc, List, [], ◌∷◌, refl, arith}
use Rattle.std.specs.Prelude.{Contains}

pub here : (x : ℕ) (xs : List ℕ) → Contains (x ∷ xs) x
here x xs = (0, omega arith, refl)

pub there : (x y : ℕ) (xs : List ℕ) → Contains xs y → Contains (x ∷ xs) y
there x y xs (k, lt, e) = (suc k, omega arith, e)

pub front_or_later : (x y : ℕ) (xs : List ℕ) → Contains (x ∷ xs) y → (x ≡ y) ⊎ Contains xs y
front_or_later x y xs (zero, lt, e) = inl e
front_or_later x y xs (suc k, lt, e) = inr (k, omega arith, e)

pub none : (y : ℕ) → Contains [] y → ⊥
none y (k, lt, e) = omega arith
