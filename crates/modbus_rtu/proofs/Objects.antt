-- Reading objects one after another, as a loop does.
use Rattle.std.proofs.Common.{◌≡◌, ℕ, suc, ◌-◌, ◌+◌, ◌≤◌, ◌<◌, List, Option, Some, None, refl, sym, ◌∙◌, arith}
use Rattle.modbus_rtu.specs.ResponseHead.{place_after_object, after_objects}

module _ (adu : List ℕ) (count i place : ℕ) (total : Option ℕ) where
  pub goes_on : (next : ℕ) → i < count → Some next ≡ place_after_object adu place → after_objects adu (count - i) place ≡ total → after_objects adu (count - (i + 1)) next ≡ total
  unfolding after_objects
  goes_on next lt object so_far =
      let k : count - i ≡ suc (count - (i + 1)) = omega arith in
      let one : after_objects adu (count - i) place ≡ after_objects adu (count - (i + 1)) next = rw (k, ← object) refl in
      sym one ∙ so_far

  pub lacks_bytes : i < count → None ≡ place_after_object adu place → after_objects adu (count - i) place ≡ total → None ≡ total
  unfolding after_objects
  lacks_bytes lt object so_far =
      let k : count - i ≡ suc (count - (i + 1)) = omega arith in
      let one : after_objects adu (count - i) place ≡ None = rw (k, ← object) refl in
      sym one ∙ so_far

  pub is_done : count ≤ i → after_objects adu (count - i) place ≡ total → Some place ≡ total
  unfolding after_objects
  is_done le so_far =
      let k : count - i ≡ 0 = omega arith in
      let one : after_objects adu (count - i) place ≡ Some place = rw k refl in
      sym one ∙ so_far
