-- The place after objects, one after another, as a loop finds it.
use Rattle.std.proofs.Common.{◌≡◌, ℕ, suc, ◌-◌, ◌+◌, ◌≤◌, ◌<◌, List, ◌∷◌, Result, Ok, Err, refl, sym, ◌∙◌, arith}
use Rattle.modbus_frame.specs.declared.fault.Reason.{Reason}
use Rattle.modbus_frame.specs.declared.identification.DeviceIdObject.{DeviceIdObject}
use Rattle.modbus_pdu.specs.Decodes.{◌>>=◌}
use Rattle.modbus_pdu.specs.ResponseOf.{object_at, objects_at, place_after}

-- what was read first doesn't change the place
one_more : (o : DeviceIdObject) (read : Result (List DeviceIdObject × ℕ) Reason) → place_after (read >>= λ x. Ok (o ∷ x.0, x.1)) ≡ place_after read
one_more o (Ok x) = refl
one_more o (Err e) = refl

-- after an object, the others are left
others : (n : ℕ) (pdu : List ℕ) (after : ℕ) (object : Result (DeviceIdObject × ℕ) Reason) → Ok after ≡ place_after object
    → place_after (object >>= λ first. objects_at n first.1 pdu >>= λ rest. Ok (first.0 ∷ rest.0, rest.1)) ≡ place_after (objects_at n after pdu)
others n pdu after (Ok (o, place)) e = let same : after ≡ place = cc in rw same (one_more o (objects_at n place pdu))
others n pdu after (Err reason) e = cc

-- and without it nothing is
stops : {A : Type 0} (reason : Reason) (f : DeviceIdObject × ℕ → Result (A × ℕ) Reason) (object : Result (DeviceIdObject × ℕ) Reason) → Err reason ≡ place_after object → Err reason ≡ place_after (object >>= f)
stops reason f (Ok x) e = cc
stops reason f (Err other) e = cc

module _ (pdu : List ℕ) (count i place : ℕ) (total : Result ℕ Reason) where
  pub goes_on : (after : ℕ) → i < count → Ok after ≡ place_after (object_at place pdu) → place_after (objects_at (count - i) place pdu) ≡ total → place_after (objects_at (count - (i + 1)) after pdu) ≡ total
  unfolding objects_at
  goes_on after lt object so_far =
      let k : count - i ≡ suc (count - (i + 1)) = omega arith in
      let one : place_after (objects_at (count - i) place pdu) ≡ place_after (objects_at (count - (i + 1)) after pdu) = rw k (others (count - (i + 1)) pdu after (object_at place pdu) object) in
      sym one ∙ so_far

  pub is_refused : (reason : Reason) → i < count → Err reason ≡ place_after (object_at place pdu) → place_after (objects_at (count - i) place pdu) ≡ total → Err reason ≡ total
  unfolding objects_at
  is_refused reason lt object so_far =
      let k : count - i ≡ suc (count - (i + 1)) = omega arith in
      let one : Err reason ≡ place_after (objects_at (count - i) place pdu) = rw k (stops reason _ (object_at place pdu) object) in
      one ∙ so_far

  pub is_done : count ≤ i → place_after (objects_at (count - i) place pdu) ≡ total → Ok place ≡ total
  unfolding objects_at
  is_done le so_far =
      let k : count - i ≡ 0 = omega arith in
      let one : place_after (objects_at (count - i) place pdu) ≡ Ok place = rw k refl in
      sym one ∙ so_far
