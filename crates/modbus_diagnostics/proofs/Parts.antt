-- Objects that rise, and the parts of a list of them.
use Rattle.std.proofs.Common.{◌≡◌, ◌≢◌, ℕ, ◌+◌, ◌<◌, ◌≤◌, List, [], ◌∷◌, ◌++◌, length, take, drop, get_or, refl, sym, subst, ap, ◌∙◌, inl, inr, arith, ◌-◌}
use Rattle.std.specs.List.{All, AllPairs}
use Rattle.std.proofs.lemmas.Bool.{cases_eq}
use Rattle.std.proofs.lemmas.List.{get_or-drop, length-drop, get_or_default, drop_more, take-append-drop, take_all, get_or_at, length-append}
use Rattle.std.proofs.lemmas.List.Elements.{All-more}
use Rattle.std.proofs.lemmas.List.Sums.{sum_by_more}
use Rattle.modbus_frame.specs.declared.identification.DeviceIdObject.{DeviceIdObject}
use Rattle.modbus_frame.specs.declared.code.ReadCode.{ReadCode}
use Rattle.modbus_frame.specs.declared.identification.ReadDeviceIdentificationResponse.{ReadDeviceIdentificationResponse}
use Rattle.modbus_diagnostics.specs.IdentityAnswers.{objects_size, NoneFits, most_objects, last_of_category, objects_response, StreamBegins, StreamsObjects}
use Rattle.modbus_diagnostics.specs.Identity.{object_of}

-- from an object that is above on, all are
pub rise_above : (xs : List DeviceIdObject) (i last : ℕ) (it : DeviceIdObject) → i < length xs → it ≡ get_or xs i it → last < it.id
    → AllPairs (λ a b. a.id < b.id) xs → All (λ o. last < o.id) (drop i xs)
rise_above xs i last it within is above rise k d low =
    let past : i + k < length xs = (let e = length-drop i xs in omega (arith, low, e, within)) in
    let here : get_or xs i d ≡ it = get_or_default xs i d it within ∙ sym is in
    subst (λ (o : DeviceIdObject). last < o.id) (sym (get_or-drop i xs k d))
    (elim (cases_eq k 0) [
      | inl zero ↦
          let at : i + k ≡ i = omega (arith, zero) in
          subst (λ (n : ℕ). last < (get_or xs n d).id) (sym at) (subst (λ (o : DeviceIdObject). last < o.id) (sym here) above)
      | inr more ↦
          let pair : (get_or xs i d).id < (get_or xs (i + k) d).id = rise i (i + k) d (omega (arith, more)) past in
          let same : (get_or xs i d).id ≡ it.id = ap (λ (o : DeviceIdObject). o.id) here in
          omega (arith, pair, same, above)
    ])

-- no more fits where the next object does not
pub full_at : (xs : List DeviceIdObject) (i : ℕ) (it : DeviceIdObject) → i < length xs → it ≡ get_or xs i it
    → most_objects < objects_size (take i xs) + 2 + length it.value → NoneFits (objects_size (take i xs)) (drop i xs)
full_at xs i it within is full =
    subst (λ (os : List DeviceIdObject). NoneFits (objects_size (take i xs)) os) (sym (drop_more xs i it within ∙ ap (λ (o : DeviceIdObject). o ∷ drop (i + 1) xs) (sym is))) full

pub size_more : (xs : List DeviceIdObject) (i : ℕ) (it : DeviceIdObject) → i < length xs → it ≡ get_or xs i it
    → objects_size (take (i + 1) xs) ≡ objects_size (take i xs) + (2 + length it.value)
size_more xs i it within is = sum_by_more (λ (o : DeviceIdObject). 2 + length o.value) xs i it within ∙ ap (λ (o : DeviceIdObject). objects_size (take i xs) + (2 + length o.value)) (sym is)

-- one more object is looked at
pub all_more : (P : DeviceIdObject → Type 0) (xs : List DeviceIdObject) (i : ℕ) (it : DeviceIdObject) → i < length xs → it ≡ get_or xs i it
    → All P (take i xs) → P it → All P (take (i + 1) xs)
all_more P xs i it within is all here = All-more P xs i it within all (subst P is here)

-- all were looked at
pub all_seen : (P : DeviceIdObject → Type 0) (xs : List DeviceIdObject) (i : ℕ) → length xs ≤ i → All P (take i xs) → All P xs
all_seen P xs i past all = subst (λ (os : List DeviceIdObject). All P os) (take_all i xs past) all

-- a list around the object at a place
pub around : (xs : List DeviceIdObject) (i : ℕ) (it : DeviceIdObject) → i < length xs → it ≡ get_or xs i it → xs ≡ take i xs ++ it ∷ drop (i + 1) xs
around xs i it within is =
    sym (take-append-drop i xs) ∙ ap (λ (ys : List DeviceIdObject). take i xs ++ ys) (drop_more xs i it within ∙ ap (λ (o : DeviceIdObject). o ∷ drop (i + 1) xs) (sym is))

-- an object within a list of which all are such
pub one_is : (P : DeviceIdObject → Type 0) (before after : List DeviceIdObject) (it : DeviceIdObject) → All P (before ++ it ∷ after) → P it
one_is P before after it all = subst P (get_or_at before it after it (length before) refl) (all (length before) it (let e = length-append before (it ∷ after) in omega (arith, e)))

-- the end of a list from a place on
pub end_from : (xs : List DeviceIdObject) (i : ℕ) → take (length xs - i) (drop i xs) ≡ drop i xs
end_from xs i = take_all (length xs - i) (drop i xs) (let e = length-drop i xs in omega (arith, e))

-- what is shown of a category from a place on
pub streams : (objects : List DeviceIdObject) (code : ReadCode) (id m start n : ℕ) (from left : List DeviceIdObject) (found : ReadDeviceIdentificationResponse)
    → from ≡ drop start (take m objects) → left ≡ drop n from
    → All (λ o. o.id ≤ last_of_category code) (take m objects) → All (λ o. last_of_category code < o.id) (drop m objects)
    → StreamBegins id (take start (take m objects)) (drop start (take m objects))
    → objects_size (take n from) ≤ most_objects → NoneFits (objects_size (take n from)) (drop n from)
    → found ≡ objects_response code objects left (take n from)
    → StreamsObjects objects code id found
streams objects code id m start n from left found is_from is_left low high begins fits full tells =
    let category = take m objects in
    let seam : take n from ++ left ≡ from = ap (λ (os : List DeviceIdObject). take n from ++ os) is_left ∙ take-append-drop n from in
    let whole : take start category ++ (take n from ++ left) ≡ category =
    ap (λ (os : List DeviceIdObject). take start category ++ os) (seam ∙ is_from) ∙ take-append-drop start category in
    record {
      before = take start category;
      shown = take n from;
      left = left;
      others = drop m objects;
      parts = sym (ap (λ (os : List DeviceIdObject). os ++ drop m objects) whole ∙ take-append-drop m objects);
      of_category = subst (λ (os : List DeviceIdObject). All (λ o. o.id ≤ last_of_category code) os) (sym whole) low;
      above = high;
      begins = subst (λ (os : List DeviceIdObject). StreamBegins id (take start category) os) (sym (seam ∙ is_from)) begins;
      fits = fits;
      full = subst (λ (os : List DeviceIdObject). NoneFits (objects_size (take n from)) os) (sym is_left) full;
      tells = tells;
    }

-- the stream begins at the object of this number, or at the first where there is none
pub begins_here : (xs : List DeviceIdObject) (i id : ℕ) → i < length xs → ((d : DeviceIdObject) → (get_or xs i d).id ≡ id) → StreamBegins id (take i xs) (drop i xs)
begins_here xs i id within is =
    subst (λ (os : List DeviceIdObject). StreamBegins id (take i xs) os) (sym (drop_more xs i (object_of 0 []) within)) (inl (is (object_of 0 [])))

pub begins_first : (xs : List DeviceIdObject) (id : ℕ) → All (λ o. o.id ≢ id) xs → StreamBegins id [] xs
begins_first [] id none = refl
begins_first (o ∷ rest) id none = inr (refl, none)
