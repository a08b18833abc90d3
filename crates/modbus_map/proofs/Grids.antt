-- The integers that are worth a number.
use Rattle.std.proofs.Common.{◌≡◌, ◌-◌, ◌^◌, ◌<◌, sym, ap, subst, ◌∙◌, arith, ℤ, pos, negsuc, ◌*ℤ◌, ◌+ℤ◌, ◌-ℤ◌, FitsSigned, unsigned_abs, int_rem, to_z, of_z, Result, Ok, Err, IfOk, IfErr}
use Rattle.std.proofs.Math.Nat.{one-le-pow}
use Rattle.std.proofs.lemmas.Int.{ints, to_z-of_z}
use Rattle.std.specs.Int.{w64, w128}
use Rattle.modbus_map.specs.declared.decimal.Decimal.{Decimal}
use Rattle.modbus_map.specs.declared.scale.Scale.{Scale}
use Rattle.modbus_map.specs.declared.write_error.WriteError.{WriteError}
use Rattle.modbus_map.specs.declared.write_error.WriteError.TheVariants.{NotWritable, BitOfRegister, NotOfKind, OffGrid, OutOfRange, TooLong, NoMemory}
use Rattle.modbus_map.specs.Scales.{IsUnitsOf}
use Rattle.modbus_map.specs.Writing.{Refuses, IsOf64, IsWorth}
use Rattle.modbus_map.proofs.Multiples.{cancel, rem_of_product}
use Rattle.modbus_map.proofs.Worths.{product_fits, product_size, sum_fits, wide}

abs_some : (z : ℤ) → (of_z w128 z ≡ 0 → ⊥) → 0 < unsigned_abs z
abs_some (pos n) some = omega (arith, some)
abs_some (negsuc n) some = omega arith

-- a product by the factor leaves nothing
pub no_quotient : (product factor given rest n : ℤ) → FitsSigned w128 product → FitsSigned w64 factor
    → given ≡ to_z w64 (of_z w64 factor) → (of_z w128 given ≡ 0 → ⊥)
    → rest ≡ int_rem (to_z w128 (of_z w128 product)) (to_z w128 (of_z w128 given)) → (of_z w128 rest ≡ 0 → ⊥)
    → n *ℤ factor ≡ product → ⊥
no_quotient product factor given rest n fits fits_f g some r left e =
    let same : given ≡ factor = g ∙ to_z-of_z w64 factor fits_f in
    let some_f : 0 < unsigned_abs factor = abs_some factor (λ z. some (ap (of_z w128) same ∙ z)) in
    let fits_g : FitsSigned w128 given = subst (λ (z : ℤ). FitsSigned w128 z) (sym same) (wide factor fits_f) in
    let r2 : rest ≡ int_rem product given =
    r ∙ ap (λ (z : ℤ). int_rem z (to_z w128 (of_z w128 given))) (to_z-of_z w128 product fits) ∙ ap (int_rem product) (to_z-of_z w128 given fits_g) in
    let r3 : rest ≡ pos 0 =
    r2 ∙ ap (int_rem product) same ∙ ap (λ (z : ℤ). int_rem z factor) (sym e) ∙ rem_of_product n factor some_f in
    left (ap (of_z w128) r3)

-- no integer will do where none will that it gives
pub refused_through : (In In' Will Will' : ℤ → Type 0) (g : ℤ → ℤ) (e : WriteError)
    → ((n : ℤ) → In' n → In (g n)) → ((n : ℤ) → Will' n → Will (g n)) → Refuses In Will e → Refuses In' Will' e
refused_through In In' Will Will' g OffGrid within will nay = λ n h. nay (g n) (will n h)
refused_through In In' Will Will' g OutOfRange within will nay = λ n i h. nay (g n) (within n i) (will n h)
refused_through In In' Will Will' g NotWritable within will nay = nay
refused_through In In' Will Will' g BitOfRegister within will nay = nay
refused_through In In' Will Will' g NotOfKind within will nay = nay
refused_through In In' Will Will' g TooLong within will nay = nay
refused_through In In' Will Will' g NoMemory within will nay = nay

pub units_fit : (scale : Scale) (n : ℤ) → FitsSigned w64 scale.factor → FitsSigned w64 scale.offset → IsOf64 n → FitsSigned w128 (n *ℤ scale.factor +ℤ scale.offset)
units_fit scale n f o small = sum_fits (n *ℤ scale.factor) scale.offset (product_size n scale.factor small f) o

-- the integer that is worth a number is the one of its units
pub product_of_worth : (scale : Scale) (number : Decimal) (units n : ℤ) → IsUnitsOf scale.places number units → IsWorth scale number n
    → n *ℤ scale.factor ≡ units -ℤ scale.offset
product_of_worth scale number units n is h =
    let same : n *ℤ scale.factor +ℤ scale.offset ≡ units =
    cancel (n *ℤ scale.factor +ℤ scale.offset) units (10 ^ (number.places - scale.places)) (one-le-pow (number.places - scale.places) 10 (omega arith)) (h ∙ sym is) in
    omega (arith, ints, same)

-- what the code computes for those units without the offset
plain : (units given offset : ℤ) → FitsSigned w128 units → FitsSigned w64 offset → given ≡ to_z w64 (of_z w64 offset)
    → to_z w128 (of_z w128 units) -ℤ to_z w128 (of_z w128 given) ≡ units -ℤ offset
plain units given offset fits o g =
    let same : given ≡ offset = g ∙ to_z-of_z w64 offset o in
    let wide_o : FitsSigned w128 offset = wide offset o in
    rw same (simp to_z-of_z)

pub not_fitting : (scale : Scale) (number : Decimal) (units given n : ℤ) → FitsSigned w64 scale.factor → FitsSigned w64 scale.offset
    → FitsSigned w128 units → given ≡ to_z w64 (of_z w64 scale.offset) → IsUnitsOf scale.places number units
    → (FitsSigned w128 (to_z w128 (of_z w128 units) -ℤ to_z w128 (of_z w128 given)) → ⊥) → IsOf64 n → IsWorth scale number n → ⊥
not_fitting scale number units given n f o fits g is nay small h =
    let e : n *ℤ scale.factor ≡ to_z w128 (of_z w128 units) -ℤ to_z w128 (of_z w128 given) =
    product_of_worth scale number units n is h ∙ sym (plain units given scale.offset fits o g) in
    nay (subst (λ (z : ℤ). FitsSigned w128 z) e (product_fits n scale.factor small f))

-- an integer is worth the number just where its product is what the code divides
product_is_lem : (scale : Scale) (units given product : ℤ) → FitsSigned w64 scale.offset → FitsSigned w128 units
    → given ≡ to_z w64 (of_z w64 scale.offset)
    → FitsSigned w128 (to_z w128 (of_z w128 units) -ℤ to_z w128 (of_z w128 given)) × (product ≡ to_z w128 (of_z w128 units) -ℤ to_z w128 (of_z w128 given))
    → to_z w128 (of_z w128 product) ≡ units -ℤ scale.offset
product_is_lem scale units given product o fits g made =
    let fits_p : FitsSigned w128 product = subst (λ (z : ℤ). FitsSigned w128 z) (sym made.1) made.0 in
    to_z-of_z w128 product fits_p ∙ made.1 ∙ plain units given scale.offset fits o g

pub worth_ok : (scale : Scale) (number : Decimal) (units given product : ℤ) (r : Result ℤ WriteError) → FitsSigned w64 scale.factor → FitsSigned w64 scale.offset
    → FitsSigned w128 units → given ≡ to_z w64 (of_z w64 scale.offset) → IsUnitsOf scale.places number units
    → FitsSigned w128 (to_z w128 (of_z w128 units) -ℤ to_z w128 (of_z w128 given)) × (product ≡ to_z w128 (of_z w128 units) -ℤ to_z w128 (of_z w128 given))
    → IfOk r (λ n. n *ℤ to_z w64 (of_z w64 scale.factor) ≡ to_z w128 (of_z w128 product)) → IfOk r (IsWorth scale number)
worth_ok scale number units given product (Err e) f o fits g is made h = h
worth_ok scale number units given product (Ok n) f o fits g is made h =
    let p : n *ℤ scale.factor ≡ units -ℤ scale.offset =
    ap (λ (z : ℤ). n *ℤ z) (sym (to_z-of_z w64 scale.factor f)) ∙ h ∙ product_is_lem scale units given product o fits g made in
    let same : n *ℤ scale.factor +ℤ scale.offset ≡ units = omega (arith, ints, p) in
    ap (λ (z : ℤ). z *ℤ pos (10 ^ (number.places - scale.places))) same ∙ is

pub worth_refused : (scale : Scale) (number : Decimal) (units given product : ℤ) (r : Result ℤ WriteError) → FitsSigned w64 scale.factor → FitsSigned w64 scale.offset
    → FitsSigned w128 units → given ≡ to_z w64 (of_z w64 scale.offset) → IsUnitsOf scale.places number units
    → FitsSigned w128 (to_z w128 (of_z w128 units) -ℤ to_z w128 (of_z w128 given)) × (product ≡ to_z w128 (of_z w128 units) -ℤ to_z w128 (of_z w128 given))
    → IfErr r (Refuses IsOf64 (λ n. n *ℤ to_z w64 (of_z w64 scale.factor) ≡ to_z w128 (of_z w128 product)))
    → IfErr r (Refuses IsOf64 (IsWorth scale number))
worth_refused scale number units given product (Ok n) f o fits g is made h = h
worth_refused scale number units given product (Err e) f o fits g is made h =
    let turn : (n : ℤ) → IsWorth scale number n → n *ℤ to_z w64 (of_z w64 scale.factor) ≡ to_z w128 (of_z w128 product) = λ n w.
    ap (λ (z : ℤ). n *ℤ z) (to_z-of_z w64 scale.factor f) ∙ product_of_worth scale number units n is w ∙ sym (product_is_lem scale units given product o fits g made) in
    refused_through IsOf64 IsOf64 (λ n. n *ℤ to_z w64 (of_z w64 scale.factor) ≡ to_z w128 (of_z w128 product)) (IsWorth scale number) (λ n. n) e (λ n i. i) turn h

pub units_refused : (scale : Scale) (number : Decimal) (e : WriteError) → FitsSigned w64 scale.factor → FitsSigned w64 scale.offset
    → Refuses (FitsSigned w128) (IsUnitsOf scale.places number) e → Refuses IsOf64 (IsWorth scale number) e
units_refused scale number e f o h =
    refused_through (FitsSigned w128) IsOf64 (IsUnitsOf scale.places number) (IsWorth scale number) (λ n. n *ℤ scale.factor +ℤ scale.offset) e
    (λ n i. units_fit scale n f o i) (λ n w. w) h
