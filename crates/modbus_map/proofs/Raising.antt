-- Places more, and places less.
use Rattle.std.proofs.Common.{◌≡◌, ℕ, suc, ◌-◌, ◌^◌, sym, ap, subst, ◌∙◌, arith, ℤ, pos, ◌*ℤ◌, FitsSigned, int_rem, int_div, to_z, of_z, Option, Some, None, IfSome, IfNone}
use Rattle.std.specs.Option.{SomeIff}
use Rattle.std.proofs.Math.Nat.{one-le-pow}
use Rattle.std.proofs.lemmas.Int.{ints, to_z-of_z}
use Rattle.std.specs.Int.{w128}
use Rattle.modbus_map.proofs.Multiples.{shrinks, cancel, rem_of_product, tenfold, tenfold_last}

one_more : (n : ℕ) → (n ≡ 0 → ⊥) → suc (n - 1) ≡ n
one_more n some = omega arith

pub raised_some : (units ten : ℤ) (more : ℕ) (r : Option ℤ) → FitsSigned w128 units → (more ≡ 0 → ⊥)
    → FitsSigned w128 (to_z w128 (of_z w128 units) *ℤ pos 10) × (ten ≡ to_z w128 (of_z w128 units) *ℤ pos 10)
    → SomeIff r (FitsSigned w128 (to_z w128 (of_z w128 ten) *ℤ pos (10 ^ (more - 1)))) (to_z w128 (of_z w128 ten) *ℤ pos (10 ^ (more - 1)))
    → SomeIff r (FitsSigned w128 (units *ℤ pos (10 ^ more))) (units *ℤ pos (10 ^ more))
raised_some units ten more r fits some made h =
    let e1 : to_z w128 (of_z w128 units) ≡ units = to_z-of_z w128 units fits in
    let fits2 : FitsSigned w128 ten = subst (λ (z : ℤ). FitsSigned w128 z) (sym made.1) made.0 in
    let e : to_z w128 (of_z w128 ten) *ℤ pos (10 ^ (more - 1)) ≡ units *ℤ pos (10 ^ more) =
    ap (λ (z : ℤ). z *ℤ pos (10 ^ (more - 1))) (to_z-of_z w128 ten fits2 ∙ made.1 ∙ ap (λ (z : ℤ). z *ℤ pos 10) e1)
    ∙ tenfold units (more - 1) ∙ ap (λ (k : ℕ). units *ℤ pos (10 ^ k)) (one_more more some) in
    subst (λ (z : ℤ). SomeIff r (FitsSigned w128 z) z) e h

pub raised_none : (units : ℤ) (more : ℕ) → FitsSigned w128 units → (more ≡ 0 → ⊥)
    → (FitsSigned w128 (to_z w128 (of_z w128 units) *ℤ pos 10) → ⊥) → FitsSigned w128 (units *ℤ pos (10 ^ more)) → ⊥
raised_none units more fits some not h =
    let e1 : to_z w128 (of_z w128 units) ≡ units = to_z-of_z w128 units fits in
    let e : units *ℤ pos (10 ^ more) ≡ units *ℤ pos 10 *ℤ pos (10 ^ (more - 1)) =
    ap (λ (k : ℕ). units *ℤ pos (10 ^ k)) (sym (one_more more some)) ∙ sym (tenfold units (more - 1)) in
    let fits2 : FitsSigned w128 (units *ℤ pos 10) =
    shrinks (units *ℤ pos 10) (10 ^ (more - 1)) (one-le-pow (more - 1) 10 (omega arith)) (subst (λ (z : ℤ). FitsSigned w128 z) e h) in
    not (subst (λ (z : ℤ). FitsSigned w128 (z *ℤ pos 10)) (sym e1) fits2)

-- the last digit stands apart
apart : (rest : ℤ) (fewer : ℕ) → (fewer ≡ 0 → ⊥) → rest *ℤ pos (10 ^ fewer) ≡ rest *ℤ pos (10 ^ (fewer - 1)) *ℤ pos 10
apart rest fewer some = ap (λ (k : ℕ). rest *ℤ pos (10 ^ k)) (sym (one_more fewer some)) ∙ sym (tenfold_last rest (fewer - 1))

pub lowered_other : (units rest : ℤ) (fewer : ℕ) → FitsSigned w128 units → (fewer ≡ 0 → ⊥)
    → (of_z w128 (int_rem (to_z w128 (of_z w128 units)) (pos 10)) ≡ 0 → ⊥) → rest *ℤ pos (10 ^ fewer) ≡ units → ⊥
lowered_other units rest fewer fits some other e =
    let e1 : to_z w128 (of_z w128 units) ≡ units = to_z-of_z w128 units fits in
    let product : units ≡ rest *ℤ pos (10 ^ (fewer - 1)) *ℤ pos 10 = sym e ∙ apart rest fewer some in
    let zero : int_rem units (pos 10) ≡ pos 0 =
    ap (λ (z : ℤ). int_rem z (pos 10)) product ∙ rem_of_product (rest *ℤ pos (10 ^ (fewer - 1))) (pos 10) (omega arith) in
    other (ap (λ (z : ℤ). of_z w128 (int_rem z (pos 10))) e1 ∙ ap (of_z w128) zero)

whole : (units : ℤ) → FitsSigned w128 units → of_z w128 (int_rem (to_z w128 (of_z w128 units)) (pos 10)) ≡ 0
    → to_z w128 (of_z w128 (int_div (to_z w128 (of_z w128 units)) (pos 10))) *ℤ pos 10 ≡ units
whole units fits zero = omega (arith, ints)

pub lowered_some : (units : ℤ) (fewer : ℕ) (r : Option ℤ) → FitsSigned w128 units → (fewer ≡ 0 → ⊥)
    → of_z w128 (int_rem (to_z w128 (of_z w128 units)) (pos 10)) ≡ 0
    → IfSome r (λ rest. rest *ℤ pos (10 ^ (fewer - 1)) ≡ to_z w128 (of_z w128 (int_div (to_z w128 (of_z w128 units)) (pos 10))))
    → IfSome r (λ rest. rest *ℤ pos (10 ^ fewer) ≡ units)
lowered_some units fewer None fits some zero h = h
lowered_some units fewer (Some rest) fits some zero h =
    apart rest fewer some ∙ ap (λ (z : ℤ). z *ℤ pos 10) h ∙ whole units fits zero

pub lowered_none : (units : ℤ) (fewer : ℕ) (r : Option ℤ) → FitsSigned w128 units → (fewer ≡ 0 → ⊥)
    → of_z w128 (int_rem (to_z w128 (of_z w128 units)) (pos 10)) ≡ 0
    → IfNone r ((rest : ℤ) → ¬ (rest *ℤ pos (10 ^ (fewer - 1)) ≡ to_z w128 (of_z w128 (int_div (to_z w128 (of_z w128 units)) (pos 10)))))
    → IfNone r ((rest : ℤ) → ¬ (rest *ℤ pos (10 ^ fewer) ≡ units))
lowered_none units fewer (Some rest) fits some zero h = h
lowered_none units fewer None fits some zero h = λ rest e.
    h rest (cancel _ _ 10 (omega arith) (sym (apart rest fewer some) ∙ e ∙ sym (whole units fits zero)))
