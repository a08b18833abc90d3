-- One integer alone is worth a number.
use Rattle.std.proofs.Common.{◌≡◌, ◌⊎◌, ℕ, zero, suc, ◌-◌, ◌*◌, ◌^◌, refl, sym, subst, inl, inr, ◌∙◌, arith, true, ℤ, pos, negsuc, ◌*ℤ◌, ◌+ℤ◌}
use Rattle.std.proofs.Math.IntN.{*ℤ-negsuc}
use Rattle.std.proofs.Math.Nat.{one-le-pow}
use Rattle.std.proofs.lemmas.Int.{ints}
use Rattle.std.proofs.lemmas.Nat.{pow_pos}
use Rattle.modbus_map.specs.declared.decimal.Decimal.{Decimal}
use Rattle.modbus_map.specs.declared.kind.Kind.{Kind}
use Rattle.modbus_map.specs.declared.kind.Kind.TheVariants as kind
use Rattle.modbus_map.specs.declared.scale.Scale.{Scale}
use Rattle.modbus_map.specs.Kinds.{width, is_integer}
use Rattle.modbus_map.specs.Values.{integer_as}
use Rattle.modbus_map.specs.Writing.{IsWorth, IsOfKind}
use Rattle.modbus_map.proofs.Multiples.{cancel}

zero_as : (kind : Kind) → integer_as kind 0 ≡ pos 0
zero_as kind.Bool = refl
zero_as (kind.Bit place) = refl
zero_as kind.U16 = refl
zero_as kind.I16 = refl
zero_as kind.U32 = refl
zero_as kind.I32 = refl
zero_as kind.U64 = refl
zero_as kind.I64 = refl
zero_as kind.F32 = refl
zero_as kind.F64 = refl
zero_as (kind.Text count) = refl

zero_of_kind : (kind : Kind) → is_integer kind ≡ true → IsOfKind kind (pos 0)
zero_of_kind kind e = (0, pow_pos (16 * width kind), e, zero_as kind)

negative : (n m : ℤ) (k : ℕ) → n *ℤ negsuc k ≡ m *ℤ negsuc k → n *ℤ pos (suc k) ≡ m *ℤ pos (suc k)
negative n m k e = omega (arith, ints, sym (*ℤ-negsuc n k) ∙ e ∙ *ℤ-negsuc m k)

same_factor : (n m f : ℤ) → n *ℤ f ≡ m *ℤ f → (f ≡ pos 0) ⊎ (n ≡ m)
same_factor n m (pos zero) e = inl refl
same_factor n m (pos (suc k)) e = inr (cancel n m (suc k) (omega arith) e)
same_factor n m (negsuc k) e = inr (cancel n m (suc k) (omega arith) (negative n m k e))

-- where that one is none of the kind, none of the kind is worth it
pub only_one : (kind : Kind) (scale : Scale) (number : Decimal) (n m : ℤ) → IsWorth scale number m → (scale.factor ≡ pos 0 → m ≡ pos 0)
    → (IsOfKind kind m → ⊥) → IsOfKind kind n → IsWorth scale number n → ⊥
only_one kind scale number n m is is_zero other of_kind worth =
    let same : n *ℤ scale.factor +ℤ scale.offset ≡ m *ℤ scale.factor +ℤ scale.offset =
    cancel (n *ℤ scale.factor +ℤ scale.offset) (m *ℤ scale.factor +ℤ scale.offset) (10 ^ (number.places - scale.places))
    (one-le-pow (number.places - scale.places) 10 (omega arith)) (worth ∙ sym is) in
    let products : n *ℤ scale.factor ≡ m *ℤ scale.factor = omega (arith, ints, same) in
    elim (same_factor n m scale.factor products) [
      | inl z ↦ other (subst (λ (z : ℤ). IsOfKind kind z) (sym (is_zero z)) (zero_of_kind kind of_kind.2))
      | inr e ↦ other (subst (λ (z : ℤ). IsOfKind kind z) e of_kind)
    ]
