-- When two values are equal: the parts of the proofs that derived equality is that of the meaning.
use Rattle.std.proofs.Common.{◌≡◌, ℕ, Bool, true, false, ◌&&◌, eqb, refl, sym, ap, ◌∙◌, eq-eqb, rules}
use Rattle.std.proofs.lemmas.Bool.{false≢true}
use Rattle.std.specs.Prelude.{nat_eq}
use Rattle.std.specs.Bool.{Decides}
use Rattle.std.specs.Cmp.Lexicographic.{pointwise}
use Rattle.std.proofs.lemmas.Bool.Decides.{Decides-eqb}
use Rattle.std.proofs.lemmas.Slice.Eq.{bytes_eq-Decides}
use Rattle.modbus_frame.specs.declared.identification.DeviceIdObject.{DeviceIdObject}
use Rattle.modbus_frame.specs.declared.code.ReadCode.{ReadCode}
use Rattle.modbus_frame.specs.contracts.code.ReadCodePartialEq.TheImpl as derived_code

-- one fact, in other words
pub one : {P R : Type 0} (x : Bool) → Decides x P → (P → R) → (R → P) → Decides x R
one x d to from = ((λ h. to (d.0 h)), λ r. d.1 (from r))

-- two facts, which together are a third
pub both : {P Q R : Type 0} (x y : Bool) → Decides x P → Decides y Q → (P → Q → R) → (R → P) → (R → Q) → Decides (x && y) R
both true true d e join first second = ((λ _. join (d.0 refl) (e.0 refl)), λ _. refl)
both true false d e join first second = ((λ h. absurd cc), λ r. e.1 (second r))
both false y d e join first second = ((λ h. absurd cc), λ r. d.1 (first r))

-- values of two kinds are two values
pub differ : {A : Type 0} (kind : A → ℕ) {x y : A} → x ≡ y → eqb (kind x) (kind y) ≡ false → ⊥
differ kind {x} {y} e apart = false≢true (sym apart ∙ eq-eqb (kind x) (kind y) (ap kind e))

-- two objects of a device identification: their ids are equal, and so are the bytes of their values
abbrev same_object : DeviceIdObject → DeviceIdObject → Bool
same_object x y = nat_eq x.id y.id && pointwise nat_eq x.value y.value

-- so they are one object
pub objects_Decide : (x y : DeviceIdObject) → Decides (same_object x y) (x ≡ y)
objects_Decide x y = both _ _ (Decides-eqb x.id y.id) (bytes_eq-Decides x.value y.value) (λ p q i. record { id = p i; value = q i }) (λ r. ap (λ (o : DeviceIdObject). o.id) r) (λ r. ap (λ (o : DeviceIdObject). o.value) r)

pub codes_Decide : (x y : ReadCode) → Decides (derived_code.eq-value.it x y) (x ≡ y)
codes_Decide x y = search rules
