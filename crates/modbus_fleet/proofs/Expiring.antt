-- Devices whose calls are given up, one key after another.
use Rattle.std.proofs.Common.{◌≡◌, ◌↔◌, ℕ, ◌+◌, ◌<◌, ◌≤◌, Bool, true, false, length, None, Some, Option, sym, ap, ◌∙◌, subst, inl, inr, arith, IsTrue}
use Rattle.std.specs.Prelude.{if◌then◌else◌}
use Rattle.std.proofs.lemmas.Bool.{cases_eq, cases_lt}
use Rattle.std.proofs.lemmas.List.{get_or_past}
use Rattle.slab.specs.Slab.{Slab, get, SameValues}
use Rattle.modbus_fleet.specs.Device.{DeviceState}
use Rattle.modbus_fleet.specs.Fleet.{OthersStay, IsDueAt, given_up, ExpiresOne}

no_false : (b : Bool) → b ≡ false → b ≡ true → ⊥
no_false b e f = cc

module _ {I L : Type 0} where
  -- what one look at a key did
  pub record Looked (now key : ℕ) (old new : Slab (DeviceState I L)) (due : Bool) : Type 0 where
    pub is_due : IsTrue due ↔ IsDueAt now (get old key)
    pub gives_up : get new key ≡ (if due then given_up (get old key) else get old key)
    pub others : OthersStay key old new

  pub passed : (now key : ℕ) (first old new : Slab (DeviceState I L)) (due : Bool) → due ≡ false → Looked now key old new due → SameValues first old → SameValues first new
  passed now key first old new due e looked same k =
      elim (cases_eq k key) [
        | inl here ↦
            subst (λ (n : ℕ). get new n ≡ get first n) (sym here)
            (looked.gives_up ∙ ap (λ (b : Bool). if b then given_up (get old key) else get old key) e ∙ same key)
        | inr differs ↦ looked.others k differs ∙ same k
      ]

  pub none_below : (now key : ℕ) (first old new : Slab (DeviceState I L)) (due : Bool) → due ≡ false → Looked now key old new due → SameValues first old
      → ((k : ℕ) → k < key → IsDueAt now (get first k) → ⊥) → (k : ℕ) → k < key + 1 → IsDueAt now (get first k) → ⊥
  none_below now key first old new due e looked same below k low is_due =
      elim (cases_eq k key) [
        | inl here ↦
            let at_key : IsDueAt now (get first key) = subst (λ (n : ℕ). IsDueAt now (get first n)) here is_due in
            no_false due e (looked.is_due.1 (subst (λ (slot : Option (DeviceState I L)). IsDueAt now slot) (sym (same key)) at_key))
        | inr differs ↦ below k (omega (arith, low, differs)) is_due
      ]

  pub found : (now key : ℕ) (first old new : Slab (DeviceState I L)) (due : Bool) → due ≡ true → Looked now key old new due → SameValues first old → ExpiresOne now first (Some key) new
  found now key first old new due e looked same = (
    subst (λ (slot : Option (DeviceState I L)). IsDueAt now slot) (same key) (looked.is_due.0 e),
    looked.gives_up ∙ ap (λ (b : Bool). if b then given_up (get old key) else get old key) e ∙ ap given_up (same key),
    λ other differs. looked.others other differs ∙ same other,
  )

  vacant_past : (s : Slab (DeviceState I L)) (k : ℕ) → length s.slots ≤ k → get s k ≡ None
  vacant_past s k past = get_or_past s.slots k None past

  pub none_due : (now end : ℕ) (first last : Slab (DeviceState I L)) → length first.slots ≤ end → ((k : ℕ) → k < end → IsDueAt now (get first k) → ⊥) → SameValues first last
      → ExpiresOne now first None last
  none_due now end first last within below same k = (
    λ is_due.
        elim (cases_lt k end) [
          | inl low ↦ below k low is_due
          | inr past ↦ subst (λ (slot : Option (DeviceState I L)). IsDueAt now slot) (vacant_past first k (omega (arith, within, past))) is_due
        ],
    same k,
  )
