-- Which connection has not moved for longest, over all keys.
use Rattle.std.proofs.Common.{◌≡◌, ◌≤◌, ◌<◌, ◌+◌, ℕ, Option, Some, None, IsSome, inl, inr, refl, sym, ap, ◌∙◌, subst, length, arith}
use Rattle.std.proofs.lemmas.Bool.{cases_eq}
use Rattle.slab.specs.Slab.{Slab, get}
use Rattle.slab.proofs.SlabLemmas.{ContainsKey-within}
use Rattle.modbus_hub.specs.declared.seats.Idle.{Idle}
use Rattle.modbus_hub.specs.Events.{Place}
use Rattle.modbus_hub.specs.Seats.{last_at}
use Rattle.modbus_hub.specs.Idlest.{IsIdlest, IsIdlestBelow, IsIdlestOf}

module _ {L : Type 0} where
  none_there : (slot : Option (Place L)) → (IsSome slot → slot ≡ None) → slot ≡ None
  none_there None other = refl
  none_there (Some place) other = other refl

  pub idlest_all : (seats : Slab (Place L)) (below : ℕ) → length seats.slots ≤ below → (found : Option Idle) → IsIdlestBelow below seats found → IsIdlest seats found
  idlest_all seats below room None none =
      λ key. none_there (get seats key) (λ there. none key (let within = ContainsKey-within seats key there in omega (arith, within, room)))
  idlest_all seats below room (Some idle) is = record {
    place = is.place;
    there = is.there;
    last = is.last;
    least = λ key other all here.
        is.least key other (let within = ContainsKey-within seats key (subst IsSome (sym here) refl) in omega (arith, within, room)) here;
  }

  no_some : (slot : Option (Place L)) (place : Place L) → slot ≡ None → slot ≡ Some place → ⊥
  no_some slot place e f = cc

  -- there is no connection under the next key
  pub idler_none : (seats : Slab (Place L)) (key : ℕ) (found : Option Idle) → get seats key ≡ None → IsIdlestBelow key seats found → IsIdlestBelow (key + 1) seats found
  idler_none seats key None none before =
      λ k low.
      elim (cases_eq k key) [
        | inl same ↦ subst (λ (n : ℕ). get seats n ≡ None) (sym same) none
        | inr differs ↦ before k (omega (arith, low, differs))
      ]
  idler_none seats key (Some idle) none before = record {
    place = before.place;
    there = before.there;
    last = before.last;
    least = λ k other low here.
        elim (cases_eq k key) [
          | inl same ↦ absurd (no_some (get seats key) other none (subst (λ (n : ℕ). get seats n ≡ Some other) same here))
          | inr differs ↦ before.least k other (omega (arith, low, differs)) here
        ];
  }

  -- there is one, and it is compared with what was found so far
  module _ (seats : Slab (Place L)) (key : ℕ) (place : Place L) (there : get seats key ≡ Some place) where
    same_last : (k : ℕ) (other : Place L) → k ≡ key → get seats k ≡ Some other → place.last ≡ other.last
    same_last k other same here = ap last_at (sym there ∙ subst (λ (n : ℕ). get seats n ≡ Some other) same here)

    pub idler_first : (last : ℕ) → last ≡ place.last → IsIdlestBelow key seats None → IsIdlestOf (λ k. k < key + 1) seats (record { key = key; last = last })
    idler_first last e before = record {
      place = place;
      there = there;
      last = e;
      least = λ k other low here.
          elim (cases_eq k key) [
            | inl same ↦ let is = same_last k other same here in omega (arith, e, is)
            | inr differs ↦ absurd (no_some (get seats k) other (before k (omega (arith, low, differs))) here)
          ];
    }

    pub idler_stays : (idle : Idle) → idle.last ≤ place.last → IsIdlestBelow key seats (Some idle) → IsIdlestOf (λ k. k < key + 1) seats idle
    idler_stays idle less before = record {
      place = before.place;
      there = before.there;
      last = before.last;
      least = λ k other low here.
          elim (cases_eq k key) [
            | inl same ↦ let is = same_last k other same here in omega (arith, less, is)
            | inr differs ↦ before.least k other (omega (arith, low, differs)) here
          ];
    }

    pub idler_new : (idle : Idle) (last : ℕ) → last ≡ place.last → last ≤ idle.last → IsIdlestBelow key seats (Some idle)
        → IsIdlestOf (λ k. k < key + 1) seats (record { key = key; last = last })
    idler_new idle last e less before = record {
      place = place;
      there = there;
      last = e;
      least = λ k other low here.
          elim (cases_eq k key) [
            | inl same ↦ let is = same_last k other same here in omega (arith, e, is)
            | inr differs ↦ let more = before.least k other (omega (arith, low, differs)) here in omega (arith, less, more)
          ];
    }
