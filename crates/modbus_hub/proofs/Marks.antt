-- What is known to be left, over all connections.
use Rattle.std.proofs.Common.{◌≡◌, ◌≢◌, inl, inr, ◌<◌, ◌+◌, ◌∙◌, ◌⊎◌, ℕ, Option, Some, None, Bool, true, false, if◌then◌else◌, refl, sym, ap, subst, arith, IsTrue}
use Rattle.std.proofs.lemmas.Bool.{cases_eq}
use Rattle.slab.specs.Slab.{Slab, Updates, get}
use Rattle.modbus_hub.specs.Events.{Place}
use Rattle.modbus_hub.specs.Progress.{is_late, later}
use Rattle.modbus_hub.specs.Seats.{SeatsState, IsOneLeft, KeepsMarks, MarksLeft, SameLeft, is_spent_at, kept, on_time}

no_both : (b : Bool) → b ≡ false → b ≡ true → ⊥
no_both b e f = cc

module _ {L : Type 0} where
  -- below a key
  abbrev pub MarksBelow : ℕ → SeatsState L → Type 0
  MarksBelow below seats = (key : ℕ) → key < below → IsTrue (is_spent_at (get seats.seats key)) → IsTrue seats.has_spent

  pub marks_below : (now next : SeatsState L) (key : ℕ) → ((other : ℕ) → other ≢ key → get next.seats other ≡ get now.seats other) → (IsTrue now.has_spent → IsTrue next.has_spent)
      → (IsTrue (is_spent_at (get next.seats key)) → IsTrue next.has_spent) → MarksBelow key now → MarksBelow (key + 1) next
  marks_below now next key others stays marks below k low spent =
      elim (cases_eq k key) [
        | inl same ↦ marks (subst (λ (n : ℕ). IsTrue (is_spent_at (get next.seats n))) same spent)
        | inr differs ↦ stays (below k (omega (arith, low, differs)) (subst (λ (slot : Option (Place L)). IsTrue (is_spent_at slot)) (others k differs) spent))
      ]

  -- one is left below a key
  abbrev pub OneBelow : ℕ → SeatsState L → Type 0
  OneBelow below seats = IsTrue seats.has_spent → (key : ℕ) × (key < below) × IsTrue (is_spent_at (get seats.seats key))

  pub one_below : (now next : SeatsState L) (key : ℕ) → ((other : ℕ) → other ≢ key → get next.seats other ≡ get now.seats other)
      → (IsTrue next.has_spent → IsTrue now.has_spent ⊎ IsTrue (is_spent_at (get next.seats key))) → OneBelow key now → OneBelow (key + 1) next
  one_below now next key others knows below known =
      elim (knows known) [
        | inl before ↦
            let on = below before in
            let differs : on.0 ≢ key = λ e. omega (arith, on.1, e) in
            (on.0, omega (arith, on.1), subst (λ (slot : Option (Place L)). IsTrue (is_spent_at slot)) (sym (others on.0 differs)) on.2)
        | inr here ↦ (key, omega arith, here)
      ]

  pub same_both : (a b c : SeatsState L) → SameLeft a b → SameLeft b c → SameLeft a c
  same_both a b c first second = (second.0 ∙ first.0, λ key. second.1 key ∙ first.1 key)

  pub marks_same : (old new : SeatsState L) → SameLeft old new → MarksLeft old → MarksLeft new
  marks_same old new same marks key spent = subst IsTrue (sym same.0) (marks key (subst IsTrue (same.1 key) spent))

  pub one_same : (old new : SeatsState L) → SameLeft old new → IsOneLeft old → IsOneLeft new
  one_same old new same one known =
      let on = one (subst IsTrue same.0 known) in
      (on.0, subst IsTrue (sym (same.1 on.0)) on.1)

  -- a new connection has had no turn
  pub same_admitted : (olds news : Slab (Place L)) (key : ℕ) → is_spent_at (get news key) ≡ false → get olds key ≡ None
      → ((other : ℕ) → other ≢ key → get news other ≡ get olds other) → (k : ℕ) → is_spent_at (get news k) ≡ is_spent_at (get olds k)
  same_admitted olds news key fresh vacant others k =
      elim (cases_eq k key) [
        | inl same ↦ subst (λ (n : ℕ). is_spent_at (get news n) ≡ is_spent_at (get olds n)) (sym same) (fresh ∙ sym (ap is_spent_at vacant))
        | inr differs ↦ ap is_spent_at (others k differs)
      ]

  pub marks_at : (old new : SeatsState L) (key : ℕ) → ((other : ℕ) → other ≢ key → get new.seats other ≡ get old.seats other) → (IsTrue old.has_spent → IsTrue new.has_spent)
      → (IsTrue (is_spent_at (get new.seats key)) → IsTrue new.has_spent) → KeepsMarks old new
  marks_at old new key others stays marks all k spent =
      elim (cases_eq k key) [
        | inl same ↦ marks (subst (λ (n : ℕ). IsTrue (is_spent_at (get new.seats n))) same spent)
        | inr differs ↦ stays (all k (subst (λ (slot : Option (Place L)). IsTrue (is_spent_at slot)) (others k differs) spent))
      ]

  spent_if : (stays : Bool) (place now : Place L) → now.is_spent ≡ place.is_spent → IsTrue (is_spent_at (if stays then Some now else None)) → IsTrue place.is_spent
  spent_if true place now same spent = subst IsTrue same spent
  spent_if false place now same spent = absurd (no_both false refl spent)

  spent_unless : (goes : Bool) (place now : Place L) → now.is_spent ≡ place.is_spent → IsTrue (is_spent_at (if goes then None else Some now)) → IsTrue place.is_spent
  spent_unless false place now same spent = subst IsTrue same spent
  spent_unless true place now same spent = absurd (no_both false refl spent)

  pub spent_kept : (slot : Option (Place L)) → IsTrue (is_spent_at (kept slot)) → IsTrue (is_spent_at slot)
  spent_kept None spent = spent
  spent_kept (Some place) spent = spent_if place.is_fresh place (record place { is_fresh = false }) refl spent

  pub spent_on_time : (slot : Option (Place L)) → IsTrue (is_spent_at (on_time slot)) → IsTrue (is_spent_at slot)
  spent_on_time None spent = spent
  spent_on_time (Some place) spent = spent_unless (is_late place.progress) place (record place { progress = later place.progress }) refl spent

  marks_stay : (stays : Option (Place L) → Option (Place L)) (old new : SeatsState L) → ((slot : Option (Place L)) → IsTrue (is_spent_at (stays slot)) → IsTrue (is_spent_at slot))
      → ((key : ℕ) → get new.seats key ≡ stays (get old.seats key)) → (IsTrue old.has_spent → IsTrue new.has_spent) → KeepsMarks old new
  marks_stay stays old new unmade lets same all k spent =
      same (all k (unmade (get old.seats k) (subst (λ (slot : Option (Place L)). IsTrue (is_spent_at slot)) (lets k) spent)))

  pub marks_kept : (old new : SeatsState L) → ((key : ℕ) → get new.seats key ≡ kept (get old.seats key)) → (IsTrue old.has_spent → IsTrue new.has_spent) → KeepsMarks old new
  marks_kept old new lets same = marks_stay kept old new spent_kept lets same

  pub marks_on_time : (old new : SeatsState L) → ((key : ℕ) → get new.seats key ≡ on_time (get old.seats key)) → (IsTrue old.has_spent → IsTrue new.has_spent) → KeepsMarks old new
  marks_on_time old new lets same = marks_stay on_time old new spent_on_time lets same

  -- a connection that is gone leaves no mark
  pub marks_gone : (old new : SeatsState L) (key : ℕ) → Updates old.seats new.seats key None → (IsTrue old.has_spent → IsTrue new.has_spent) → KeepsMarks old new
  marks_gone old new key u stays =
      marks_at old new key u.others stays (λ spent. absurd (no_both (is_spent_at (get new.seats key)) (ap is_spent_at u.changed) spent))
