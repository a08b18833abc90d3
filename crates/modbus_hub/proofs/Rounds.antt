-- Rounds over all connections.
use Rattle.std.proofs.Common.{◌≡◌, ◌≢◌, ◌⊎◌, inl, inr, ◌<◌, ◌≤◌, ◌+◌, ℕ, List, [], ◌∷◌, ◌++◌, Option, Some, None, IsSome, Bool, true, false, length, refl, ap, ◌∙◌, sym, subst, arith, IsTrue}
use Rattle.std.proofs.lemmas.Bool.{cases_eq}
use Rattle.slab.specs.Slab.{Slab, get, Updates}
use Rattle.slab.proofs.SlabLemmas.{ContainsKey-within}
use Rattle.modbus_ready.specs.declared.readiness.Ready.{Ready}
use Rattle.modbus_hub.specs.Events.{Event, came, refused, told, turned, dropped, Place, HasAnyTurn, TurnsAmong}
use Rattle.modbus_hub.specs.Seats.{is_spent_at, IsDrop, IsFound, IsLeft, ServesInTurn, ServesSpent, TurnsIfLeft}
use Rattle.modbus_hub.proofs.Histories.{among_as, among_both, serves_both, turn_before, turn_after}

no_both : (b : Bool) → b ≡ false → b ≡ true → ⊥
no_both b e f = cc

module _ {L : Type 0} where
  -- those below a key had their turn, but those that were found ready
  abbrev pub ServesBelow : List Ready → ℕ → Slab (Place L) → List (Event L) → List (Event L) → Type 0
  ServesBelow found below old history more = ServesInTurn history more
      × ((key : ℕ) → key < below → IsTrue (is_spent_at (get old key)) → IsFound key found ⊎ HasAnyTurn key more)
      × TurnsAmong (λ key. (key < below) × IsLeft found key (get old key)) more

  abbrev LikeAbove : ℕ → Slab (Place L) → Slab (Place L) → Type 0
  LikeAbove key old now = (k : ℕ) → key ≤ k → get now k ≡ get old k

  pub same_above : (old now next : Slab (Place L)) (key : ℕ) → ((k : ℕ) → k ≢ key → get next k ≡ get now k) → LikeAbove key old now → LikeAbove (key + 1) old next
  same_above old now next key others above k high = others k (λ e. omega (arith, e, high)) ∙ above k (omega (arith, high))

  pub serves_below : (found : List Ready) (old now : Slab (Place L)) (key : ℕ) → LikeAbove key old now → (history xs ys : List (Event L)) → ServesBelow found key old history xs
      → TurnsIfLeft found key (get now key) (history ++ xs) ys → ServesBelow found (key + 1) old history (xs ++ ys)
  serves_below found old now key above history xs ys first second =
      let here : get now key ≡ get old key = above key (omega arith) in (
        serves_both history xs ys first.0 second.0,
        λ k low spent.
            elim (cases_eq k key) [
              | inl same ↦
                  elim (second.1 (subst (λ (slot : Option (Place L)). IsTrue (is_spent_at slot)) (sym here) (subst (λ (n : ℕ). IsTrue (is_spent_at (get old n))) same spent))) [
                    | inl is ↦ inl (subst (λ (n : ℕ). IsFound n found) (sym same) is)
                    | inr had ↦ inr (turn_before k xs ys (subst (λ (n : ℕ). HasAnyTurn n ys) (sym same) had))
                  ]
              | inr differs ↦
                  elim (first.1 k (omega (arith, low, differs)) spent) [
                    | inl is ↦ inl is
                    | inr had ↦ inr (turn_after k xs ys had)
                  ]
            ],
        among_both (λ k. (k < key) × IsLeft found k (get old k)) (λ k. (k ≡ key) × IsLeft found key (get now key)) (λ k. (k < key + 1) × IsLeft found k (get old k))
            xs ys first.2 second.2
            (λ k is. (omega (arith, is.0), is.1))
            (λ k is. (omega (arith, is.0), subst (λ (n : ℕ). IsLeft found n (get old n)) (sym is.0) (subst (λ (slot : Option (Place L)). IsLeft found key slot) here is.1)))
            (λ k low is. omega (arith, low.0, is.0)),
      )

  some_if_spent : (slot : Option (Place L)) → IsTrue (is_spent_at slot) → IsSome slot
  some_if_spent None spent = absurd (no_both false refl spent)
  some_if_spent (Some place) spent = refl

  pub serves_all : (found : List Ready) (old : Slab (Place L)) (below : ℕ) → length old.slots ≤ below → (history more : List (Event L)) → ServesBelow found below old history more
      → ServesSpent found old history more
  serves_all found old below room history more serves = (
    serves.0,
    λ key spent. serves.1 key (let within = ContainsKey-within old key (some_if_spent (get old key) spent) in omega (arith, within, room)) spent,
    among_as (λ key. (key < below) × IsLeft found key (get old key)) (λ key. IsLeft found key (get old key)) more serves.2 (λ key is. is.1),
  )

  -- of what stays of each connection
  pub drops_below : (stays : Option (Place L) → Option (Place L)) (old now next : Slab (Place L)) (key : ℕ) → Updates now next key (stays (get now key))
      → ((k : ℕ) → k < key → get now k ≡ stays (get old k)) → LikeAbove key old now → (k : ℕ) → k < key + 1 → get next k ≡ stays (get old k)
  drops_below stays old now next key u below above k low =
      elim (cases_eq k key) [
        | inl same ↦ subst (λ (n : ℕ). get next n ≡ stays (get old n)) (sym same) (u.changed ∙ ap stays (above key (omega arith)))
        | inr differs ↦ u.others k differs ∙ below k (omega (arith, low, differs))
      ]

  drop_any : (history later more : List (Event L)) → IsDrop history more → IsDrop later more
  drop_any history later [] s = tt
  drop_any history later (dropped key ∷ more) s = drop_any history later more s
  drop_any history later (came key link ∷ more) s = absurd s
  drop_any history later (refused cause link ∷ more) s = absurd s
  drop_any history later (told key x ∷ more) s = absurd s
  drop_any history later (turned key link turn ∷ more) s = absurd s

  pub drops_both : (history xs ys : List (Event L)) → IsDrop history xs → IsDrop (history ++ xs) ys → IsDrop history (xs ++ ys)
  drops_both history [] ys first second = drop_any (history ++ []) history ys second
  drops_both history (dropped key ∷ more) ys first second = drops_both history more ys first (drop_any (history ++ dropped key ∷ more) (history ++ more) ys second)
  drops_both history (came key link ∷ more) ys first second = absurd first
  drops_both history (refused cause link ∷ more) ys first second = absurd first
  drops_both history (told key x ∷ more) ys first second = absurd first
  drops_both history (turned key link turn ∷ more) ys first second = absurd first
