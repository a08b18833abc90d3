-- Rounds, one after another.
use Rattle.std.proofs.Common.{◌≡◌, ℕ, Bool, List, [], ◌∷◌, ◌++◌, Result, Ok, Err, refl, sym, ap, ◌∙◌, subst, append_assoc, append-nil}
use Rattle.modbus_link.specs.declared.outside.Failed.{Failed}
use Rattle.modbus_link.specs.declared.polled.Polled.{Polled}
use Rattle.modbus_ready.specs.declared.readiness.Ready.{Ready}
use Rattle.modbus_hub.specs.declared.sweeps.Deadlines.{Deadlines}
use Rattle.modbus_hub.specs.Events.{Event}
use Rattle.modbus_hub.specs.Sweeps.{Reading, Sweeps, begun_with}
use Rattle.modbus_hub.specs.Turns.{ServerState, Round, Comes, GoesByRounds, RoundAndDrops, TellsRound, TellsRounds}
use Rattle.modbus_hub.proofs.Rounding.{comes_both}

-- when it is looked next after these rounds
abbrev pub sweeps_after : {A S L : Type 0} → Sweeps → List (Round A S L) → Sweeps
sweeps_after sweeps [] = sweeps
sweeps_after sweeps (round ∷ rounds) = sweeps_after round.sweeps rounds

module _ {A S L : Type 0} (accepts : A → Result (Polled L) Failed → A → Type 0) (faults : S → ℕ) (found : S → List Ready) (lacks : A → Bool) where
  rounds_after : (rounds : List (Round A S L)) (sweeps next_sweeps : Sweeps) (old now next : ServerState A S L) (history xs ys : List (Event L))
      → GoesByRounds accepts faults found lacks rounds sweeps old now history xs → RoundAndDrops accepts faults found lacks (sweeps_after sweeps rounds) next_sweeps now next (history ++ xs) ys
      → GoesByRounds accepts faults found lacks (rounds ++ (record { left = next; sweeps = next_sweeps; happened = ys }) ∷ []) sweeps old next history (xs ++ ys)
  rounds_after [] sweeps next_sweeps old now next history xs ys goes last = (
    [],
    ap (λ (l : List (Event L)). l ++ ys) goes.0 ∙ sym (append-nil ys),
    subst (λ (h : List (Event L)). RoundAndDrops accepts faults found lacks sweeps next_sweeps old next h ys) (ap (λ (l : List (Event L)). history ++ l) goes.0 ∙ append-nil history)
        (subst (λ (s : ServerState A S L). RoundAndDrops accepts faults found lacks sweeps next_sweeps s next (history ++ xs) ys) goes.1 last),
    (refl, refl),
  )
  rounds_after (round ∷ rounds) sweeps next_sweeps old now next history xs ys goes last = (
    goes.0 ++ ys,
    ap (λ (l : List (Event L)). l ++ ys) goes.1 ∙ append_assoc round.happened goes.0 ys,
    goes.2,
    rounds_after rounds round.sweeps next_sweeps round.left now next (history ++ round.happened) goes.0 ys goes.3
        (subst (λ (h : List (Event L)). RoundAndDrops accepts faults found lacks (sweeps_after round.sweeps rounds) next_sweeps now next h ys)
        (ap (λ (l : List (Event L)). history ++ l) goes.1 ∙ sym (append_assoc history round.happened goes.0)) last),
  )

  sweeps_more : (rounds : List (Round A S L)) (sweeps : Sweeps) (round : Round A S L) → sweeps_after sweeps (rounds ++ round ∷ []) ≡ round.sweeps
  sweeps_more [] sweeps round = refl
  sweeps_more (first ∷ rounds) sweeps round = sweeps_more rounds first.sweeps round

  -- rounds so far, and when it is looked next
  abbrev pub RoundsSoFar : Deadlines → Sweeps → ServerState A S L → ServerState A S L → List (Event L) → List (Event L) → Type 0
  RoundsSoFar deadlines sweeps old now history more = Comes accepts faults old now history more
      × ((first : Reading) × (first.number ≡ 1) × (rounds : List (Round A S L)) × GoesByRounds accepts faults found lacks rounds (begun_with deadlines first) old now history more
      × (sweeps ≡ sweeps_after (begun_with deadlines first) rounds))

  pub so_far : (deadlines : Deadlines) (sweeps : Sweeps) (old now : ServerState A S L) (history more : List (Event L)) → RoundsSoFar deadlines sweeps old now history more
      → {R : Type 0} → (done : R) → TellsRounds accepts faults found lacks deadlines old now (Ok done) history more
  so_far deadlines sweeps old now history more (comes, (first, number, rounds, goes, same)) done = (comes, (first, number, rounds, goes))

  pub rounds_more : (deadlines : Deadlines) (sweeps next_sweeps : Sweeps) (old now next : ServerState A S L) (history xs ys : List (Event L))
      → RoundsSoFar deadlines sweeps old now history xs → TellsRound accepts faults found lacks sweeps next_sweeps now next (Ok tt) (history ++ xs) ys
      → RoundsSoFar deadlines next_sweeps old next history (xs ++ ys)
  rounds_more deadlines sweeps next_sweeps old now next history xs ys (comes, (first, number, rounds, goes, same)) second = (
    comes_both accepts faults old now next history xs ys comes second.0,
    (
      first,
      number,
      rounds ++ (record { left = next; sweeps = next_sweeps; happened = ys }) ∷ [],
      rounds_after rounds (begun_with deadlines first) next_sweeps old now next history xs ys goes
          (subst (λ (s : Sweeps). RoundAndDrops accepts faults found lacks s next_sweeps now next (history ++ xs) ys) same second.1),
      sym (sweeps_more rounds (begun_with deadlines first) (record { left = next; sweeps = next_sweeps; happened = ys })),
    ),
  )

  pub rounds_fail : (R : Type 0) (failed : Failed) (deadlines : Deadlines) (sweeps next_sweeps : Sweeps) (old now next : ServerState A S L) (history xs ys : List (Event L))
      → RoundsSoFar deadlines sweeps old now history xs → TellsRound accepts faults found lacks sweeps next_sweeps now next (Err failed) (history ++ xs) ys
      → TellsRounds accepts faults {R = R} found lacks deadlines old next (Err failed) history (xs ++ ys)
  rounds_fail R failed deadlines sweeps next_sweeps old now next history xs ys (comes, (first, number, rounds, goes, same)) second =
      let none : xs ++ ys ≡ xs = ap (λ (l : List (Event L)). xs ++ l) second.1.0 ∙ append-nil xs in (
        comes_both accepts faults old now next history xs ys comes second.0,
        (
          first,
          number,
          rounds,
          now,
          subst (λ (l : List (Event L)). GoesByRounds accepts faults found lacks rounds (begun_with deadlines first) old now history l) (sym none) goes,
          (refl, second.1.1, second.1.2),
        ),
      )
