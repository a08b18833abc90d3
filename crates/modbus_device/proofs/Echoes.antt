-- What was written is what was dropped of it, and what is owed.
use Rattle.std.proofs.Common.{◌≡◌, ℕ, List, [], ◌∷◌, ◌++◌, Bool, true, false, take, refl, sym, ap, ◌∙◌, subst, append_assoc, append-nil, IsTrue}
use Rattle.std.specs.List.{flat_map}
use Rattle.modbus_link.specs.Outside.{Input, front_of}
use Rattle.modbus_link.specs.Polled.{at_once}
use Rattle.modbus_adapter.specs.Echo.{EchoedState, collision_room, echo_of}
use Rattle.modbus_device.specs.Echoes.{Step, wrote, heard, written, dropped, Writes, Hears, Steps, EchoRun, DropsWhatWasWritten, GivesWhatIsLeft}

none_kept : (came : List ℕ) → take collision_room came ≡ [] → came ≡ []
none_kept [] none = refl
none_kept (byte ∷ rest) none = cc

all_echoed : (is_on : Bool) (taken : List ℕ) → IsTrue is_on → echo_of is_on taken ≡ taken
all_echoed true taken on = refl
all_echoed false taken on = cc

module _ {L : Type 0} (input : L → Input) where
  -- what came, where that is no collision
  nothing_came : (old new : EchoedState L) (echo given : List ℕ) (h : Hears input old new echo given) → h.reads.gives.came ≡ []
  nothing_came old new echo given h = none_kept h.reads.gives.came (sym h.reads.gives.told ∙ h.no_collision)

  splits : (old new : EchoedState L) (echo given : List ℕ) → Hears input old new echo given → old.owed ≡ echo ++ new.owed
  splits old new echo given h = h.reads.gives.leaves.echo (nothing_came old new echo given h) ∙ ap (λ e. e ++ new.owed) (sym h.echo_is)

  owes : (old new : EchoedState L) (taken : List ℕ) → IsTrue old.is_on → Writes old new taken → new.owed ≡ old.owed ++ taken
  owes old new taken on w =
      w.writes.owes.owes w.room ∙ ap (λ e. old.owed ++ e) (all_echoed old.is_on (front_of (at_once w.result) w.piece) on ∙ sym w.took)

  stays_on : (old new : EchoedState L) (step : Step) → Steps input old step new → IsTrue old.is_on → IsTrue new.is_on
  stays_on old new (wrote taken) w on = subst IsTrue (sym (ap (λ s. s.is_on) w.writes.counts)) on
  stays_on old new (heard echo given) h on = subst IsTrue (sym (ap (λ s. s.is_on) h.reads.counts)) on

  -- from any owed echo on
  balance : (start last : EchoedState L) (steps : List Step) → EchoRun input start steps last → IsTrue start.is_on
      → start.owed ++ flat_map written steps ≡ flat_map dropped steps ++ last.owed
  balance start last [] same on = append-nil start.owed ∙ sym (ap (λ s. s.owed) same)
  balance start last (wrote taken ∷ steps) (next, w, rest) on =
      sym (append_assoc start.owed taken (flat_map written steps)) ∙ ap (λ o. o ++ flat_map written steps) (sym (owes start next taken on w))
      ∙ balance next last steps rest (stays_on start next (wrote taken) w on)
  balance start last (heard echo given ∷ steps) (next, h, rest) on =
      ap (λ o. o ++ flat_map written steps) (splits start next echo given h) ∙ append_assoc echo next.owed (flat_map written steps)
      ∙ ap (λ l. echo ++ l) (balance next last steps rest (stays_on start next (heard echo given) h on))
      ∙ sym (append_assoc echo (flat_map dropped steps) last.owed)

  pub drops : DropsWhatWasWritten input
  drops start last steps run on none = sym (ap (λ o. o ++ flat_map written steps) none) ∙ balance start last steps run on

  pub gives : GivesWhatIsLeft input
  gives start at last steps echo given run on none h = (
    λ told. h.reads.gives.read told ∙ ap (λ c. h.reads.gives.dropped ++ (c ++ front_of (at_once h.result) h.room)) (nothing_came at last echo given h)
        ∙ ap (λ g. h.reads.gives.dropped ++ g) (sym h.gave) ∙ ap (λ e. e ++ given) (sym h.echo_is),
    λ some. drops start at steps run on none
        ∙ ap (λ o. flat_map dropped steps ++ o) (splits at last echo given h ∙ ap (λ o. echo ++ o) (h.reads.gives.behind (λ e. some (h.gave ∙ e))) ∙ append-nil echo),
  )
