-- An adapter that is known to echo stays known.
use Rattle.std.proofs.Common.{◌≡◌, ◌≢◌, ◌⊎◌, inl, inr, ℕ, List, [], ◌∷◌, Result, refl, sym, ap, ◌∙◌}
use Rattle.modbus_link.specs.declared.outside.Failed.{Failed}
use Rattle.modbus_link.specs.Outside.{Input}
use Rattle.modbus_echo.specs.declared.guard.Echo.{Echo}
use Rattle.modbus_echo.specs.declared.guard.Echo.TheVariants.{Unknown, Absent, Present}
use Rattle.modbus_echo.specs.Guard.{GuardState, Outlook, outlook, doubted, Learns, CameBack, FailsWatching, ReadsGuarded, ReadsWatching}
use Rattle.modbus_echo.specs.Runs.{Step, write, read, GuardRun, written_since, WatchesForWritten, StaysKnown, WatchesForGood, GaveBack, EchoingRun, DropsEachReply}

learnt : (reply asked : List ℕ) (before after : Echo) → before ≡ Present → Learns reply asked before after → after ≡ Present
learnt reply asked before Present known l = refl
learnt reply asked before Unknown known l = l.other (λ may. (let same = l.own may in cc))
learnt reply asked before Absent known l = l.other (λ may. (let same = l.own may in cc))

module _ {L : Type 0} (input : L → Input) (silences : L → ℕ) where
  read_known : (old : GuardState L) (new : Outlook L) (room : ℕ) (given : List ℕ) (result : Result ℕ Failed) → ReadsGuarded input silences old new room given result
      → old.echo ≡ Present → new.echo ≡ Present
  read_known old new room given result (inl any) known = any.echo ∙ known
  read_known old new room given result (inr (watched, inl behind)) known = behind.echo ∙ ap doubted known
  read_known old new room given result (inr (watched, inr (inl place))) known = place.echo ∙ ap doubted known
  read_known old new room given result (inr (watched, inr (inr (inl back)))) known = learnt old.reply old.asked old.echo new.echo known back.learns
  read_known old new room given result (inr (watched, inr (inr (inr fails)))) known = fails.echo ∙ known

  pub known : StaysKnown input silences
  known start last [] same is = ap (λ s. s.echo) same ∙ is
  known start last (write piece result ∷ steps) (next, step, rest) is = known next last steps rest (ap (λ s. s.echo) step ∙ is)
  known start last (read room given result ∷ steps) (next, step, rest) is =
      known next last steps rest (read_known start (outlook next) room given result step.0 is)

  pub written : WatchesForWritten input silences
  written start last [] same = ap (λ s. s.reply) same
  written start last (write piece result ∷ steps) (next, step, rest) = written next last steps rest ∙ ap (λ r. written_since r steps) (ap (λ s. s.reply) step)
  written start last (read room given result ∷ steps) (next, step, rest) = written next last steps rest ∙ ap (λ r. written_since r steps) step.1

  pub watches : WatchesForGood input silences
  watches start at last steps room given result run is step some = by_read step.0
    where
      by_read : ReadsGuarded input silences at (outlook last) room given result → ReadsWatching input silences at (outlook last) room given result
      by_read (inl any) = absurd (any.rests (
        (λ absent. (let present = known start at steps run is in cc)),
        (λ none. some (sym (written start at steps run) ∙ none)),
      ))
      by_read (inr (watched, reads)) = reads

  -- a read behind a write, of an adapter that echoes
  back : (old : GuardState L) (new : Outlook L) (room : ℕ) (given : List ℕ) (result : Result ℕ Failed) → ReadsGuarded input silences old new room given result
      → GaveBack input silences old new room given result → old.echo ≢ Absent → old.reply ≢ []
      → CameBack input silences old new room given result ⊎ FailsWatching input old new result
  back old new room given result (inl any) gave unsure some = absurd (any.rests (unsure, some))
  back old new room given result (inr (watched, inl behind)) gave unsure some = absurd ((gave some).0 behind)
  back old new room given result (inr (watched, inr (inl place))) gave unsure some = absurd ((gave some).1 place)
  back old new room given result (inr (watched, inr (inr (inl came)))) gave unsure some = inl came
  back old new room given result (inr (watched, inr (inr (inr fails)))) gave unsure some = inr fails

  learnt_unsure : (reply asked : List ℕ) (before after : Echo) → before ≢ Absent → Learns reply asked before after → after ≢ Absent
  learnt_unsure reply asked before after unsure l absent =
      let present : after ≡ Present = l.other (λ may. unsure (sym (l.own may) ∙ absent)) in
      cc

  read_unsure : (old : GuardState L) (new : Outlook L) (room : ℕ) (given : List ℕ) (result : Result ℕ Failed) → ReadsGuarded input silences old new room given result
      → GaveBack input silences old new room given result → old.echo ≢ Absent → new.echo ≢ Absent
  read_unsure old new room given result (inl any) gave unsure absent = unsure (sym any.echo ∙ absent)
  read_unsure old new room given result (inr (watched, inl behind)) gave unsure absent = (gave watched.1).0 behind
  read_unsure old new room given result (inr (watched, inr (inl place))) gave unsure absent = (gave watched.1).1 place
  read_unsure old new room given result (inr (watched, inr (inr (inl came)))) gave unsure absent =
      learnt_unsure old.reply old.asked old.echo new.echo unsure came.learns absent
  read_unsure old new room given result (inr (watched, inr (inr (inr fails)))) gave unsure absent = unsure (sym fails.echo ∙ absent)

  as_run : (start last : GuardState L) (steps : List Step) → EchoingRun input silences start steps last → GuardRun input silences start steps last
  as_run start last [] same = same
  as_run start last (s ∷ steps) (next, step, echoes, rest) = (next, step, as_run next last steps rest)

  stays_unsure : (start last : GuardState L) (steps : List Step) → EchoingRun input silences start steps last → start.echo ≢ Absent → last.echo ≢ Absent
  stays_unsure start last [] same unsure = λ absent. unsure (sym (ap (λ s. s.echo) same) ∙ absent)
  stays_unsure start last (write piece result ∷ steps) (next, step, echoes, rest) unsure =
      stays_unsure next last steps rest (λ absent. unsure (sym (ap (λ s. s.echo) step) ∙ absent))
  stays_unsure start last (read room given result ∷ steps) (next, step, echoes, rest) unsure =
      stays_unsure next last steps rest (read_unsure start (outlook next) room given result step.0 echoes unsure)

  pub drops : DropsEachReply input silences
  drops start at last steps room given result run unsure step gave some =
      back at (outlook last) room given result step.0 gave (stays_unsure start at steps run unsure)
      (λ none. some (sym (written start at steps (as_run start at steps run)) ∙ none))
