-- One turn over the link that is lent to it, by what a poll promises.
use Rattle.std.proofs.Common.{◌≡◌, ℕ, List, [], ◌∷◌, ◌++◌, length, refl, sym, ap, ◌∙◌, subst, arith, Result}
use Rattle.std.proofs.lemmas.List.{map-append, length-map}
use Rattle.modbus_link.specs.declared.polled.Polled.{Polled}
use Rattle.modbus_link.specs.declared.polled.Polled.TheVariants.{Ready, Pending}
use Rattle.modbus_link.specs.Line.{LinkMeaning}
use Rattle.modbus_link.specs.Outside.{Outside, Input, input_through, output_through}
use Rattle.modbus_link.specs.Passes.{Passes, passes_both}
use Rattle.modbus_service.specs.Answering.{Answering}
use Rattle.modbus_server.specs.declared.error.ProcessError.{ProcessError}
use Rattle.modbus_server.specs.Exchanges.{Exchange, Run}
use Rattle.modbus_server.specs.Framing.{Framing}
use Rattle.modbus_server.specs.Moment.{moment}
use Rattle.modbus_server.specs.Polled.{polled, PolledPast, polled_past, polled_on, Polls, PolledRan, CompletesAfter, Rests}
use Rattle.modbus_hub.specs.declared.turn.Turn.TheVariants.{Waiting, Spent, Over}
use Rattle.modbus_hub.specs.Turn.{Said, unframed, all_unframed, RunOver, SeatState, SeatStands, IsWithin, LeavesNone, TakesTurn, ends_of}
use Rattle.modbus_hub.specs.declared.turn.TurnLimits.{TurnLimits}
use Rattle.modbus_hub.specs.declared.turn.Turn.{Turn}
use Rattle.modbus_hub.proofs.Rationing.{through}

-- what holds of two links, by other names
pub moved : {L : Type 0} (P : L → L → Type 0) (a a' b b' : L) → a ≡ a' → b ≡ b' → P a b → P a' b'
moved P a a' b b' e f p = subst (λ x. P x b') e (subst (λ x. P a x) f p)

module _ (F : Framing) {S : Type 0} (A : Answering S) {L : Type 0} (M : LinkMeaning L) where
  -- a run of the service over exchanges is one over what they say
  run_over : (a : S) (xs : List (Exchange F)) (b : S) → Run F A a xs b → RunOver A a (all_unframed F xs) b
  run_over a [] b e = e
  run_over a (x ∷ xs) b (next, step, rest) = (next, step, run_over next xs b rest)

  module _ (old new : SeatState L) (before after : S) (n m p n' m' p' q q' : ℕ) where
    abbrev from : Input
    from = input_through n (input_through m (input_through p (M.input old.link)))

    abbrev to : Input
    to = input_through n' (input_through m' (input_through p' (M.input new.link)))

    abbrev Went : Polled (Result (Unit {0}) ProcessError) → Type 0
    Went answer = Polls F A (polled old.process.connection old.process.left) (polled new.process.connection new.process.left) (moment before from (output_through q (M.output old.link))) (moment after to (output_through q' (M.output new.link))) answer

    -- of all that the connection stood for before the turn
    module _ (answer : Polled (Result (Unit {0}) ProcessError)) (poll : Went answer) (turns : ℕ) (first : L) (own : List Said) (s : SeatStands F M turns first own old) where
      abbrev behind : PolledPast F
      behind = polled_past turns s.bytes s.made s.written s.exchanges

      abbrev onward : PolledPast F
      onward = polled_on behind poll.fed poll.made poll.sent poll.fresh

      all_passes : Passes (ends_of M first) (ends_of M new.link) onward.bytes onward.made onward.written
      all_passes = passes_both (ends_of M first) (ends_of M old.link) (ends_of M new.link) s.bytes poll.fed s.made poll.made s.written poll.sent s.passes
          (through n m p n' m' p' (M.input old.link) (M.input new.link) (M.output old.link) (M.output new.link) q q' poll.fed poll.made poll.sent poll.passes)

      all_told : all_unframed F onward.exchanges ≡ own ++ all_unframed F poll.fresh
      all_told = map-append (unframed F) s.exchanges poll.fresh ∙ ap (λ (l : List Said). l ++ all_unframed F poll.fresh) s.told

    goes_on : (poll : Went Pending) (turns : ℕ) (first : L) (own : List Said) → SeatStands F M turns first own old
        → (after ≡ poll.ends) × SeatStands F M turns first (own ++ all_unframed F poll.fresh) new
    goes_on poll turns first own s =
        let on = poll.goes_on (behind Pending poll turns first own s) s.stands in
        let now = onward Pending poll turns first own s in (
          on.1,
          record {
            bytes = now.bytes;
            made = now.made;
            written = now.written;
            exchanges = now.exchanges;
            told = all_told Pending poll turns first own s;
            passes = all_passes Pending poll turns first own s;
            stands = on.0;
          },
        )

    -- what is said of how many messages were taken
    as_told : (P : ℕ → Type 0) (fresh : List (Exchange F)) → P (length fresh) → P (length (all_unframed F fresh))
    as_told P fresh p =
        let same : length (all_unframed F fresh) ≡ length fresh = simp (length-map) in subst P (sym same) p

    abbrev Within : TurnLimits → List (Exchange F) → Turn → Type 0
    Within limits fresh turn = IsWithin M limits old.link new.link (length fresh) turn

    pub waits : (limits : TurnLimits) (poll : Went Pending) → Within limits poll.fresh Waiting → Rests F new.process.connection → TakesTurn F A M limits old new before after Waiting
    waits limits poll within rests = (
      all_unframed F poll.fresh,
      poll.ends,
      run_over before poll.fresh poll.ends poll.run,
      as_told (λ n. IsWithin M limits old.link new.link n Waiting) poll.fresh within,
      rests,
      goes_on poll,
    )

    pub is_spent : (limits : TurnLimits) (poll : Went Pending) → Within limits poll.fresh Spent → LeavesNone F limits new.process (length poll.fresh) Spent
        → TakesTurn F A M limits old new before after Spent
    is_spent limits poll within none = (
      all_unframed F poll.fresh,
      poll.ends,
      run_over before poll.fresh poll.ends poll.run,
      as_told (λ n. IsWithin M limits old.link new.link n Spent) poll.fresh within,
      as_told (λ n. LeavesNone F limits new.process n Spent) poll.fresh none,
      goes_on poll,
    )

    pub is_over : ((behind : PolledPast F) (ends now : S) (first last : Outside) (result : Result (Unit {0}) ProcessError) → PolledRan F A behind ends now first last result → CompletesAfter F A behind ends first last result)
        → (limits : TurnLimits) (result : Result (Unit {0}) ProcessError) (poll : Went (Ready result)) → Within limits poll.fresh (Over result) → TakesTurn F A M limits old new before after (Over result)
    is_over completes limits result poll within = (
      all_unframed F poll.fresh,
      poll.ends,
      run_over before poll.fresh poll.ends poll.run,
      as_told (λ n. IsWithin M limits old.link new.link n (Over result)) poll.fresh within,
      tt,
      λ turns first own s.
          let now = onward (Ready result) poll turns first own s in
          let ran : PolledRan F A now poll.ends after (ends_of M first) (ends_of M new.link) result = record {
            passes = all_passes (Ready result) poll turns first own s;
            over = poll.goes_on (behind (Ready result) poll turns first own s) s.stands;
            ended = λ told. poll.ended (s.passes.source.told ∙ told);
            read_fault = λ e.
                let rose = poll.read_fault (ap (λ (r : Result (Unit {0}) ProcessError). Ready r) e) in
                let earlier = s.passes.source.later in omega (arith, rose, earlier);
            write_fault = λ e.
                let rose = poll.write_fault (ap (λ (r : Result (Unit {0}) ProcessError). Ready r) e) in
                let earlier = s.passes.sink.later in omega (arith, rose, earlier);
          } in
          (now, refl, all_told (Ready result) poll turns first own s, ran, completes now poll.ends after (ends_of M first) (ends_of M new.link) result ran),
    )
