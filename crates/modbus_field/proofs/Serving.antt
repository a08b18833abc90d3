-- What a run of a server says of the bursts that it read.
use Rattle.std.proofs.Common.{◌≡◌, inl, inr, ℕ, ◌≤◌, List, [], ◌∷◌, ◌++◌, map, length, refl, sym, ap, ◌∙◌, subst, arith, length-append, Result, Ok, Err}
use Rattle.std.specs.Prelude.{IsTrue, IfErr}
use Rattle.std.proofs.lemmas.List.{map-append}
use Rattle.std.proofs.lemmas.List.Elements.{All-contains, Contains-push}
use Rattle.modbus_frame.specs.declared.fault.Reason.{Reason}
use Rattle.modbus_link.specs.Outside.{Input, Output, cuts_made}
use Rattle.modbus_link.specs.Reads.{totals}
use Rattle.modbus_link.specs.Runs.{RisesTo-count}
use Rattle.modbus_service.specs.Answering.{Answering}
use Rattle.modbus_server.specs.declared.error.ProcessError.{ProcessError}
use Rattle.modbus_server.specs.declared.error.ProcessError.TheVariants.{ReadFault, WriteFault, TooManyRetries, BytesRemaining, InvalidLength, InvalidProtocol, InvalidRequest, ResponseTooLong, TurnLimit, NoMemory}
use Rattle.modbus_server.specs.Complete.{RepliesFit}
use Rattle.modbus_server.specs.Exchanges.{Exchange, GivesOutcome, Run, ReplyFits, asked_of, asks}
use Rattle.modbus_server.specs.Served.{Served, Halts, refused, too_long, EndsAs}
use Rattle.modbus_server.specs.Step.{Ran}
use Rattle.modbus_field.specs.Unread.{any_request_of}
use Rattle.modbus_field.specs.Bursts.{messages}
use Rattle.modbus_field.specs.BurstFraming.{bursts}
use Rattle.modbus_field.specs.BurstLine.{messages_read, AnswersBursts, ServesBursts, IsOfNoBurst}
use Rattle.modbus_server.specs.Moment.{moment}

module _ {S : Type 0} (A : Answering S) where
  run-more : (a : S) (xs : List (Exchange bursts)) (b : S) (x : Exchange bursts) (c : S) → Run bursts A a xs b → GivesOutcome bursts A b x c → Run bursts A a (xs ++ x ∷ []) c
  run-more a [] b x c e step = (c, subst (λ s. GivesOutcome bursts A s x c) e step, refl)
  run-more a (y ∷ ys) b x c (m, first, rest) step = (m, first, run-more m ys b x c rest step)

  module _ (bytes cuts : List ℕ) (opening now : S) (written : List ℕ) where
    none_refused : (reason : Reason) → Served bursts A bytes cuts opening now written (refused reason) → ⊥
    none_refused reason s = by_halts s.halts
      where
        by_halts : Halts bursts A bytes cuts s.before s.ends now (refused reason) → ⊥
        by_halts (message, t, bad, same) =
            let no : Ok (any_request_of message.pdu) ≡ Err reason = bad in
            cc

    none_too_long : RepliesFit bursts A opening (messages bytes cuts) → (size : ℕ) → Served bursts A bytes cuts opening now written (too_long size) → ⊥
    none_too_long fit size s = by_halts s.halts
      where
        by_halts : Halts bursts A bytes cuts s.before s.ends now (too_long size) → ⊥
        by_halts (message, t, x, asked, step, is, long) =
            let all_asked : map (asked_of bursts) (s.before ++ message ∷ []) ≡ map (asks bursts) (s.exchanges ++ x ∷ []) =
            map-append (asked_of bursts) s.before (message ∷ []) ∙ ap (λ front. front ++ asked_of bursts message ∷ []) s.asked
            ∙ ap (λ last. map (asks bursts) s.exchanges ++ last ∷ []) asked ∙ sym (map-append (asks bursts) s.exchanges (x ∷ [])) in
            let fits = fit (s.exchanges ++ x ∷ []) now (s.before ++ message ∷ []) t.later (run-more opening s.exchanges s.ends x now s.run step) t.next all_asked in
            let one : ReplyFits bursts x = All-contains (ReplyFits bursts) (s.exchanges ++ x ∷ []) x fits (Contains-push s.exchanges x) in
            omega arith

    -- bursts have no fault, none is left over, and each message asks something
    pub no_burst : (result : Result (Unit {0}) ProcessError) → EndsAs bursts A bytes cuts opening now written result → IfErr result (λ error. IsOfNoBurst error → ⊥)
    no_burst (Ok done) ends = tt
    no_burst (Err TooManyRetries) ends = λ f. ends.halts.0
    no_burst (Err InvalidLength) ends = λ f. ends.halts.0
    no_burst (Err (InvalidProtocol protocol)) ends = λ f. ends.halts.0
    no_burst (Err BytesRemaining) (left, some, s) = λ f. some s.halts.0.1
    no_burst (Err (InvalidRequest reason)) ends = λ f. none_refused reason ends
    no_burst (Err _) ends = λ f. f

  module _ (before after : S) (from to : Input) (sunk sinks : Output) (turns : ℕ) where
    same_messages : (result : Result (Unit {0}) ProcessError) (ran : Ran bursts A turns (moment before from sunk) (moment after to sinks) result) → IsTrue from.told → messages_read from to ≡ messages ran.fed (totals ran.made)
    same_messages result ran told = ap (λ bytes. messages bytes (totals (cuts_made from to))) (ran.passes.read told) ∙ ap (λ made. messages ran.fed (totals made)) (ran.passes.cuts told)

    pub answers : (result : Result (Unit {0}) ProcessError) → Ran bursts A turns (moment before from sunk) (moment after to sinks) result → result ≡ Ok tt → IsTrue from.told → IsTrue sunk.told
        → AnswersBursts A before after from to sunk sinks
    answers (Ok done) ran e told wrote = record {
      exchanges = ran.served.exchanges;
      run = subst (Run bursts A before ran.served.exchanges) (sym ran.served.halts.1) ran.served.run;
      asked = ap (map (asked_of bursts)) (same_messages (Ok done) ran told ∙ sym ran.served.halts.0.0) ∙ ran.served.asked;
      wrote = ran.passes.wrote wrote ∙ ran.served.wrote;
      ended = ran.ended told;
    }
    answers (Err error) ran e told wrote = cc

    few_reads : (result : Result (Unit {0}) ProcessError) (ran : Ran bursts A turns (moment before from sunk) (moment after to sinks) result) → IsTrue from.told → length ran.made ≤ length from.left
    few_reads result ran told =
        let gives = ran.passes.source.content told in
        let all : from.left ≡ ran.fed ++ to.left = gives.left ∙ ap (λ front. front ++ to.left) (ran.passes.read told) in
        omega (arith, RisesTo-count 0 (length ran.fed) ran.made ran.passes.rises, ap length all, length-append ran.fed to.left)

    pub serves : (result : Result (Unit {0}) ProcessError) → Ran bursts A turns (moment before from sunk) (moment after to sinks) result → ServesBursts A before from to sunk sinks turns result
    serves (Ok done) ran told fit few no_read no_write = inl refl
    serves (Err NoMemory) ran told fit few no_read no_write = inr refl
    serves (Err ReadFault) ran told fit few no_read no_write = absurd (no_read (ran.read_fault refl))
    serves (Err WriteFault) ran told fit few no_read no_write = absurd (no_write (ran.write_fault refl))
    serves (Err TurnLimit) ran told fit few no_read no_write = absurd (omega (arith, ran.spends, few_reads (Err TurnLimit) ran told))
    serves (Err (ResponseTooLong size)) ran told fit few no_read no_write =
        absurd (none_too_long ran.fed (totals ran.made) before after ran.sent
        (subst (RepliesFit bursts A before) (same_messages (Err (ResponseTooLong size)) ran told) fit) size ran.served)
    serves (Err BytesRemaining) ran told fit few no_read no_write = absurd (no_burst ran.fed (totals ran.made) before after ran.sent (Err BytesRemaining) ran.served tt)
    serves (Err (InvalidRequest reason)) ran told fit few no_read no_write =
        absurd (no_burst ran.fed (totals ran.made) before after ran.sent (Err (InvalidRequest reason)) ran.served tt)
    serves (Err TooManyRetries) ran told fit few no_read no_write = absurd (no_burst ran.fed (totals ran.made) before after ran.sent (Err TooManyRetries) ran.served tt)
    serves (Err InvalidLength) ran told fit few no_read no_write = absurd (no_burst ran.fed (totals ran.made) before after ran.sent (Err InvalidLength) ran.served tt)
    serves (Err (InvalidProtocol protocol)) ran told fit few no_read no_write =
        absurd (no_burst ran.fed (totals ran.made) before after ran.sent (Err (InvalidProtocol protocol)) ran.served tt)
