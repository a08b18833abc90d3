-- A clean line is served to its end, whatever frames its messages.
use Rattle.std.proofs.Common.{◌≡◌, ◌⊎◌, inl, inr, ℕ, ◌<◌, ◌≤◌, ◌+◌, List, [], ◌∷◌, ◌++◌, map, length, length-append, refl, sym, ap, ◌∙◌, subst, arith, Result, Ok, Err, append-nil}
use Rattle.std.specs.Prelude.{All, Contains}
use Rattle.std.proofs.lemmas.List.{map-append}
use Rattle.std.proofs.lemmas.List.Elements.{All-contains, Contains-append_left, Contains-push}
use Rattle.modbus_link.specs.Reads.{totals, Spends}
use Rattle.modbus_link.specs.Runs.{RisesTo-count}
use Rattle.modbus_frame.specs.declared.fault.Reason.{Reason}
use Rattle.modbus_frame.specs.declared.server.Terminated.{Terminated}
use Rattle.modbus_frame.specs.declared.server.Terminated.TheVariants.{Finished, Aborted}
use Rattle.modbus_pdu.specs.Message.{Message}
use Rattle.modbus_server.specs.declared.error.ProcessError.{ProcessError}
use Rattle.modbus_server.specs.declared.error.ProcessError.TheVariants.{ReadFault, WriteFault, BytesRemaining, InvalidRequest, ResponseTooLong, TurnLimit, NoMemory}
use Rattle.modbus_service.specs.Answering.{Answering}
use Rattle.modbus_server.specs.Framing.{Framing}
use Rattle.modbus_server.specs.Exchanges.{Exchange, Run, ReplyFits, asked_of, asks}
use Rattle.modbus_server.specs.Served.{Past, past, StopsAfter, Halts, remaining, broken, refused, too_long, EndsAfter}
use Rattle.modbus_server.specs.Step.{EndsRead, spending_of, Ran}
use Rattle.modbus_link.specs.Outside.{Outside}
use Rattle.modbus_server.specs.Polled.{PolledPast, polled_past, PolledRan, CompletesAfter}
use Rattle.modbus_server.specs.Signal.{RanUntil, to_the_end}
use Rattle.modbus_server.specs.Complete.{IsRequest, IsCleanLine, NextReplyFits, RepliesFit, Completes}
use Rattle.modbus_server.specs.Piece.{IsOfNoRead, ServedPiece, CompletesPiece}
use Rattle.modbus_server.proofs.Standing.{run_more, ends_split}
use Rattle.modbus_server.specs.Moment.{Moment, Watched, SignalMeaning}

-- what a framing owes where bytes that were read begin a clean line
pub record GoesOn (F : Framing) (read rest cuts : List ℕ) (messages : List (Message F.Header)) : Type 0 where
  pub unbroken : (before : List (Message F.Header)) (fault : ProcessError) → F.IsBroken read cuts before fault → ⊥
  pub next : (before : List (Message F.Header)) (message : Message F.Header) → F.IsNext read cuts before message → (later : List (Message F.Header)) × (messages ≡ (before ++ message ∷ []) ++ later)
  pub used : rest ≡ [] → (left : List ℕ) (before : List (Message F.Header)) → F.IsAll read cuts left before → left ≡ []

-- where each reply fits in a run from the first, the next one does
next_fits : (F : Framing) {S : Type 0} (A : Answering S) (opening ends : S) (exchanges : List (Exchange F)) (messages : List (Message F.Header)) → Run F A opening exchanges ends
    → RepliesFit F A opening messages → NextReplyFits F A exchanges ends messages
next_fits F A opening ends exchanges messages run fit x next front rest step split asked =
    All-contains (ReplyFits F) (exchanges ++ x ∷ []) x (fit (exchanges ++ x ∷ []) next front rest (run_more F A opening exchanges ends x next run step) split asked) (Contains-push exchanges x)

module _ (F : Framing) {S : Type 0} (A : Answering S) (read rest cuts : List ℕ) (ends now : S) (written : List ℕ) (exchanges : List (Exchange F))
    (messages : List (Message F.Header)) (requests : All (IsRequest F) messages) (fit : NextReplyFits F A exchanges ends messages) (on : GoesOn F read rest cuts messages) where
  abbrev behind : Past F
  behind = past read cuts written exchanges

  none_broken : (fault : ProcessError) → StopsAfter F A behind ends now (broken fault) → ⊥
  none_broken fault s = by_halts s.halts
    where
      by_halts : Halts F A read cuts s.before ends now (broken fault) → ⊥
      by_halts (b, same) = on.unbroken s.before fault b

  none_refused : (reason : Reason) → StopsAfter F A behind ends now (refused reason) → ⊥
  none_refused reason s = by_halts s.halts
    where
      by_halts : Halts F A read cuts s.before ends now (refused reason) → ⊥
      by_halts (message, t, bad, same) =
          let later = on.next s.before message t in
          let within : Contains messages message = rw later.1 (Contains-append_left (s.before ++ message ∷ []) later.0 message (Contains-push s.before message)) in
          let ok : IsRequest F message = All-contains (IsRequest F) messages message requests within in
          let clash : Ok ok.0 ≡ Err reason = sym ok.1 ∙ bad in
          cc

  none_too_long : (size : ℕ) → StopsAfter F A behind ends now (too_long size) → ⊥
  none_too_long size s = by_halts s.halts
    where
      by_halts : Halts F A read cuts s.before ends now (too_long size) → ⊥
      by_halts (message, t, x, asked, step, is, long) =
          let later = on.next s.before message t in
          let all_asked : map (asked_of F) (s.before ++ message ∷ []) ≡ map (asks F) (exchanges ++ x ∷ []) =
          map-append (asked_of F) s.before (message ∷ []) ∙ ap (λ front. front ++ asked_of F message ∷ []) s.asked
          ∙ ap (λ last. map (asks F) exchanges ++ last ∷ []) asked ∙ sym (map-append (asks F) exchanges (x ∷ [])) in
          let one : ReplyFits F x = fit x now (s.before ++ message ∷ []) later.0 step later.1 all_asked in
          omega arith

  none_left : rest ≡ [] → (left : List ℕ) → (left ≡ [] → ⊥) → StopsAfter F A behind ends now (remaining left) → ⊥
  none_left e left some s = by_halts s.halts
    where
      by_halts : Halts F A read cuts s.before ends now (remaining left) → ⊥
      by_halts (all, same) = some (on.used e left s.before all)

  pub complete : (turns count : ℕ) (result : Result (Unit {0}) ProcessError) → count < turns → EndsAfter F A behind ends now result → EndsRead result rest
      → Spends (spending_of result) count turns → (result ≡ Err ReadFault → ⊥) → (result ≡ Err WriteFault → ⊥) → (result ≡ Ok tt) ⊎ (result ≡ Err NoMemory)
  complete turns count (Ok done) few over ended spends no_read no_write = inl refl
  complete turns count (Err NoMemory) few over ended spends no_read no_write = inr refl
  complete turns count (Err ReadFault) few over ended spends no_read no_write = absurd (no_read refl)
  complete turns count (Err WriteFault) few over ended spends no_read no_write = absurd (no_write refl)
  complete turns count (Err TurnLimit) few over ended spends no_read no_write = absurd (omega arith)
  complete turns count (Err (InvalidRequest reason)) few over ended spends no_read no_write = absurd (none_refused reason over)
  complete turns count (Err (ResponseTooLong size)) few over ended spends no_read no_write = absurd (none_too_long size over)
  complete turns count (Err BytesRemaining) few (left, some, s) ended spends no_read no_write = absurd (none_left ended left some s)
  complete turns count (Err _) few over ended spends no_read no_write = absurd (none_broken _ over)

  pub complete_piece : (result : Result (Unit {0}) ProcessError) → IsOfNoRead result → rest ≡ [] → EndsAfter F A behind ends now result
      → (result ≡ Ok tt) ⊎ ((result ≡ Err NoMemory) ⊎ (result ≡ Err WriteFault))
  complete_piece (Ok done) only all over = inl refl
  complete_piece (Err NoMemory) only all over = inr (inl refl)
  complete_piece (Err WriteFault) only all over = inr (inr refl)
  complete_piece (Err ReadFault) only all over = absurd only
  complete_piece (Err TurnLimit) only all over = absurd only
  complete_piece (Err (InvalidRequest reason)) only all over = absurd (none_refused reason over)
  complete_piece (Err (ResponseTooLong size)) only all over = absurd (none_too_long size over)
  complete_piece (Err BytesRemaining) only all (left, some, s) = absurd (none_left all left some s)
  complete_piece (Err _) only all over = absurd (none_broken _ over)

-- by the laws of its framing
module _ (F : Framing)
    (calm : (read rest cuts : List ℕ) (messages before : List (Message F.Header)) (fault : ProcessError) → F.IsClean (read ++ rest) messages → F.IsBroken read cuts before fault → ⊥)
    (next : (read rest cuts : List ℕ) (messages before : List (Message F.Header)) (message : Message F.Header) → F.IsClean (read ++ rest) messages → F.IsNext read cuts before message
    → (later : List (Message F.Header)) × (messages ≡ (before ++ message ∷ []) ++ later))
    (used : (read cuts left : List ℕ) (messages before : List (Message F.Header)) → F.IsClean read messages → F.IsAll read cuts left before → left ≡ []) where
  pub goes_on : (read rest : List ℕ) (line : IsCleanLine F (read ++ rest)) (cuts : List ℕ) → GoesOn F read rest cuts line.messages
  goes_on read rest line cuts = record {
    unbroken = λ before fault. calm read rest cuts line.messages before fault line.clean;
    next = λ before message. next read rest cuts line.messages before message line.clean;
    used = λ none left before. used read cuts left line.messages before (subst (λ bytes. F.IsClean bytes line.messages) (ap (λ r. read ++ r) none ∙ append-nil read) line.clean);
  }

  -- a piece that is a clean line
  pub completes_piece : {S : Type 0} (A : Answering S) (before after : S) (piece old new : List ℕ) (result : Result (Unit {0}) ProcessError)
      → ServedPiece F A piece before after old new result → CompletesPiece F A before piece result
  completes_piece A before after piece old new result served line fit = elim served.ends [
    | inl whole ↦
        let same : piece ≡ piece ++ [] = sym (append-nil piece) in
        let again : IsCleanLine F (piece ++ []) = record { messages = line.messages; clean = subst (λ bytes. F.IsClean bytes line.messages) same line.clean; requests = line.requests } in
        let (exchanges, ends, run, over) = ends_split F A piece (length piece ∷ []) before after served.sent result whole in
        complete_piece F A piece [] (length piece ∷ []) ends after served.sent exchanges line.messages line.requests (next_fits F A before ends exchanges line.messages run fit)
        (goes_on piece [] again (length piece ∷ [])) result served.only refl over
    | inr unopened ↦ inr (inl unopened.0)
  ]

-- the same of polls that came to an end, where their framing goes on from bytes that begin a clean line
pub completes_after : (F : Framing) {S : Type 0} (A : Answering S) (behind : PolledPast F) (ends now : S) (first last : Outside) (result : Result (Unit {0}) ProcessError)
    → ((read rest : List ℕ) (clean : IsCleanLine F (read ++ rest)) (cuts : List ℕ) → GoesOn F read rest cuts clean.messages)
    → PolledRan F A behind ends now first last result → CompletesAfter F A behind ends first last result
completes_after F A behind ends now first last result on ran told clean fit few no_read no_write =
    let from = first.input in
    let to = last.input in
    let gives = ran.passes.source.content told in
    let all : from.left ≡ behind.bytes ++ to.left = gives.left ∙ ap (λ front. front ++ to.left) (ran.passes.read told) in
    let short : length behind.made ≤ length behind.bytes = omega (arith, RisesTo-count 0 (length behind.bytes) behind.made ran.passes.rises) in
    let count : length from.left ≡ length behind.bytes + length to.left = ap length all ∙ length-append behind.bytes to.left in
    subst (λ bytes. (clean : IsCleanLine F bytes) → NextReplyFits F A behind.exchanges ends clean.messages → (result ≡ Ok tt) ⊎ (result ≡ Err NoMemory)) (sym all)
    (λ line fits. complete F A behind.bytes to.left (totals behind.made) ends now behind.written behind.exchanges line.messages line.requests fits (on behind.bytes to.left line (totals behind.made))
    behind.turns (length behind.made) result (omega (arith, short, count)) ran.over.served (ran.ended told) ran.over.spends
    (λ bad. no_read (ran.read_fault bad)) (λ bad. no_write (ran.write_fault bad))) clean fit

-- the same of a call to the end
pub completes : (F : Framing) {S : Type 0} (A : Answering S) (turns : ℕ) (before after : Moment S) (result : Result (Unit {0}) ProcessError)
    → ((read rest : List ℕ) (clean : IsCleanLine F (read ++ rest)) (cuts : List ℕ) → GoesOn F read rest cuts clean.messages)
    → Ran F A turns before after result → Completes F A turns before after result
completes F A turns before after result on ran told clean fit few no_read no_write =
    let (exchanges, ends, run, over) = ends_split F A ran.fed (totals ran.made) before.service after.service ran.sent result ran.served in
    let behind = polled_past turns ran.fed ran.made ran.sent exchanges in
    let whole : PolledRan F A behind ends after.service before.outside after.outside result = record {
      passes = ran.passes;
      over = record { served = over; rooms = ran.rooms; spends = ran.spends };
      ended = ran.ended;
      read_fault = ran.read_fault;
      write_fault = ran.write_fault;
    } in
    completes_after F A behind ends after.service before.outside after.outside result on whole told clean (next_fits F A before.service ends exchanges clean.messages run fit) few no_read no_write

-- the same of a call that may be stopped
pub completes_until : (F : Framing) {S X : Type 0} (A : Answering S) (signal : SignalMeaning X) (turns : ℕ) (before after : Watched S X) (result : Result Terminated ProcessError)
    → ((turns : ℕ) (before after : Moment S) (result : Result (Unit {0}) ProcessError) → Ran F A turns before after result → Completes F A turns before after result)
    → RanUntil F A signal turns before after result → Completes F A turns before.moment after.moment (to_the_end result)
completes_until F A signal turns before after (Ok Aborted) served stopped = λ told clean fit few no_read no_write. inl refl
completes_until F A signal turns before after (Ok Finished) served until = served turns before.moment after.moment (Ok tt) until.ran
completes_until F A signal turns before after (Err error) served until = served turns before.moment after.moment (Err error) until.ran
