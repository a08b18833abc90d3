-- What an answerer did behind a view of its state was done to what is viewed, where each of its steps was.
use Rattle.std.proofs.Common.{◌≡◌, inl, inr, ℕ, List, [], ◌∷◌, ap, ◌∙◌, Result, Ok, Err}
use Rattle.modbus_link.specs.Outside.{Input, Output}
use Rattle.modbus_link.specs.Reads.{totals}
use Rattle.modbus_frame.specs.Meaning.{Asked}
use Rattle.modbus_pdu.specs.Message.{Message}
use Rattle.modbus_service.specs.Outcome.{Outcome}
use Rattle.modbus_server.specs.declared.error.ProcessError.{ProcessError}
use Rattle.modbus_server.specs.declared.error.ProcessError.TheVariants.{ReadFault, WriteFault, TooManyRetries, BytesRemaining, InvalidRequest, ResponseTooLong, TurnLimit, InvalidLength, InvalidProtocol, NoMemory}
use Rattle.modbus_service.specs.Answering.{Answering}
use Rattle.modbus_server.specs.Framing.{Framing}
use Rattle.modbus_server.specs.Exchanges.{Exchange, Run}
use Rattle.modbus_server.specs.Answer.{WantsFor}
use Rattle.modbus_server.specs.Served.{Halt, remaining, broken, refused, too_long, Halts, Served, Unwritten, Wanting, WantsMemory, EndsAs}
use Rattle.modbus_server.specs.Step.{Ran}
use Rattle.modbus_server.specs.Complete.{Completes}
use Rattle.modbus_gateway.specs.Forwards.{behind}
use Rattle.modbus_server.specs.Moment.{moment}

-- what each step of an answerer does to what is viewed: it is a step of the other, and keeps the name
pub record StepsBehind {S T : Type 0} (view : S → T) (name : S → ℕ) (B : Answering S) (A : Answering T) : Type 0 where
  pub gives : (old : S) (slave : ℕ) (request : Asked) (outcome : Outcome) (new : S) → B.gives old slave request outcome new
      → A.gives (view old) slave request outcome (view new) × (name new ≡ name old)
  pub wants : (old : S) (slave : ℕ) (request : Asked) (new : S) → B.wants old slave request new → A.wants (view old) slave request (view new) × (name new ≡ name old)

pub steps_behind : {S T : Type 0} (view : S → T) (name : S → ℕ) (A : Answering T) → StepsBehind view name (behind view name A) A
steps_behind view name A = record {
  gives = λ old slave request outcome new step. step;
  wants = λ old slave request new step. step;
}

module _ (F : Framing) {S T : Type 0} (view : S → T) (name : S → ℕ) (B : Answering S) (A : Answering T) (steps : StepsBehind view name B A) where
  run_behind : (xs : List (Exchange F)) (start end : S) → Run F B start xs end → Run F A (view start) xs (view end) × (name end ≡ name start)
  run_behind [] start end e = (ap view e, ap name e)
  run_behind (x ∷ xs) start end (next, step, rest) =
      let first = steps.gives start (F.slave x.header) x.request x.outcome next step in
      let more = run_behind xs next end rest in
      ((view next, first.0, more.0), more.1 ∙ first.1)

  halts_behind : (bytes cuts : List ℕ) (before : List (Message F.Header)) (ends now : S) (halt : Halt) → Halts F B bytes cuts before ends now halt
      → Halts F A bytes cuts before (view ends) (view now) halt × (name now ≡ name ends)
  halts_behind bytes cuts before ends now (remaining left) (all, same) = ((all, ap view same), ap name same)
  halts_behind bytes cuts before ends now (broken fault) (bad, same) = ((bad, ap view same), ap name same)
  halts_behind bytes cuts before ends now (refused reason) (message, next, bad, same) = ((message, next, bad, ap view same), ap name same)
  halts_behind bytes cuts before ends now (too_long size) (message, next, x, asked, step, told, long) =
      let last = steps.gives ends (F.slave x.header) x.request x.outcome now step in
      ((message, next, x, asked, last.0, told, long), last.1)

  served_behind : (bytes cuts : List ℕ) (opening now : S) (written : List ℕ) (halt : Halt) → Served F B bytes cuts opening now written halt
      → Served F A bytes cuts (view opening) (view now) written halt × (name now ≡ name opening)
  served_behind bytes cuts opening now written halt s =
      let run = run_behind s.exchanges opening s.ends s.run in
      let last = halts_behind bytes cuts s.before s.ends now halt s.halts in (
        record {
          before = s.before;
          exchanges = s.exchanges;
          asked = s.asked;
          fit = s.fit;
          ends = view s.ends;
          run = run.0;
          wrote = s.wrote;
          halts = last.0;
        },
        last.1 ∙ run.1,
      )

  unwritten_behind : (bytes cuts : List ℕ) (opening now : S) (written : List ℕ) → Unwritten F B bytes cuts opening now written
      → Unwritten F A bytes cuts (view opening) (view now) written × (name now ≡ name opening)
  unwritten_behind bytes cuts opening now written u =
      let run = run_behind u.exchanges opening now u.run in
      (record { held = u.held; waiting = u.waiting; exchanges = u.exchanges; run = run.0; stood = u.stood }, run.1)

  wants_behind : (message : Message F.Header) (old new : S) → WantsFor F B message old new
      → WantsFor F A message (view old) (view new) × (name new ≡ name old)
  wants_behind message old new (request, asked, inl (carries, same)) = ((request, asked, inl (carries, ap view same)), ap name same)
  wants_behind message old new (request, asked, inr wants) =
      let step = steps.wants old (F.slave message.header) request new wants in
      ((request, asked, inr step.0), step.1)

  cause_behind : (bytes cuts held : List ℕ) (taken : List (Message F.Header)) (old new : S) → WantsMemory F B bytes cuts held taken old new
      → WantsMemory F A bytes cuts held taken (view old) (view new) × (name new ≡ name old)
  cause_behind bytes cuts held taken old new (inl (message, next, wants)) =
      let more = wants_behind message old new wants in
      (inl (message, next, more.0), more.1)
  cause_behind bytes cuts held taken old new (inr (inl (takes, all, same))) = (inr (inl (takes, all, ap view same)), ap name same)
  cause_behind bytes cuts held taken old new (inr (inr (none, nothing, same))) = (inr (inr (none, nothing, ap view same)), ap name same)

  wanting_behind : (bytes cuts : List ℕ) (opening now : S) (written : List ℕ) → Wanting F B bytes cuts opening now written
      → Wanting F A bytes cuts (view opening) (view now) written × (name now ≡ name opening)
  wanting_behind bytes cuts opening now written w =
      let run = run_behind w.exchanges opening w.ends w.run in
      let cause = cause_behind bytes cuts w.held w.stood.taken w.ends now w.cause in (
        record { held = w.held; exchanges = w.exchanges; ends = view w.ends; run = run.0; stood = w.stood; cause = cause.0 },
        cause.1 ∙ run.1,
      )

  ends_behind : (bytes cuts : List ℕ) (opening now : S) (written : List ℕ) (result : Result (Unit {0}) ProcessError) → EndsAs F B bytes cuts opening now written result
      → EndsAs F A bytes cuts (view opening) (view now) written result × (name now ≡ name opening)
  ends_behind bytes cuts opening now written (Ok done) s = served_behind bytes cuts opening now written (remaining []) s
  ends_behind bytes cuts opening now written (Err BytesRemaining) (left, some, s) =
      let more = served_behind bytes cuts opening now written (remaining left) s in
      ((left, some, more.0), more.1)
  ends_behind bytes cuts opening now written (Err ReadFault) (left, s) =
      let more = served_behind bytes cuts opening now written (remaining left) s in
      ((left, more.0), more.1)
  ends_behind bytes cuts opening now written (Err TurnLimit) (left, s) =
      let more = served_behind bytes cuts opening now written (remaining left) s in
      ((left, more.0), more.1)
  ends_behind bytes cuts opening now written (Err (InvalidRequest reason)) s = served_behind bytes cuts opening now written (refused reason) s
  ends_behind bytes cuts opening now written (Err (ResponseTooLong size)) s = served_behind bytes cuts opening now written (too_long size) s
  ends_behind bytes cuts opening now written (Err WriteFault) u = unwritten_behind bytes cuts opening now written u
  ends_behind bytes cuts opening now written (Err NoMemory) w = wanting_behind bytes cuts opening now written w
  ends_behind bytes cuts opening now written (Err TooManyRetries) s = served_behind bytes cuts opening now written (broken TooManyRetries) s
  ends_behind bytes cuts opening now written (Err InvalidLength) s = served_behind bytes cuts opening now written (broken InvalidLength) s
  ends_behind bytes cuts opening now written (Err (InvalidProtocol protocol)) s = served_behind bytes cuts opening now written (broken (InvalidProtocol protocol)) s

  pub ran_behind : (before after : S) (from to : Input) (sunk sinks : Output) (turns : ℕ) (result : Result (Unit {0}) ProcessError)
      → Ran F B turns (moment before from sunk) (moment after to sinks) result
      → Ran F A turns (moment (view before) from sunk) (moment (view after) to sinks) result × (name after ≡ name before)
  ran_behind before after from to sunk sinks turns result r =
      let ends = ends_behind r.fed (totals r.made) before after r.sent result r.served in (
        record {
          fed = r.fed;
          made = r.made;
          sent = r.sent;
          passes = r.passes;
          served = ends.0;
          rooms = r.rooms;
          spends = r.spends;
          ended = r.ended;
          read_fault = r.read_fault;
          write_fault = r.write_fault;
        },
        ends.1,
      )

  pub completes_behind : (opening now : S) (from to : Input) (sunk sinks : Output) (turns : ℕ) (result : Result (Unit {0}) ProcessError)
      → Completes F B turns (moment opening from sunk) (moment now to sinks) result → Completes F A turns (moment (view opening) from sunk) (moment (view now) to sinks) result
  completes_behind opening now from to sunk sinks turns result c told clean fit fewer read wrote =
      c told clean (λ xs end front rest run split asked. fit xs (view end) front rest (run_behind xs opening end run).0 split asked) fewer read wrote
