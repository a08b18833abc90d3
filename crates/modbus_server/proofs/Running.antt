-- One step after others is one run of steps, with a look at a signal before each.
use Rattle.std.proofs.Common.{◌≡◌, ℕ, ◌+◌, ◌<◌, ◌≤◌, List, [], ◌++◌, length, refl, sym, ap, ◌∙◌, subst, arith, add-one, Result, Ok, Err, Bool, true, false, length-append, IsTrue, inr}
use Rattle.modbus_frame.specs.declared.server.Terminated.TheVariants.{Finished, Aborted}
use Rattle.modbus_link.specs.declared.outside.Cut.{Cut}
use Rattle.modbus_link.specs.Outside.{outside, Input, Output, Rose, cuts_from}
use Rattle.modbus_link.specs.Passes.{Passes, passes_both, passes_none}
use Rattle.modbus_link.specs.Reads.{HaveRooms, totals, Spends}
use Rattle.modbus_link.specs.TwoRuns.{count_both, totals_both, rooms_more, rooms_then}
use Rattle.modbus_server.specs.declared.error.ProcessError.{ProcessError}
use Rattle.modbus_server.specs.declared.error.ProcessError.TheVariants.{ReadFault, WriteFault, TooManyRetries, BytesRemaining, InvalidRequest, ResponseTooLong, TurnLimit, InvalidLength, InvalidProtocol, NoMemory}
use Rattle.modbus_server.specs.declared.error.Step.{Step}
use Rattle.modbus_server.specs.declared.error.Step.TheVariants.{Answered, Silent, MoreRead, Hungry, Ended}
use Rattle.modbus_server.specs.Framing.{Framing}
use Rattle.modbus_service.specs.Answering.{Answering}
use Rattle.modbus_server.specs.Exchanges.{Exchange, Run}
use Rattle.modbus_server.specs.Served.{Past, past, Stands, HasTakenAll, StopsAfter, remaining, EndsAfter}
use Rattle.modbus_server.specs.State.{State}
use Rattle.modbus_server.specs.Transfer.{EndsInput}
use Rattle.modbus_server.specs.Step.{StepsAs, EndsIfMay, Stepped, Ran, EndsRead, spending_of}
use Rattle.modbus_server.specs.Signal.{StaysUnset, LooksEach, RanUntil}
use Rattle.modbus_server.proofs.Standing.{opened, halted, runs_both, ends_whole, exchanges_whole}
use Rattle.modbus_server.specs.Moment.{moment, watched, signalled}

module _ (F : Framing) {S X : Type 0} (A : Answering S) (stops : X → ℕ) (looks : X → Bool → X → Type 0) where
  -- what a loop of steps keeps
  pub record Going (start now : S) (from to : Input) (sunk sinks : Output) (turns left : ℕ) (state : State) (first last : X) : Type 0 where
    pub fed : List ℕ
    pub made : List Cut
    pub sent : List ℕ
    pub exchanges : List (Exchange F)
    pub passes : Passes (outside from sunk) (outside to sinks) fed made sent
    pub run : Run F A start exchanges now
    pub stands : Stands F (past fed (totals made) sent exchanges) state.held []
    pub rooms : HaveRooms F.HasRoom fed 0 made
    pub spends : length made + left ≡ turns
    pub waiting : state.waiting ≡ []
    pub ready : IsTrue state.is_open
    pub later : stops first ≤ stops last
    pub looked : StaysUnset looks first (length made + length exchanges) last

  pub going : (start : S) (a : Input) (k : Output) (turns : ℕ) (state : State) (signal : X) → state.held ≡ [] → state.waiting ≡ [] → IsTrue state.is_open → F.StandsFor [] [] [] [] → Going start start a a k k turns turns state signal signal
  going start a k turns state signal empty written ready stands = record {
    fed = [];
    made = [];
    sent = [];
    exchanges = [];
    passes = passes_none (outside a k);
    run = refl;
    stands = subst (λ held. Stands F (past [] [] [] []) held []) (sym empty) (opened F stands);
    rooms = tt;
    spends = omega arith;
    waiting = written;
    ready = ready;
    later = omega arith;
    looked = refl;
  }

  -- it is stopped where the next look says so
  pub ran_stopped : (start now : S) (a b : Input) (k l : Output) (turns left : ℕ) (state : State) (first last seen : X) → Going start now a b k l turns left state first last
      → Rose (stops last) (stops seen) → looks last true seen → RanUntil F A (signalled stops looks) turns (watched start a k first) (watched now b l seen) (Ok Aborted)
  ran_stopped start now a b k l turns left state first last seen g rose set = record {
    fed = g.fed;
    made = g.made;
    sent = g.sent;
    passes = g.passes;
    held = state.held;
    exchanges = g.exchanges;
    run = g.run;
    stands = g.stands;
    rooms = g.rooms;
    spends = omega (arith, g.spends);
    rose = let before = g.later in omega (arith, rose, before);
    looked = (last, g.looked, set);
  }

  module _ (start now next : S) (a b c : Input) (k l m : Output) (turns left : ℕ) (old new : State) (may_read : Bool) (first last seen : X)
      (g : Going start now a b k l turns left old first last) (later : stops last ≤ stops seen) (unset : looks last false seen) where
    all_later : stops first ≤ stops seen
    all_later = let before = g.later in omega (arith, before, later)

    all_looked : (count : ℕ) → count ≡ length g.made + length g.exchanges + 1 → StaysUnset looks first count seen
    all_looked count e = subst (λ n. StaysUnset looks first n seen) (sym (e ∙ add-one (length g.made + length g.exchanges))) (last, g.looked, unset)

    module _ (result : Result Step ProcessError) (step : Stepped F A old new (moment now b l) (moment next c m) may_read result) where
      all_passes : Passes (outside a k) (outside c m) (g.fed ++ step.fed) (g.made ++ cuts_from (length g.fed) step.made) (g.sent ++ step.sent)
      all_passes = passes_both (outside a k) (outside b l) (outside c m) g.fed step.fed g.made step.made g.sent step.sent g.passes step.passes

      abbrev all : Past F
      all = past (g.fed ++ step.fed) (totals (g.made ++ cuts_from (length g.fed) step.made)) (g.sent ++ step.sent) (g.exchanges ++ step.fresh)

      all_run : Run F A start (g.exchanges ++ step.fresh) step.ends
      all_run = runs_both F A start g.exchanges now step.fresh step.ends g.run step.run

      all_steps : StepsAs F A all new step.ends next result
      all_steps = subst (λ t. StepsAs F A (past (g.fed ++ step.fed) t (g.sent ++ step.sent) (g.exchanges ++ step.fresh)) new step.ends next result) (sym (totals_both (length g.fed) g.made step.made))
          (step.stands (past g.fed (totals g.made) g.sent g.exchanges) g.stands)

      all_rooms : HaveRooms F.HasRoom (g.fed ++ step.fed) 0 (g.made ++ cuts_from (length g.fed) step.made)
      all_rooms = rooms_then F.HasRoom (g.fed ++ step.fed) 0 (length g.fed) g.made (cuts_from (length g.fed) step.made) g.passes.rises
          (rooms_more F.HasRoom g.fed step.fed 0 (length g.fed) g.made g.passes.rises (omega arith) g.rooms)
          (step.rooms (past g.fed (totals g.made) g.sent g.exchanges) g.stands)

      all_made : length (g.made ++ cuts_from (length g.fed) step.made) ≡ length g.made + length step.made
      all_made = count_both (length g.fed) g.made step.made

      -- it goes on
      going_on : (left' : ℕ) → next ≡ step.ends → Stands F all new.held new.waiting → length step.made + left' ≡ left → length step.made + length step.fresh ≡ 1 → new.waiting ≡ [] → IsTrue new.is_open
          → Going start next a c k m turns left' new first seen
      going_on left' same stands spends one none ready = record {
        fed = g.fed ++ step.fed;
        made = g.made ++ cuts_from (length g.fed) step.made;
        sent = g.sent ++ step.sent;
        exchanges = g.exchanges ++ step.fresh;
        passes = all_passes;
        run = subst (λ s. Run F A start (g.exchanges ++ step.fresh) s) (sym same) all_run;
        stands = subst (λ w. Stands F all new.held w) none stands;
        rooms = all_rooms;
        spends = let before = g.spends in let made = all_made in omega (arith, made, before, spends);
        waiting = none;
        ready = ready;
        later = all_later;
        looked = all_looked _ (let made = all_made in omega (arith, made, one, length-append g.exchanges step.fresh));
      }

    pub read_on : (left' : ℕ) → left ≡ left' + 1 → Stepped F A old new (moment now b l) (moment next c m) may_read (Ok MoreRead) → Going start next a c k m turns left' new first seen
    read_on left' e step =
        let one = step.leaves.0 in
        going_on (Ok MoreRead) step left' step.asked.1 (all_steps (Ok MoreRead) step) (omega (arith, one, e)) (omega (arith, one, ap length step.asked.0)) step.leaves.2 step.leaves.3

    pub answered_on : Stepped F A old new (moment now b l) (moment next c m) may_read (Ok Answered) → Going start next a c k m turns left new first seen
    answered_on step =
        let none = ap length step.leaves.0 in
        going_on (Ok Answered) step left step.asked.3 (all_steps (Ok Answered) step) (omega (arith, none)) (omega (arith, none, ap length step.asked.1)) step.leaves.2 step.leaves.3

    pub silent_on : Stepped F A old new (moment now b l) (moment next c m) may_read (Ok Silent) → Going start next a c k m turns left new first seen
    silent_on step =
        let none = ap length step.leaves.0 in
        going_on (Ok Silent) step left step.asked.3 (all_steps (Ok Silent) step) (omega (arith, none)) (omega (arith, none, ap length step.asked.1)) step.leaves.2 step.leaves.3

    module _ (may : may_read ≡ true → 0 < left) (must : may_read ≡ false → left ≡ 0) where
      spent : (error : ProcessError) (made : ℕ) → EndsIfMay may_read error → made + left ≡ turns → Spends (spending_of (Err error)) made turns
      spent ReadFault made e s = let some = may e in omega arith
      spent BytesRemaining made e s = let some = may e in omega arith
      spent TurnLimit made e s = absurd e
      spent WriteFault made e s = omega arith
      spent TooManyRetries made e s = omega arith
      spent (InvalidRequest reason) made e s = omega arith
      spent (ResponseTooLong size) made e s = omega arith
      spent InvalidLength made e s = omega arith
      spent (InvalidProtocol protocol) made e s = omega arith
      spent NoMemory made e s = omega arith

      ended_as : (error : ProcessError) (left : List ℕ) → EndsInput (Err error) left → EndsRead (Err error) left
      ended_as BytesRemaining left e = e
      ended_as _ left e = tt

      looks_each : {a c : Input} {k m : Output} {now : S} (error : ProcessError) (ran : Ran F A turns (moment start a k) (moment now c m) (Err error)) (count : ℕ) → length ran.made < count
          → LooksEach (Err error) ran count
      looks_each NoMemory ran count less = omega (arith, less)
      looks_each _ ran count less = less

      -- it is over
      abbrev ran_over : (result : Result Step ProcessError) (step : Stepped F A old new (moment now b l) (moment next c m) may_read result) (answer : Result (Unit {0}) ProcessError)
          → EndsAfter F A (all result step) step.ends next answer → Spends (spending_of answer) (length (g.made ++ cuts_from (length g.fed) step.made)) turns → (IsTrue b.told → EndsRead answer c.left)
          → (answer ≡ Err ReadFault → Rose b.faults c.faults) → (answer ≡ Err WriteFault → Rose l.faults m.faults) → Ran F A turns (moment start a k) (moment next c m) answer
      ran_over result step answer served spends ended read_fault write_fault = record {
        fed = g.fed ++ step.fed;
        made = g.made ++ cuts_from (length g.fed) step.made;
        sent = g.sent ++ step.sent;
        passes = all_passes result step;
        served = ends_whole F A (all result step) start step.ends next (all_run result step) answer served;
        rooms = all_rooms result step;
        spends = spends;
        ended = λ told. ended (g.passes.source.told ∙ told);
        read_fault = λ e.
            let rose = read_fault e in
            let before = g.passes.source.later in omega (arith, rose, before);
        write_fault = λ e.
            let rose = write_fault e in
            let before = g.passes.sink.later in omega (arith, rose, before);
      }

      pub ran_error : (error : ProcessError) → Stepped F A old new (moment now b l) (moment next c m) may_read (Err error) → RanUntil F A (signalled stops looks) turns (watched start a k first) (watched next c m seen) (Err error)
      ran_error error step = record {
        ran = ran_over (Err error) step (Err error) (all_steps (Err error) step)
            (spent error (length (g.made ++ cuts_from (length g.fed) step.made)) step.leaves.2 (omega (arith, all_made (Err error) step, ap length step.leaves.0, g.spends)))
            (λ told. ended_as error c.left (step.ended told))
            (λ e. let same : error ≡ ReadFault = cc in step.read_fault (ap (λ (x : ProcessError). Err x) same))
            (λ e. let same : error ≡ WriteFault = cc in step.write_fault (ap (λ (x : ProcessError). Err x) same));
        count = length g.made + length g.exchanges + 1;
        each = looks_each error _ _ (omega (arith, all_made (Err error) step, ap length step.leaves.0));
        looked = all_looked _ refl;
      }

      pub ran_hungry : Stepped F A old new (moment now b l) (moment next c m) may_read (Ok Hungry) → RanUntil F A (signalled stops looks) turns (watched start a k first) (watched next c m seen) (Err TurnLimit)
      ran_hungry step =
          let h = subst (λ w. HasTakenAll F (all (Ok Hungry) step) new.held w) step.leaves.2 (all_steps (Ok Hungry) step) in record {
            ran = ran_over (Ok Hungry) step (Err TurnLimit) (new.held, halted F A (all (Ok Hungry) step) new.held h.0 (remaining new.held) step.ends next (h.1, step.asked.1))
                (let none = must step.leaves.4 in omega (arith, all_made (Ok Hungry) step, ap length step.leaves.0, g.spends, none))
                (λ told. tt) (λ e. absurd cc) (λ e. absurd cc);
            count = length g.made + length g.exchanges + 1;
            each = omega (arith, all_made (Ok Hungry) step, ap length step.leaves.0);
            looked = all_looked _ refl;
          }

      pub ran_ended : Stepped F A old new (moment now b l) (moment next c m) may_read (Ok Ended) → RanUntil F A (signalled stops looks) turns (watched start a k first) (watched next c m seen) (Ok Finished)
      ran_ended step =
          let left_over = all_steps (Ok Ended) step in
          let h = subst (λ w. HasTakenAll F (all (Ok Ended) step) new.held w) step.leaves.2 left_over.0 in
          let s : StopsAfter F A (all (Ok Ended) step) step.ends next (remaining []) =
          subst (λ held. StopsAfter F A (all (Ok Ended) step) step.ends next (remaining held)) left_over.1 (halted F A (all (Ok Ended) step) new.held h.0 (remaining new.held) step.ends next (h.1, step.asked.1)) in record {
            ran = ran_over (Ok Ended) step (Ok tt) s (let some = may step.leaves.4 in omega (arith, all_made (Ok Ended) step, ap length step.leaves.0, g.spends, some))
                (λ told. step.ended told) (λ e. absurd cc) (λ e. absurd cc);
            count = length g.made + length g.exchanges + 1;
            each = omega (
              arith,
              all_made (Ok Ended) step,
              ap length step.leaves.0,
              length-append g.exchanges step.fresh,
              ap length step.asked.0,
              ap length (exchanges_whole F A (all (Ok Ended) step) start step.ends next (all_run (Ok Ended) step) s),
            );
            looked = all_looked _ refl;
          }

  -- no connection was opened, as memory was refused
  pub ran_none : (start : S) (a : Input) (k : Output) (turns : ℕ) (signal : X) → F.StandsFor [] [] [] [] → RanUntil F A (signalled stops looks) turns (watched start a k signal) (watched start a k signal) (Err NoMemory)
  ran_none start a k turns signal stands = record {
    ran = record {
      fed = [];
      made = [];
      sent = [];
      passes = passes_none (outside a k);
      served = ends_whole F A (past [] [] [] []) start start start refl (Err NoMemory) ([], opened F stands, inr (inr (refl, refl, refl)));
      rooms = tt;
      spends = omega arith;
      ended = λ told. tt;
      read_fault = λ e. absurd cc;
      write_fault = λ e. absurd cc;
    };
    count = 0;
    each = omega arith;
    looked = refl;
  }
