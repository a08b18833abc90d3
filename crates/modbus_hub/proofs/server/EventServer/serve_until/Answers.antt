use Rattle.std.proofs.Common.{subst, sym, refl, arith, [], Ok, Err}
use Rattle.modbus_frame.specs.declared.server.Terminated.{Terminated}
use Rattle.modbus_link.specs.Line.{meaning_of}
use Rattle.modbus_hub.specs.Counted.{counted}
use Rattle.modbus_hub.specs.Seats.{polled_by}
use Rattle.modbus_hub.specs.Turns.{TellsRound, TellsRounds}
use Rattle.modbus_hub.proofs.Counting.{within_both}
use Rattle.modbus_hub.specs.Losses.{TellsAll}
use Rattle.modbus_hub.proofs.Telling.{none_told, told_more}
use Rattle.modbus_hub.proofs.Seating.{go_as, go_both, go_same, go_under}
use Rattle.modbus_hub.proofs.Rounding.{none_come}
use Rattle.modbus_hub.proofs.Serving.{RoundsSoFar, rounds_more, rounds_fail, so_far}
use Rattle.modbus_hub.proofs.server.EventServer.serve_until.Goals as goal

pub rounds-init : goal.rounds-init
rounds-init g c = (
  (refl, refl, λ within. within),
  omega arith,
  omega arith,
  go_same g.I.Framing.framing (counted g.V.Answerer.answering) (polled_by (meaning_of g.A.Link.Ends.input g.A.Link.Ends.output g.A.Link.Ends.line) g.A.Link.PolledLink.not_ready c.args.self.now.seats.limits)
      (RoundsSoFar g.A.PolledAcceptor.accepts g.S.Readiness.faults g.S.Readiness.found g.A.PolledAcceptor.lacks_files c.args.deadlines c.begin-sweeps.result c.args.self.now c.args.self.now) c.args.self.now.seats.seats c.args.service.now
      (λ history. (none_come g.A.PolledAcceptor.accepts g.S.Readiness.faults c.args.self.now c.args.self.now history [] refl (omega arith) (refl, refl) refl, (c.begin-sweeps.result.last, c.begin-sweeps.ensures.first, [], (refl, refl), c.begin-sweeps.ensures.begun))),
  λ marks. marks,
  λ few. few,
  none_told g.W.Watcher.tells c.args.self.now.losses c.args.watcher.now,
)

pub rounds-preserved : goal.rounds-preserved
rounds-preserved g c =
    let accepts = g.A.PolledAcceptor.accepts in
    let faults = g.S.Readiness.faults in
    let found = g.S.Readiness.found in
    let lacks = g.A.PolledAcceptor.lacks_files in
    let first = c.args.self.now in
    let now = c.rounds.self in
    let next = c.round.new.self in (
      within_both first.seats now.seats next.seats c.rounds.invariant.0 c.round.ensures.limit,
      omega (arith, c.rounds.invariant.1, c.round.ensures.later),
      omega (arith, c.rounds.invariant.2, c.is_set.ensures.later),
      go_both g.I.Framing.framing (counted g.V.Answerer.answering) (polled_by (meaning_of g.A.Link.Ends.input g.A.Link.Ends.output g.A.Link.Ends.line) g.A.Link.PolledLink.not_ready c.args.self.now.seats.limits)
          (RoundsSoFar accepts faults found lacks c.args.deadlines c.rounds.sweeps first now) (TellsRound accepts faults found lacks c.rounds.sweeps c.round.new.sweeps now next (Ok tt)) (RoundsSoFar accepts faults found lacks c.args.deadlines c.round.new.sweeps first next)
          first.seats.seats now.seats.seats next.seats.seats c.args.service.now c.rounds.service c.round.new.service
          c.rounds.invariant.3
          (go_under g.I.Framing.framing (counted g.V.Answerer.answering) (meaning_of g.A.Link.Ends.input g.A.Link.Ends.output g.A.Link.Ends.line) g.A.Link.PolledLink.not_ready now.seats.limits first.seats.limits (TellsRound accepts faults found lacks c.rounds.sweeps c.round.new.sweeps now next (Ok tt)) now.seats.seats next.seats.seats c.rounds.service c.round.new.service c.rounds.invariant.0.0 c.in-Ok.ensures.goes_on) (rounds_more accepts faults found lacks c.args.deadlines c.rounds.sweeps c.round.new.sweeps first now next),
      λ marks. c.round.ensures.marks (c.rounds.invariant.4 marks),
      λ few. c.round.ensures.few (c.rounds.invariant.5 few),
      told_more g.W.Watcher.tells first.losses now.losses next.losses c.args.watcher.now c.rounds.watcher c.round.new.watcher c.rounds.invariant.6 c.in-Ok.ensures.told,
    )

pub returns-in-Err-clause-goes_on : goal.returns-in-Err-clause-goes_on
returns-in-Err-clause-goes_on g c =
    let accepts = g.A.PolledAcceptor.accepts in
    let faults = g.S.Readiness.faults in
    let found = g.S.Readiness.found in
    let lacks = g.A.PolledAcceptor.lacks_files in
    let failed = c.in-Err.failed in
    let first = c.args.self.now in
    let now = c.rounds.self in
    let next = c.round.new.self in
    go_both g.I.Framing.framing (counted g.V.Answerer.answering) (polled_by (meaning_of g.A.Link.Ends.input g.A.Link.Ends.output g.A.Link.Ends.line) g.A.Link.PolledLink.not_ready c.args.self.now.seats.limits)
    (RoundsSoFar accepts faults found lacks c.args.deadlines c.rounds.sweeps first now) (TellsRound accepts faults found lacks c.rounds.sweeps c.round.new.sweeps now next (Err failed)) (TellsRounds accepts faults {R = Terminated} found lacks c.args.deadlines first next (Err failed))
    first.seats.seats now.seats.seats next.seats.seats c.args.service.now c.rounds.service c.round.new.service
    c.rounds.invariant.3
    (go_under g.I.Framing.framing (counted g.V.Answerer.answering) (meaning_of g.A.Link.Ends.input g.A.Link.Ends.output g.A.Link.Ends.line) g.A.Link.PolledLink.not_ready now.seats.limits first.seats.limits (TellsRound accepts faults found lacks c.rounds.sweeps c.round.new.sweeps now next (Err failed)) now.seats.seats next.seats.seats c.rounds.service c.round.new.service c.rounds.invariant.0.0 c.in-Err.ensures.goes_on) (rounds_fail accepts faults found lacks Terminated failed c.args.deadlines c.rounds.sweeps c.round.new.sweeps first now next)

pub returns-then-is_set-clause-goes_on : goal.returns-then-is_set-clause-goes_on
returns-then-is_set-clause-goes_on g c =
    let accepts = g.A.PolledAcceptor.accepts in
    let faults = g.S.Readiness.faults in
    let found = g.S.Readiness.found in
    let lacks = g.A.PolledAcceptor.lacks_files in
    let first = c.args.self.now in
    let now = c.rounds.self in
    go_as g.I.Framing.framing (counted g.V.Answerer.answering) (polled_by (meaning_of g.A.Link.Ends.input g.A.Link.Ends.output g.A.Link.Ends.line) g.A.Link.PolledLink.not_ready first.seats.limits)
    (RoundsSoFar accepts faults found lacks c.args.deadlines c.rounds.sweeps first now) (TellsRounds accepts faults {R = Terminated} found lacks c.args.deadlines first now (Ok Terminated.Aborted))
    first.seats.seats now.seats.seats c.args.service.now c.rounds.service c.rounds.invariant.3
    (λ history more some. so_far accepts faults found lacks c.args.deadlines c.rounds.sweeps first now history more some Terminated.Aborted)

pub returns-in-Err-clause-few : goal.returns-in-Err-clause-few
returns-in-Err-clause-few g c = λ few. c.round.ensures.few (c.rounds.invariant.5 few)

pub returns-in-Err-clause-told : goal.returns-in-Err-clause-told
returns-in-Err-clause-told g c = (c.rounds.self.losses, subst (λ (w : g.row.W.Denot). TellsAll g.W.Watcher.tells c.args.self.now.losses c.rounds.self.losses c.args.watcher.now w) (sym c.in-Err.ensures.told) c.rounds.invariant.6)
