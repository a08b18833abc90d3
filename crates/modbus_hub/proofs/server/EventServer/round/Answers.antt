use Rattle.std.proofs.Common.{refl, Ok}
use Rattle.modbus_link.specs.Line.{meaning_of}
use Rattle.modbus_hub.specs.Counted.{counted}
use Rattle.modbus_hub.specs.Seats.{polled_by, IsDrop}
use Rattle.modbus_hub.specs.Turns.{TakesRound, TellsRound}
use Rattle.modbus_hub.proofs.Seating.{go_aside, go_both}
use Rattle.modbus_hub.proofs.Sharing.{few_after}
use Rattle.modbus_hub.proofs.Rounding.{then_drops}
use Rattle.modbus_hub.proofs.server.EventServer.round.Goals as goal

pub returns-in-Ok-clause-goes_on : goal.returns-in-Ok-clause-goes_on
returns-in-Ok-clause-goes_on g c =
    let accepts = g.A.PolledAcceptor.accepts in
    let faults = g.S.Readiness.faults in
    let found = g.S.Readiness.found in
    let first = c.args.self.now in
    let now = c.turn.new.self in
    let last = c.let_go.new.self in
    let after = c.turn.new.service in
    let meaning = polled_by (meaning_of g.A.Link.Ends.input g.A.Link.Ends.output g.A.Link.Ends.line) g.A.Link.PolledLink.not_ready first.seats.limits in
    let e = c.let_go.ensures in
    go_both g.I.Framing.framing (counted g.V.Answerer.answering) meaning
    (TakesRound accepts faults found first now (Ok tt)) IsDrop (TellsRound accepts faults found g.A.PolledAcceptor.lacks_files c.args.sweeps.now c.look-due.new.self first last (Ok tt))
    first.seats.seats now.seats.seats last.seats.seats c.args.service.now after after c.in-Ok.ensures.goes_on
    (go_aside g.I.Framing.framing (counted g.V.Answerer.answering) meaning IsDrop now.seats.seats last.seats.seats after e.stays)
    (λ history xs ys first_round drops. (
      then_drops accepts faults found first now last history xs ys e.acceptor e.readiness e.losses first_round drops,
      record {
        now = now;
        taken = xs;
        gone = ys;
        both = refl;
        round = first_round;
        lets_go = (drops, e.acceptor, e.readiness, e.losses, e.asked, e.crowded);
        marks = λ marks. e.marks (c.turn.ensures.marks marks);
        next = c.look-due.ensures.next;
        looked = c.look-due.ensures.looked;
        went = rw (c.look-due.ensures.idle, c.look-due.ensures.late) at e.went;
      },
    ))

pub returns-in-Ok-clause-few : goal.returns-in-Ok-clause-few
returns-in-Ok-clause-few g c =
    λ few. few_after c.turn.new.self.seats c.let_go.new.self.seats c.let_go.ensures.no_more.1 c.let_go.ensures.peers (c.turn.ensures.few few)
