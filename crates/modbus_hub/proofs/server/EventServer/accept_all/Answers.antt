use Rattle.std.proofs.Common.{refl, arith, ◌∙◌, ◌+◌, true, false}
use Rattle.modbus_link.specs.Line.{meaning_of}
use Rattle.modbus_hub.specs.Turns.{AcceptsNext, AcceptsUpTo}
use Rattle.modbus_hub.proofs.Counting.{within_both}
use Rattle.modbus_hub.proofs.Marks.{same_both}
use Rattle.modbus_hub.proofs.Seating.{stay_as, stay_both, stay_same}
use Rattle.modbus_hub.proofs.Rounding.{AcceptsSome, accepts_none, accepts_more, accepts_last, accepts_many}
use Rattle.modbus_hub.proofs.server.EventServer.accept_all.Goals as goal

pub peers-init : goal.peers-init
peers-init g c =
    let first = c.args.self.now in
    let accepts = g.A.PolledAcceptor.accepts in
    let faults = g.S.Readiness.faults in (
      (refl, refl, λ within. within),
      refl,
      omega arith,
      stay_same g.I.Framing.framing (meaning_of g.A.Link.Ends.input g.A.Link.Ends.output g.A.Link.Ends.line)
          (AcceptsSome accepts faults 0 first first) first.seats.seats first.seats.seats (λ key. refl) (λ history all. accepts_none accepts faults first history),
      (refl, λ key. refl),
      omega arith,
      λ few. few,
    )

pub returns-then-not-accept_one-clause-stays : goal.returns-then-not-accept_one-clause-stays
returns-then-not-accept_one-clause-stays g c =
    let accepts = g.A.PolledAcceptor.accepts in
    let faults = g.S.Readiness.faults in
    let first = c.args.self.now in
    let now = c.peers.self in
    let next = c.accept_one.new.self in
    stay_both g.I.Framing.framing (meaning_of g.A.Link.Ends.input g.A.Link.Ends.output g.A.Link.Ends.line)
    (AcceptsSome accepts faults c.peers.counter first now) (AcceptsNext accepts faults false now next) (AcceptsUpTo accepts faults false first next)
    first.seats.seats now.seats.seats next.seats.seats c.peers.invariant.3
    c.if-not-accept_one.ensures.stays
    (λ history xs ys some last. accepts_last accepts faults c.peers.counter first now next history xs ys (omega (arith, c.peers-test.true)) some last)

pub returns-clause-stays : goal.returns-clause-stays
returns-clause-stays g c =
    let accepts = g.A.PolledAcceptor.accepts in
    let faults = g.S.Readiness.faults in
    let first = c.args.self.now in
    let now = c.peers.self in
    stay_as g.I.Framing.framing (meaning_of g.A.Link.Ends.input g.A.Link.Ends.output g.A.Link.Ends.line)
    (AcceptsSome accepts faults c.peers.counter first now) (AcceptsUpTo accepts faults true first now) first.seats.seats now.seats.seats c.peers.invariant.3
    (λ history more some. accepts_many accepts faults c.peers.counter first now history more (omega (arith, c.peers-test.false, c.peers.invariant.5)) some)

pub peers-preserved : goal.peers-preserved
peers-preserved g c =
    let accepts = g.A.PolledAcceptor.accepts in
    let faults = g.S.Readiness.faults in
    let first = c.args.self.now in
    let now = c.peers.self in
    let next = c.accept_one.new.self in (
      within_both first.seats now.seats next.seats c.peers.invariant.0 c.accept_one.ensures.limit,
      c.accept_one.ensures.found ∙ c.peers.invariant.1,
      omega (arith, c.peers.invariant.2, c.accept_one.ensures.later),
      stay_both g.I.Framing.framing (meaning_of g.A.Link.Ends.input g.A.Link.Ends.output g.A.Link.Ends.line)
          (AcceptsSome accepts faults c.peers.counter first now) (AcceptsNext accepts faults true now next) (AcceptsSome accepts faults (c.peers.counter + 1) first next)
          first.seats.seats now.seats.seats next.seats.seats c.peers.invariant.3
          c.if-not-accept_one.ensures.stays
          (accepts_more accepts faults c.peers.counter first now next),
      same_both first.seats now.seats next.seats c.peers.invariant.4 c.accept_one.ensures.left,
      omega (arith, c.peers-test.true),
      λ few. c.accept_one.ensures.few (c.peers.invariant.6 few),
    )

pub returns-then-not-accept_one-clause-few : goal.returns-then-not-accept_one-clause-few
returns-then-not-accept_one-clause-few g c = λ few. c.if-not-accept_one.ensures.few (c.peers.invariant.6 few)
