use Rattle.modbus_link.specs.Line.{meaning_of}
use Rattle.modbus_hub.specs.Counted.{counted}
use Rattle.slab.specs.Slab.{get}
use Rattle.modbus_hub.specs.Seats.{polled_by, ServesSpent, TurnsIfLeft}
use Rattle.modbus_hub.proofs.Histories.{stays_none}
use Rattle.modbus_hub.proofs.Seating.{go_as, go_both, go_same}
use Rattle.modbus_hub.proofs.Counting.{none_more}
use Rattle.modbus_hub.proofs.Marks.{marks_below, one_below}
use Rattle.modbus_hub.proofs.Sharing.{peers_both}
use Rattle.modbus_hub.proofs.Rounds.{ServesBelow, serves_all, serves_below, same_above}
use Rattle.std.proofs.Common.{◌≡◌, ◌+◌, ◌≤◌, length, inl, true, false, refl, arith}
use Rattle.modbus_hub.proofs.seats.Seats.serve_spent.Goals as goal

no_both : false ≡ true → ⊥
no_both e = cc

pub keys-init : goal.keys-init
keys-init g c =
    let old = c.args.self.now.seats in
    rw (← c.self.view_is) (
      (refl, refl, omega arith),
      go_same g.I.Framing.framing (counted g.V.Answerer.answering) (polled_by (meaning_of g.L.Ends.input g.L.Ends.output g.L.Ends.line) g.L.PolledLink.not_ready c.self.inside.limits.turn) (ServesBelow c.args.found.now 0 c.self.inside.seats)
          c.self.inside.seats c.args.service.now (λ history. ((refl, stays_none history, tt), λ key low. absurd (omega (arith, low)), λ key. inl refl)),
      λ key high. refl,
      λ key low. absurd (omega (arith, low)),
      λ known. absurd (no_both known),
      λ key peer is. is,
    )

pub keys-preserved : goal.keys-preserved
keys-preserved g c =
    let old = c.args.self.now.seats in
    let now = c.keys.self.seats in
    let key = c.keys.key in
    let found = c.args.found.now in (
      none_more c.args.self.now c.keys.self c.serve_if_left.new.self c.keys.invariant.0 c.serve_if_left.ensures.no_more,
      go_both g.I.Framing.framing (counted g.V.Answerer.answering) (polled_by (meaning_of g.L.Ends.input g.L.Ends.output g.L.Ends.line) g.L.PolledLink.not_ready c.args.self.now.limits) (ServesBelow found key old) (TurnsIfLeft found key (get now key)) (ServesBelow found (key + 1) old)
          old now c.serve_if_left.new.self.seats c.args.service.now c.keys.service c.serve_if_left.new.service
          c.keys.invariant.1 (rw (c.keys.invariant.0.0) at c.serve_if_left.ensures.goes_on) (serves_below found old now key c.keys.invariant.2),
      same_above old now c.serve_if_left.new.self.seats key c.serve_if_left.ensures.others c.keys.invariant.2,
      marks_below c.keys.self c.serve_if_left.new.self key c.serve_if_left.ensures.others c.serve_if_left.ensures.stays c.serve_if_left.ensures.marks c.keys.invariant.3,
      one_below c.keys.self c.serve_if_left.new.self key c.serve_if_left.ensures.others c.serve_if_left.ensures.one_left c.keys.invariant.4,
      peers_both old now c.serve_if_left.new.self.seats c.keys.invariant.5 c.serve_if_left.ensures.peers,
    )

pub returns-clause-goes_on : goal.returns-clause-goes_on
returns-clause-goes_on g c =
    let old = c.args.self.now.seats in
    let found = c.args.found.now in
    let room : length old.slots ≤ c.keys.key = rw (← c.self.view_is) (omega (arith, c.keys-test.false, c.capacity-key-end.ensures.slots)) in
    go_as g.I.Framing.framing (counted g.V.Answerer.answering) (polled_by (meaning_of g.L.Ends.input g.L.Ends.output g.L.Ends.line) g.L.PolledLink.not_ready c.args.self.now.limits) (ServesBelow found c.keys.key old) (ServesSpent found old)
    old c.keys.self.seats c.args.service.now c.keys.service c.keys.invariant.1 (serves_all found old c.keys.key room)
