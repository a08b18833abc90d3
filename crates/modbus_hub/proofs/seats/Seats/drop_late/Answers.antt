use Rattle.std.proofs.Common.{◌∙◌}
use Rattle.modbus_link.specs.Line.{meaning_of}
use Rattle.modbus_hub.specs.Seats.{IsDrop, on_time}
use Rattle.modbus_hub.proofs.Seating.{stay_both}
use Rattle.modbus_hub.proofs.Counting.{none_more}
use Rattle.modbus_hub.proofs.Sharing.{peers_both}
use Rattle.modbus_hub.proofs.Rounds.{drops_both, drops_below, same_above}
use Rattle.modbus_hub.proofs.seats.Seats.drop_late.Goals as goal

pub keys-preserved : goal.keys-preserved
keys-preserved g c =
    let old = c.args.self.now.seats in
    let now = c.keys.self.seats in
    let next = c.drop_if_late.new.self.seats in
    let u = c.drop_if_late.ensures.lets_go in (
      c.drop_if_late.ensures.spent ∙ c.keys.invariant.0,
      none_more c.args.self.now c.keys.self c.drop_if_late.new.self c.keys.invariant.1 c.drop_if_late.ensures.no_more,
      stay_both g.I.Framing.framing (meaning_of g.L.Ends.input g.L.Ends.output g.L.Ends.line) IsDrop IsDrop IsDrop old now next
          c.keys.invariant.2 c.drop_if_late.ensures.stays drops_both,
      drops_below on_time old now next c.keys.key u c.keys.invariant.3 c.keys.invariant.4,
      same_above old now next c.keys.key u.others c.keys.invariant.4,
      peers_both old now next c.keys.invariant.5 c.drop_if_late.ensures.peers,
    )
