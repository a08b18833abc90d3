use Rattle.std.proofs.Common.{◌≡◌, None, drop}
use Rattle.modbus_link.specs.Line.{meaning_of}
use Rattle.modbus_fleet.specs.Device.{fleet_by}
use Rattle.modbus_fleet.specs.Fleet.{EachGoes}
use Rattle.modbus_fleet.proofs.Going.{Follows}
use Rattle.modbus_fleet.proofs.fleet.Fleet.next_answer.Given as goal

abbrev pub invariant-ready : goal.invariant-ready
invariant-ready g l =
    let found = g.S.Readiness.found l.fn.self.readiness in
    EachGoes (fleet_by g.P.Protocol.protocol (meaning_of g.L.Ends.input g.L.Ends.output g.L.Ends.line) g.L.PolledLink.not_ready) l.fn.self.devices None l.self.devices
    × (l.self.readiness ≡ l.fn.self.readiness)
    × (l.self.taken ≡ l.index)
    × Follows (fleet_by g.P.Protocol.protocol (meaning_of g.L.Ends.input g.L.Ends.output g.L.Ends.line) g.L.PolledLink.not_ready) l.fn.self.devices (drop l.fn.self.taken found) l.self.devices (drop l.index found)
