use Rattle.std.proofs.Common.{rules, ◌≡◌, Some}
use Rattle.slab.specs.Slab.{ContainsKey, get, with_value}
use Rattle.slab.proofs.SlabLemmas.{Updates-with_value}
use Rattle.modbus_link.specs.Line.{meaning_of}
use Rattle.modbus_fleet.specs.Device.{fleet_by}
use Rattle.modbus_fleet.proofs.Going.{polls_here}
use Rattle.modbus_fleet.proofs.fleet.Fleet.poll.Goals as goal

pub returns-clause-polls : goal.returns-clause-polls
returns-clause-polls g c =
    let olds = c.self.inside.devices in
    let here : get olds c.args.key ≡ Some c.in-Some.device.now = search rules in
    let present : ContainsKey olds c.args.key = search rules in
    let wrote = Updates-with_value olds c.args.key c.poll.new.self present in
    rw (← c.self.view_is) (polls_here (fleet_by g.P.Protocol.protocol (meaning_of g.L.Ends.input g.L.Ends.output g.L.Ends.line) g.L.PolledLink.not_ready) c.args.key olds (with_value olds c.args.key c.poll.new.self) c.in-Some.device.now c.poll.new.self c.poll.result
    here wrote.changed c.poll.ensures)
