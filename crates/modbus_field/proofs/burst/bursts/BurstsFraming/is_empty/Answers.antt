use Rattle.modbus_field.proofs.Reading.{emptied}
use Rattle.modbus_field.proofs.burst.bursts.BurstsFraming.is_empty.Goals as goal

pub returns : goal.returns
returns c = emptied c.self.inside.bytes.items c.args.self.now c.self.inside.taken c.len.result c.self.view_is c.len.ensures.value c.self.invariant.within
