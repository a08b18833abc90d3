use Rattle.modbus_map.proofs.Raising.{raised_some, raised_none}
use Rattle.modbus_map.proofs.places.+raised.Goals as goal

pub returns-in-Some : goal.returns-in-Some
returns-in-Some t c =
    raised_some c.args.units c.in-Some.tenfold c.args.more c.raised.result c.ranges.units c.if-more-eq0.false c.in-Some.ensures c.raised.ensures

pub returns-in-None : goal.returns-in-None
returns-in-None t c = raised_none c.args.units c.args.more c.ranges.units c.if-more-eq0.false c.in-None.ensures
