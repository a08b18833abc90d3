use Rattle.modbus_map.proofs.Raising.{lowered_other, lowered_some, lowered_none}
use Rattle.modbus_map.proofs.places.+lowered.Goals as goal

pub returns-then-units-ne0-clause-none : goal.returns-then-units-ne0-clause-none
returns-then-units-ne0-clause-none t c = λ rest e.
    lowered_other c.args.units rest c.args.fewer c.ranges.units c.if-fewer-eq0.false c.if-units-ne0.true e

pub returns-clause-some : goal.returns-clause-some
returns-clause-some t c =
    lowered_some c.args.units c.args.fewer c.lowered.result c.ranges.units c.if-fewer-eq0.false c.if-units-ne0.false c.lowered.ensures.some

pub returns-clause-none : goal.returns-clause-none
returns-clause-none t c =
    lowered_none c.args.units c.args.fewer c.lowered.result c.ranges.units c.if-fewer-eq0.false c.if-units-ne0.false c.lowered.ensures.none
