use Rattle.modbus_map.proofs.Grids.{no_quotient}
use Rattle.modbus_map.proofs.grid.quotient.Goals as goal

pub returns-then-rest-ne0-clause-refused : goal.returns-then-rest-ne0-clause-refused
returns-then-rest-ne0-clause-refused c = λ n e.
    no_quotient c.args.product c.args.factor c.from-factor.result c.in-Some.rest n c.ranges.product c.ranges.factor
    c.from-factor.ensures c.if-factor-eq0.false c.in-Some.ensures.1 c.if-rest-ne0.true e
