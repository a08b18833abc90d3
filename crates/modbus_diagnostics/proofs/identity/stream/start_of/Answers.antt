use Rattle.modbus_diagnostics.proofs.Parts.{begins_here, begins_first}
use Rattle.modbus_diagnostics.proofs.identity.stream.start_of.Goals as goal

pub returns-in-Some-clause-begins : goal.returns-in-Some-clause-begins
returns-in-Some-clause-begins c = begins_here c.args.category.now c.in-Some.place c.args.id c.in-Some.ensures.0 c.in-Some.ensures.1

pub returns-in-None-clause-begins : goal.returns-in-None-clause-begins
returns-in-None-clause-begins c = begins_first c.args.category.now c.args.id c.in-None.ensures
