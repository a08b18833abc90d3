use Rattle.modbus_field.proofs.OwnLength.{counted_read, counted_write, fixed, echo, no_other}
use Rattle.modbus_field.proofs.burst.laws.functions_with_own_lengths.Goals as goal

pub returns-clause-records : goal.returns-clause-records
returns-clause-records c = λ slave count rest fits. (counted_read slave count rest fits, counted_write slave count rest fits)

pub returns-clause-diagnostics : goal.returns-clause-diagnostics
returns-clause-diagnostics c = fixed

pub returns-clause-echo : goal.returns-clause-echo
returns-clause-echo c = echo

pub returns-clause-others : goal.returns-clause-others
returns-clause-others c = no_other
