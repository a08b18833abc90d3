use Rattle.modbus_gateway.proofs.Recording.{run_in_records, want_in_record}
use Rattle.modbus_gateway.proofs.laws.runs_are_records.Goals as goal

pub returns-clause-run : goal.returns-clause-run
returns-clause-run g c = run_in_records _

pub returns-clause-want : goal.returns-clause-want
returns-clause-want g c = want_in_record _
