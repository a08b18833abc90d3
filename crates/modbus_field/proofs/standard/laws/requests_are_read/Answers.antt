use Rattle.modbus_field.proofs.Read.{asked, read, spare}
use Rattle.modbus_field.proofs.standard.laws.requests_are_read.Goals as goal

pub returns-clause-asked : goal.returns-clause-asked
returns-clause-asked c = asked

pub returns-clause-read : goal.returns-clause-read
returns-clause-read c = read

pub returns-clause-spare : goal.returns-clause-spare
returns-clause-spare c = spare
