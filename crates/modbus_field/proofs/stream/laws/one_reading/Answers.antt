use Rattle.modbus_field.proofs.StreamPieces.{goes_on, nothing_left}
use Rattle.modbus_field.proofs.stream.laws.one_reading.Goals as goal

pub returns-clause-front : goal.returns-clause-front
returns-clause-front c = goes_on

pub returns-clause-rest : goal.returns-clause-rest
returns-clause-rest c = nothing_left
