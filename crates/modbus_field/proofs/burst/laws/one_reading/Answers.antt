use Rattle.modbus_field.proofs.OneReading.{frames, one, read}
use Rattle.modbus_field.proofs.Said.{says_noise}
use Rattle.modbus_field.proofs.burst.laws.one_reading.Goals as goal

pub returns-clause-one : goal.returns-clause-one
returns-clause-one c = one

pub returns-clause-read : goal.returns-clause-read
returns-clause-read c = read

pub returns-clause-frames : goal.returns-clause-frames
returns-clause-frames c = frames

pub returns-clause-long : goal.returns-clause-long
returns-clause-long c = says_noise
