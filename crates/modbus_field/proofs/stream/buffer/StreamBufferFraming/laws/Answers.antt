use Rattle.std.proofs.Common.{◌++◌, ◌∷◌, []}
use Rattle.modbus_field.proofs.StreamPieces.{goes_on, nothing_left}
use Rattle.modbus_field.proofs.StreamFaults.{unbroken}
use Rattle.modbus_field.proofs.stream.buffer.StreamBufferFraming.laws.Goals as goal

pub returns-clause-calm : goal.returns-clause-calm
returns-clause-calm c = unbroken

pub returns-clause-next : goal.returns-clause-next
returns-clause-next c = λ read rest cuts messages before message clean next.
    goes_on read rest next.0 messages (before ++ message ∷ []) clean next.1

pub returns-clause-used : goal.returns-clause-used
returns-clause-used c = λ read cuts left messages before clean all.
    nothing_left read left messages before clean all.0 all.1
