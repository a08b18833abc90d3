-- How far a call came before its error.
use Rattle.modbus_frame.specs.declared.fault.Error.{Error}
use Rattle.modbus_frame.specs.declared.fault.Error.TheVariants as call
use Rattle.modbus_frame.specs.declared.fault.TransportError.{TransportError}
use Rattle.modbus_frame.specs.declared.fault.TransportError.TheVariants as transport

pub data Stage : Type 0 where
  -- nothing was sent
  unsent : Stage
  -- the request or the reply was being written
  writing : Stage
  -- bytes were being waited for: a read failed, the input ended, or no further read was allowed
  reading : Stage
  -- the bytes that were read tell it
  of_bytes : Stage
  -- memory was refused, at any time
  memory : Stage

-- the stage of a fault that a client tells of its link or of what came over it
abbrev pub transport_stage : TransportError → Stage
transport_stage transport.NotConnected = unsent
transport_stage (transport.RequestTooLong size) = unsent
transport_stage transport.WriteFault = writing
transport_stage transport.ReadFault = reading
transport_stage transport.BrokenPipe = reading
transport_stage transport.BytesRemaining = reading
transport_stage transport.TurnLimit = reading
transport_stage transport.TooManyRetries = of_bytes
transport_stage (transport.InvalidResponse reason) = of_bytes
transport_stage transport.InvalidLength = of_bytes
transport_stage (transport.InvalidProtocol protocol) = of_bytes

-- the stage of an error of a client's call
abbrev pub error_stage : Error → Stage
error_stage (call.Transport fault) = transport_stage fault
error_stage (call.Protocol fault) = of_bytes
error_stage call.NoMemory = memory
