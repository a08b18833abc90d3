-- What a gateway answers to TCP, by what the client of its serial line answers (Modbus Application Protocol V1.1b3, section 7).
use Rattle.std.specs.Prelude.{nat_le, if◌then◌else◌, length, Option, Some, None, Result, Ok, Err}
use Rattle.modbus_frame.specs.declared.code.ExceptionCode.{ExceptionCode}
use Rattle.modbus_frame.specs.declared.code.ExceptionCode.TheVariants.{IllegalDataValue, GatewayPathUnavailable, GatewayTargetDevice}
use Rattle.modbus_frame.specs.declared.response.Response.{Response}
use Rattle.modbus_frame.specs.declared.fault.Error.{Error}
use Rattle.modbus_frame.specs.declared.fault.Error.TheVariants.{Protocol, Transport, NoMemory}
use Rattle.modbus_frame.specs.declared.fault.TransportError.{TransportError}
use Rattle.modbus_frame.specs.declared.fault.TransportError.TheVariants as transport
use Rattle.modbus_pdu.specs.Limits.{max_pdu}
use Rattle.modbus_pdu.specs.ResponsePdu.{response_pdu}
use Rattle.modbus_service.specs.declared.service.ServiceError.{ServiceError}
use Rattle.modbus_service.specs.declared.service.ServiceError.TheVariants as service
use Rattle.modbus_service.specs.Outcome.{Outcome, silence, reply, exception}
use Rattle.modbus_client.specs.Matches.{Answer}

-- what the client of the line answers: to a call of one slave, or to a request that was sent to all of them
pub data LineAnswer : Type 0 where
  of_call : Answer → LineAnswer
  of_sending : Result (Unit {0}) Error → LineAnswer

-- a response of the line goes back as it is; one whose PDU does not fit is no answer of the device
abbrev pub outcome_of_response : Response → Outcome
outcome_of_response response = if nat_le (length (response_pdu response)) max_pdu then reply response else exception GatewayTargetDevice

-- which exception tells a fault of the line: a request that is too long has a value that is not allowed; a line that is not connected is
-- no path; for each other fault the device did not answer
abbrev pub exception_of_error : TransportError → ExceptionCode
exception_of_error transport.NotConnected = GatewayPathUnavailable
exception_of_error (transport.RequestTooLong size) = IllegalDataValue
exception_of_error _ = GatewayTargetDevice

-- the outcome of a call; none where memory was wanting
abbrev pub outcome_of_call : Answer → Option Outcome
outcome_of_call (Ok (Ok response)) = Some (outcome_of_response response)
outcome_of_call (Ok (Err code)) = Some (exception code)
outcome_of_call (Err (Protocol fault)) = Some (exception GatewayTargetDevice)
outcome_of_call (Err (Transport fault)) = Some (exception (exception_of_error fault))
outcome_of_call (Err NoMemory) = None

-- the outcome of a broadcast, which nobody answers, whatever the line did; none where memory was wanting
abbrev pub outcome_of_sending : Result (Unit {0}) Error → Option Outcome
outcome_of_sending (Ok done) = Some silence
outcome_of_sending (Err (Protocol fault)) = Some silence
outcome_of_sending (Err (Transport fault)) = Some silence
outcome_of_sending (Err NoMemory) = None

abbrev pub line_outcome : LineAnswer → Option Outcome
line_outcome (of_call answer) = outcome_of_call answer
line_outcome (of_sending answer) = outcome_of_sending answer

-- an outcome, or that memory was wanting, as what answers requests gives it
abbrev pub result_given : Option Outcome → Result (Option Response) ServiceError
result_given (Some silence) = Ok None
result_given (Some (reply response)) = Ok (Some response)
result_given (Some (exception code)) = Err (service.Exception code)
result_given None = Err service.NoMemory
