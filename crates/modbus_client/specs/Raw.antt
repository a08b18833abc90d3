-- A reply whose PDU is given as it is (Modbus Application Protocol V1.1b3, sections 4.1 and 7).
use Rattle.std.specs.Prelude.{ℕ, List, length, drop, slice_index, nat_lt, Result, Ok, Err, if◌then◌else◌}
use Rattle.modbus_frame.specs.FunctionCodes as number
use Rattle.modbus_frame.specs.declared.fault.Reason.{Reason}
use Rattle.modbus_frame.specs.declared.fault.Reason.TheVariants as reason
use Rattle.modbus_frame.specs.declared.response.Response.{Response}
use Rattle.modbus_frame.specs.declared.response.Response.TheVariants as response
use Rattle.modbus_frame.specs.declared.response.ExceptionResponse.{ExceptionResponse}
use Rattle.modbus_pdu.specs.Decodes.{◌>>=◌}
use Rattle.modbus_pdu.specs.ResponseOf.{exception_response_of}
use Rattle.modbus_client.specs.Protocol.{Protocol}

-- What a server's PDU stands for where nothing is read of it but its function code: that and the bytes behind it, or from the exception bit
-- on an exception.
unfoldable pub raw_result_of : List ℕ → Result (Result Response ExceptionResponse) Reason
raw_result_of pdu =
    if nat_lt (length pdu) 1 then Err reason.UnexpectedEnd
    else if nat_lt (slice_index pdu 0) number.exception_bit then Ok (Ok (response.Custom (slice_index pdu 0) (drop 1 pdu)))
    else (exception_response_of pdu >>= λ refusal. Ok (Err refusal))

-- the same search, where the PDU of a reply is given as it came
abbrev pub read_raw : {H : Type 0} → Protocol H → Protocol H
read_raw P = record P { means = raw_result_of }
