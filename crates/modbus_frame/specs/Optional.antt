-- What a server sends back, where it may stay silent.
use Rattle.std.specs.Prelude.{Option, Some, None, Result, Ok, Err}
use Rattle.modbus_frame.specs.declared.response.Response.{Response}
use Rattle.modbus_frame.specs.declared.response.ExceptionResponse.{ExceptionResponse}

-- nothing, a response, or an exception
abbrev pub optional_of : Result (Option Response) ExceptionResponse → Option (Result Response ExceptionResponse)
optional_of (Ok None) = None
optional_of (Ok (Some response)) = Some (Ok response)
optional_of (Err refusal) = Some (Err refusal)
