-- What a server of a stream never answers.
use Rattle.modbus_server.specs.declared.error.ProcessError.{ProcessError}
use Rattle.modbus_server.specs.declared.error.ProcessError.TheVariants.{TooManyRetries, InvalidRequest}

-- The answers that a server of a stream never gives: no frame is searched for, and whatever stands where a PDU is asks for something.
abbrev pub IsOfNoStream : ProcessError → Type 0
IsOfNoStream TooManyRetries = Unit {0}
IsOfNoStream (InvalidRequest reason) = Unit {0}
IsOfNoStream _ = ⊥
