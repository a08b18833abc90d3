-- The status and the text of each ending of the program.
use Rattle.std.specs.Prelude.{ℕ, List, [], ◌++◌, codes, Option, Some, None, Result, Ok, Err}
use Rattle.std.specs.Fmt.{decimal}
use Rattle.modbus_frame.specs.declared.fault.Reason.{Reason}
use Rattle.modbus_frame.specs.declared.fault.Reason.TheVariants as reason
use Rattle.modbus_server.specs.declared.error.ProcessError.{ProcessError}
use Rattle.modbus_server.specs.declared.error.ProcessError.TheVariants.{ReadFault, WriteFault, TooManyRetries, BytesRemaining, InvalidRequest, ResponseTooLong, TurnLimit, InvalidLength, InvalidProtocol, NoMemory}
use Rattle.modbus_server.specs.declared.error.ServeError.{ServeError}
use Rattle.modbus_server.specs.declared.error.ServeError.TheVariants as serve
use Rattle.modbus_server.specs.declared.error.ServeError.TheVariants.{AcceptFault, Connect, SpawnFault}
use Rattle.modbus_store.specs.declared.table.PassesOut.{PassesOut}

-- a response that is too long has none, since the device gives no such response
abbrev pub status_of : ProcessError → Option ℕ
status_of ReadFault = Some 3
status_of WriteFault = Some 4
status_of TooManyRetries = Some 5
status_of BytesRemaining = Some 6
status_of (InvalidRequest reason) = Some 7
status_of TurnLimit = Some 8
status_of InvalidLength = Some 9
status_of (InvalidProtocol protocol) = Some 10
status_of NoMemory = Some 11
status_of (ResponseTooLong size) = None

abbrev pub ending_of : Result (Unit {0}) ProcessError → Option ℕ
ending_of (Ok done) = Some 0
ending_of (Err error) = status_of error

abbrev pub usage_line : List ℕ
usage_line = codes "modbus: usage: rtu [size [seeded]] | tcp [size] | make n | listen-rtu port | listen-tcp port | gateway port | ascii [size] | plan [address:width ..]\n"

abbrev pub reason_text : Reason → List ℕ
reason_text reason.UnexpectedEnd = codes "unexpected end"
reason_text reason.SizeExceeded = codes "size exceeded"
reason_text reason.TooShort = codes "too short"
reason_text reason.InvalidQuantity = codes "invalid quantity"
reason_text (reason.InvalidCoil word) = codes "invalid coil value"
reason_text (reason.UnsupportedMei mei) = codes "unsupported MEI type"
reason_text (reason.InvalidReadCode code) = codes "invalid read code"
reason_text (reason.InvalidConformity level) = codes "invalid conformity level"
reason_text (reason.InvalidRunStatus status) = codes "invalid run status"
reason_text reason.InvalidObjectLength = codes "invalid object length"
reason_text (reason.InvalidFunction code) = codes "invalid function"
reason_text reason.UndecodedData = codes "undecoded data"

abbrev pub line_of : ProcessError → List ℕ
line_of ReadFault = codes "modbus: read fault\n"
line_of WriteFault = codes "modbus: write fault\n"
line_of TooManyRetries = codes "modbus: too many retries\n"
line_of BytesRemaining = codes "modbus: bytes remaining\n"
line_of (InvalidRequest reason) = codes "modbus: invalid request: " ++ reason_text reason ++ codes "\n"
line_of TurnLimit = codes "modbus: turn limit\n"
line_of InvalidLength = codes "modbus: invalid length\n"
line_of (InvalidProtocol protocol) = codes "modbus: invalid protocol " ++ decimal protocol ++ codes "\n"
line_of NoMemory = codes "modbus: no memory\n"
line_of (ResponseTooLong size) = []

-- the status of a listener that does not go on; its hook refuses a connection only where no pass is left
abbrev pub listener_status_of : ServeError PassesOut → ℕ
listener_status_of AcceptFault = 12
listener_status_of SpawnFault = 13
listener_status_of (Connect none_left) = 14
listener_status_of serve.NoMemory = 11

abbrev pub listener_line_of : ServeError PassesOut → List ℕ
listener_line_of AcceptFault = codes "modbus: accept fault\n"
listener_line_of SpawnFault = codes "modbus: spawn fault\n"
listener_line_of (Connect none_left) = codes "modbus: passes out\n"
listener_line_of serve.NoMemory = line_of NoMemory

-- the line of a listener that the system refuses
abbrev pub bind_line : List ℕ
bind_line = codes "modbus: bind fault\n"

-- the line of a gateway that reaches no line
abbrev pub connect_line : List ℕ
connect_line = codes "modbus: connect fault\n"
