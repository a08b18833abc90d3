-- What is asked of a port itself (Modbus Application Protocol V1.1b3, sections 6.7 to 6.10).
use Rattle.std.specs.Prelude.{ℕ, ◌%◌, ◌==◌, ◌||◌, ◌&&◌, nat_lt, not, Bool, true, false, if◌then◌else◌, List, [], ◌∷◌, length, Option, Some, None}
use Rattle.modbus_frame.specs.declared.code.ExceptionCode.TheVariants.{IllegalFunction, IllegalDataValue}
use Rattle.modbus_frame.specs.FunctionCodes.{read_exception_status, diagnostics, get_comm_event_counter, get_comm_event_log}
use Rattle.modbus_frame.specs.Meaning.{Asked, Custom}
use Rattle.modbus_diagnostics.specs.declared.query.Query.{Query}
use Rattle.modbus_diagnostics.specs.declared.query.Query.TheVariants.{Status, Events, Log, Echo, ListenOnly, Restart, Clear, Counter, Wrong}

-- the sub-functions that a port knows: 00, 01, 02, 04, 0A to 12, and 14
abbrev pub is_known : ℕ → Bool
is_known sub = nat_lt sub 3 || (sub == 4) || (not (nat_lt sub 0x0A) && not (nat_lt 0x12 sub)) || (sub == 0x14)

-- a data field of one word, whose low byte is 0 and whose high byte is this
abbrev pub is_word : ℕ → List ℕ → Bool
is_word byte (high ∷ low ∷ []) = (high == byte) && (low == 0)
is_word byte _ = false

abbrev pub is_zero_word : List ℕ → Bool
is_zero_word field = is_word 0 field

-- the data field of a restart: FF00 clears the log too, 0000 leaves it
abbrev pub restart_of : List ℕ → Query
restart_of field =
    if is_word 0xFF field then Restart true
    else if is_word 0 field then Restart false else Wrong IllegalDataValue

-- the sub-functions whose data field is one word of 0. 14 clears the counter of lost characters, which is 0.
abbrev pub of_word : ℕ → Query
of_word sub =
    if sub == 4 then ListenOnly
    else if sub == 0x0A then Clear
    else if sub == 0x14 then Echo else Counter sub

-- a sub-function and its data field: words for 00, FF00 or 0000 for 01, one word of 0 for all others
abbrev pub of_sub : ℕ → List ℕ → Query
of_sub sub field =
    if sub == 0 then (if length field % 2 == 0 then Echo else Wrong IllegalDataValue)
    else if sub == 1 then restart_of field
    else if is_zero_word field then of_word sub else Wrong IllegalDataValue

-- what Diagnostics asks: a sub-function of two bytes, the first of which is 0, and its data field
abbrev pub diagnostics_query : List ℕ → Query
diagnostics_query (high ∷ sub ∷ field) = if not (high == 0) || not (is_known sub) then Wrong IllegalFunction else of_sub sub field
diagnostics_query _ = Wrong IllegalDataValue

-- what a request without data asks
abbrev pub without_data : List ℕ → Query → Query
without_data bytes query = if length bytes == 0 then query else Wrong IllegalDataValue

-- what a request for a unit asks the port itself
abbrev pub query_of : Asked → Option Query
query_of (Custom code bytes) =
    if code == read_exception_status then Some (without_data bytes Status)
    else if code == diagnostics then Some (diagnostics_query bytes)
    else if code == get_comm_event_counter then Some (without_data bytes Events)
    else if code == get_comm_event_log then Some (without_data bytes Log) else None
query_of _ = None

-- the bytes after the function code of a request that has no layout of its own
abbrev pub query_pdu : Asked → List ℕ
query_pdu (Custom code bytes) = bytes
query_pdu _ = []
