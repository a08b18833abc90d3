-- What a port answers by itself (Modbus Application Protocol V1.1b3, sections 6.7 to 6.10).
use Rattle.std.specs.Prelude.{◌≡◌, ℕ, ◌+◌, ◌==◌, Bool, if◌then◌else◌, List, [], ◌∷◌, ◌++◌, length, Option, Some, None, Result, Ok, Err}
use Rattle.modbus_frame.specs.declared.response.Response.{Response}
use Rattle.modbus_frame.specs.declared.response.Response.TheVariants as response
use Rattle.modbus_frame.specs.FunctionCodes.{read_exception_status, diagnostics, get_comm_event_counter, get_comm_event_log}
use Rattle.modbus_frame.specs.Meaning.{Asked}
use Rattle.modbus_pdu.specs.Word.{word}
use Rattle.modbus_service.specs.declared.service.ServiceError.{ServiceError}
use Rattle.modbus_service.specs.declared.service.ServiceError.TheVariants.{Exception, NoMemory}
use Rattle.modbus_service.specs.Outcome.{Outcome, silence, reply, exception}
use Rattle.modbus_diagnostics.specs.declared.counters.Counters.{Counters}
use Rattle.modbus_diagnostics.specs.declared.query.Query.{Query}
use Rattle.modbus_diagnostics.specs.declared.query.Query.TheVariants.{Status, Events, Log, Echo, ListenOnly, Restart, Clear, Counter, Wrong}
use Rattle.modbus_diagnostics.specs.Queries.{query_pdu}
use Rattle.modbus_diagnostics.specs.Journal.{JournalState}

-- The counter of a sub-function (6.8.1): 0B bus messages, 0C checksum errors, 0D exceptions, 0E own messages, 0F no responses, 10 the
-- exceptions 07, 11 the exceptions 06. A port loses no character: 12 is 0, and so is its diagnostic register, 02.
abbrev pub counter_of : Counters → ℕ → ℕ
counter_of c sub =
    if sub == 0x0B then c.bus_messages
    else if sub == 0x0C then c.checksum_errors
    else if sub == 0x0D then c.exceptions
    else if sub == 0x0E then c.own_messages
    else if sub == 0x0F then c.no_responses
    else if sub == 0x10 then c.negative_acknowledges
    else if sub == 0x11 then c.busy else 0

-- the bytes after the function code of the answer to Get Comm Event Log (6.10): their number, no busy state, the events, the bus messages,
-- and the log
abbrev pub log_bytes : JournalState → List ℕ
log_bytes j = (6 + length j.log) ∷ 0 ∷ 0 ∷ (word j.counters.events ++ (word j.counters.bus_messages ++ j.log))

-- the answer to a restart: the request again, unless the port only listens
abbrev pub restart_reply : Bool → Asked → Outcome
restart_reply listens request = if listens then silence else reply (response.Custom diagnostics (query_pdu request))

-- The answer to a query: no exception output; no busy state and the events; these and the log; the request again; nothing, where the port
-- is to listen only; the sub-function and its counter.
abbrev pub query_reply : JournalState → Asked → Query → Outcome
query_reply j request Status = reply (response.Custom read_exception_status (0 ∷ []))
query_reply j request Events = reply (response.Custom get_comm_event_counter (0 ∷ 0 ∷ word j.counters.events))
query_reply j request Log = reply (response.Custom get_comm_event_log (log_bytes j))
query_reply j request Echo = reply (response.Custom diagnostics (query_pdu request))
query_reply j request ListenOnly = silence
query_reply j request (Restart erases) = restart_reply j.listens_only request
query_reply j request Clear = reply (response.Custom diagnostics (query_pdu request))
query_reply j request (Counter sub) = reply (response.Custom diagnostics (0 ∷ sub ∷ word (counter_of j.counters sub)))
query_reply j request (Wrong code) = exception code

-- what is told of an outcome; memory may be refused for it
abbrev pub TellsOutcome : Outcome → Result (Option Response) ServiceError → Type 0
TellsOutcome outcome (Ok None) = outcome ≡ silence
TellsOutcome outcome (Ok (Some response)) = outcome ≡ reply response
TellsOutcome outcome (Err (Exception code)) = outcome ≡ exception code
TellsOutcome outcome (Err NoMemory) = Unit {0}
