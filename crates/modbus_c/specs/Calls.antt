-- A call of a client in memory of the caller, and what is found for it in the bytes that are held, in the words of modbus_client.
use Rattle.std.specs.Prelude.{◌≡◌, ℕ, ◌+◌, Bool, true, false, List, [], take, drop, slice_index, Some, None, Result, Ok, Err, if◌then◌else◌}
use Rattle.modbus_frame.specs.Codes.{function_of, function_number}
use Rattle.modbus_frame.specs.Answered.{function_answered}
use Rattle.modbus_frame.specs.Meaning.{Asked, function_asked}
use Rattle.modbus_frame.specs.declared.fault.HeaderSeen.{HeaderSeen}
use Rattle.modbus_frame.specs.declared.fault.TransportError.TheVariants as fault
use Rattle.modbus_frame.specs.declared.tcp.Header.{Header}
use Rattle.modbus_frame.specs.declared.response.Response.{Response}
use Rattle.modbus_frame.specs.declared.response.ExceptionResponse.{ExceptionResponse}
use Rattle.modbus_pdu.specs.ResponseOf.{response_result_of}
use Rattle.modbus_rtu.specs.declared.search.Next.{Next}
use Rattle.modbus_rtu.specs.declared.search.Next.TheVariants as next
use Rattle.modbus_rtu.specs.Frame.{judged_by}
use Rattle.modbus_rtu.specs.Limits.{overhead, max_retries}
use Rattle.modbus_rtu.specs.Next.{IsNextBy}
use Rattle.modbus_rtu.specs.ResponseHead.{response_head}
use Rattle.modbus_client.specs.Protocol.{Found, waiting, reply, broken}
use Rattle.modbus_client.specs.Rtu.{slave_seen}
use Rattle.modbus_client.specs.Tcp.{FindsOwnAdu}
use Rattle.modbus_c.specs.Inbox.{held}
use Rattle.modbus_c.specs.declared.call.ModbusCall.{ModbusCall}
use Rattle.modbus_c.specs.declared.request.ModbusRequest.{ModbusRequest}
use Rattle.modbus_c.specs.declared.seek.Sought.{Sought}
use Rattle.modbus_c.specs.declared.seek.Sought.TheVariants as sought

-- the header of an ADU
abbrev pub heading : ℕ → ℕ → Header
heading transaction unit = record { transaction_id = transaction; unit_id = unit }

-- what is compared of the header of the request
abbrev pub header_asked : ModbusCall → HeaderSeen
header_asked call = record { transaction_id = if call.tcp then Some call.transaction_id else None; slave_id = call.slave }

-- a call of this framing that asked this under this header, by this struct, which it keeps, and holds no byte yet
pub record IsOpened (tcp : Bool) (asked : HeaderSeen) (request : Asked) (told : ModbusRequest) (call : ModbusCall) : Type 0 where
  pub framing : call.tcp ≡ tcp
  pub under : header_asked call ≡ asked
  pub keeps : call.request ≡ told
  pub function : function_of call.request.function ≡ function_asked request
  pub empty : held call.inbox ≡ []

-- the next frame of a response in bytes, as `IsNextBy`
abbrev pub IsNextResponse : List ℕ → Next → Type 0
IsNextResponse bytes found = IsNextBy (judged_by response_head) bytes found

-- The next frame of a response is the reply, and the bytes behind it are left; or the search waits at an offset, and the bytes from there
-- on are left; or no frame stands at the first twenty offsets, which are gone.
abbrev pub FindsNextMessage : List ℕ → Found → Type 0
FindsNextMessage bytes (waiting left) = (dropped : ℕ) × IsNextResponse bytes (next.Waiting dropped) × (left ≡ drop dropped bytes)
FindsNextMessage bytes (reply left seen pdu) = (start n : ℕ) × IsNextResponse bytes (next.Frame start n)
    × (seen ≡ slave_seen (slice_index bytes start)) × (pdu ≡ take n (drop (start + 1) bytes)) × (left ≡ drop (start + (n + overhead)) bytes)
FindsNextMessage bytes (broken left told) = IsNextResponse bytes next.TooManyRetries × (told ≡ fault.TooManyRetries) × (left ≡ drop max_retries bytes)

-- Modbus TCP: the first ADU of the transaction and the unit that were asked is the reply, and those before it are dropped. A serial line:
-- the next frame.
abbrev pub FindsMessageBy : Bool → HeaderSeen → List ℕ → Found → Type 0
FindsMessageBy true asked bytes found = FindsOwnAdu asked bytes [] found
FindsMessageBy false asked bytes found = FindsNextMessage bytes found

-- so the search stands in the bytes that a call holds
abbrev pub FindsMessage : ModbusCall → Found → Type 0
FindsMessage call found = FindsMessageBy call.tcp (header_asked call) (held call.inbox) found

-- the call finds a message under this header, whose PDU is this answer, and holds those bytes behind it
pub record FindsAnswer (call : ModbusCall) (seen : HeaderSeen) (answer : Result Response ExceptionResponse) (left : List ℕ) : Type 0 where
  pub pdu : List ℕ
  pub finds : FindsMessage call (reply left seen pdu)
  pub reads : response_result_of pdu ≡ Ok answer

-- the function of an answer
abbrev pub function_told : Result Response ExceptionResponse → ℕ
function_told (Ok response) = function_number (function_answered response)
function_told (Err refusal) = function_number refusal.function

-- how many of the held bytes a search uses, or finds to be of no use
abbrev pub used_by : Sought → ℕ
used_by (sought.Waiting used) = used
used_by (sought.Message seen pdu used) = used
used_by (sought.Crowd used) = used
used_by (sought.NoLength used) = used
used_by (sought.Foreign used protocol) = used

-- the same of these bytes in the words of modbus_client
abbrev pub found_in : List ℕ → Sought → Found
found_in bytes (sought.Waiting used) = waiting (drop used bytes)
found_in bytes (sought.Message seen pdu used) = reply (drop used bytes) seen pdu.now
found_in bytes (sought.Crowd used) = broken (drop used bytes) fault.TooManyRetries
found_in bytes (sought.NoLength used) = broken (drop used bytes) fault.InvalidLength
found_in bytes (sought.Foreign used protocol) = broken (drop used bytes) (fault.InvalidProtocol protocol)
