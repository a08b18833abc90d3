-- The records of a gateway: what each request of the TCP side led to on the line, joined end to end.
use Rattle.std.specs.Prelude.{◌≡◌, ◌≢◌, ◌↔◌, ℕ, Bool, true, false, List, [], ◌∷◌, ◌++◌, length, map, All, IsTrue, Option, Some, None, Err}
use Rattle.std.specs.List.{flat_map}
use Rattle.modbus_link.specs.declared.outside.Cut.{Cut}
use Rattle.modbus_link.specs.Outside.{outside, Input, Output, cuts_from}
use Rattle.modbus_link.specs.Line.{LinkMeaning}
use Rattle.modbus_link.specs.Passes.{Passes}
use Rattle.modbus_frame.specs.Meaning.{Asked}
use Rattle.modbus_frame.specs.declared.tcp.Header.{Header}
use Rattle.modbus_frame.specs.declared.fault.Error.TheVariants.{Transport}
use Rattle.modbus_frame.specs.declared.fault.TransportError.TheVariants.{NotConnected}
use Rattle.modbus_pdu.specs.RequestPdu.{request_pdu}
use Rattle.modbus_rtu.specs.Frame.{frame}
use Rattle.modbus_service.specs.Outcome.{Outcome, code_of}
use Rattle.modbus_server.specs.Exchanges.{Exchange, Run, framed_outcome, output}
use Rattle.modbus_server.specs.Tcp.{tcp}
use Rattle.modbus_client.specs.Calls.{Exchanged, Sent}
use Rattle.modbus_client.specs.Rtu.{rtu_protocol}
use Rattle.modbus_client.specs.Sends.{WritesRequest, stays_connected}
use Rattle.modbus_gateway.specs.Answer.{LineAnswer, of_call, of_sending, line_outcome}
use Rattle.modbus_gateway.specs.Forwards.{LineState, forwards}

-- the line as it is seen between two exchanges: what it gives and how often its reads failed, what it took and how often its writes
-- failed, and whether the client is connected to it
pub record LineView : Type 0 where
  pub input : Input
  pub output : Output
  pub is_connected : Bool

-- the line that a client stands on
abbrev pub view_of : {L : Type 0} → LinkMeaning L → LineState L → LineView
view_of M client = record { input = M.input client.link; output = M.output client.link; is_connected = client.is_connected }

-- one request of the TCP side, and its exchange on the line
pub record LineRecord : Type 0 where
  -- the MBAP header that the request came under
  pub header : Header
  pub request : Asked
  pub answer : LineAnswer
  -- the bytes that were written to the line, those that were read from it, and the cuts and rooms of the reads that gave them
  pub sent : List ℕ
  pub fed : List ℕ
  pub made : List Cut
  -- the line before it and after it
  pub before : LineView
  pub after : LineView

-- the frame that the request is on the line: for the slave of its unit identifier
abbrev pub line_frame : LineRecord → List ℕ
line_frame r = frame r.header.unit_id (request_pdu r.request)

-- whether the client is still connected after this answer: it is not after a write that failed
abbrev pub stays : LineAnswer → Bool
stays (of_call answer) = stays_connected answer
stays (of_sending answer) = stays_connected answer

-- Over a connected line a slave is called, and its reply is waited for; unit 0 is sent to all slaves, and nothing is read.
abbrev pub AsksAs : ℕ → LineRecord → LineAnswer → Type 0
AsksAs turns r (of_call answer) = (r.header.unit_id ≢ 0) × (held : List ℕ)
    × (ran : Exchanged rtu_protocol (outside r.before.input r.before.output) (outside r.after.input r.after.output) (record { slave_id = r.header.unit_id }) r.request turns held answer)
    × (ran.fed ≡ r.fed) × (ran.made ≡ r.made) × (ran.sent ≡ r.sent)
AsksAs turns r (of_sending answer) = (r.header.unit_id ≡ 0) × (held : List ℕ)
    × (ran : Sent rtu_protocol (outside r.before.input r.before.output) (outside r.after.input r.after.output) (record { slave_id = r.header.unit_id }) r.request held answer)
    × (r.fed ≡ []) × (r.made ≡ []) × (ran.sent ≡ r.sent)

-- the answer where the client is not connected
abbrev pub IsUnconnected : ℕ → LineAnswer → Type 0
IsUnconnected unit (of_call answer) = (unit ≢ 0) × (answer ≡ Err (Transport NotConnected))
IsUnconnected unit (of_sending answer) = (unit ≡ 0) × (answer ≡ Err (Transport NotConnected))

-- Over a line that is not connected nothing is done.
pub record IsIdle (r : LineRecord) : Type 0 where
  pub answer : IsUnconnected r.header.unit_id r.answer
  pub sent : r.sent ≡ []
  pub fed : r.fed ≡ []
  pub made : r.made ≡ []
  pub line : r.after ≡ r.before

-- how many of the turns a call of the client may spend, whether it is connected, and then the exchange
abbrev pub ExchangesAs : ℕ → Bool → LineRecord → Type 0
ExchangesAs turns true r = AsksAs turns r r.answer × (r.after.is_connected ≡ stays r.answer)
ExchangesAs turns false r = IsIdle r

abbrev pub IsRecord : ℕ → LineRecord → Type 0
IsRecord turns r = ExchangesAs turns r.before.is_connected r

-- one record after another: each begins where the one before it left the line
abbrev pub AreJoined : ℕ → LineView → List LineRecord → LineView → Type 0
AreJoined turns start [] end = end ≡ start
AreJoined turns start (r ∷ rs) end = (r.before ≡ start) × IsRecord turns r × AreJoined turns r.after rs end

-- what was written to the line in these records, what was read from it, and the cuts and rooms of the reads
abbrev pub written_in : List LineRecord → List ℕ
written_in [] = []
written_in (r ∷ rs) = r.sent ++ written_in rs

abbrev pub read_in : List LineRecord → List ℕ
read_in [] = []
read_in (r ∷ rs) = r.fed ++ read_in rs

abbrev pub cuts_in : List LineRecord → List Cut
cuts_in [] = []
cuts_in (r ∷ rs) = r.made ++ cuts_from (length r.fed) (cuts_in rs)

-- By its answer, how much of the frame a record wrote: the whole; nothing for a request that is too long, and where the client is not
-- connected; a front of it where a write failed or memory was wanting.
abbrev pub RecordWrites : LineRecord → LineAnswer → Type 0
RecordWrites r (of_call answer) = WritesRequest (line_frame r) r.sent answer
RecordWrites r (of_sending answer) = WritesRequest (line_frame r) r.sent answer

abbrev pub WritesFrame : LineRecord → Type 0
WritesFrame r = RecordWrites r r.answer

-- no write of the line failed in this record
abbrev pub Stays : LineRecord → Type 0
Stays r = IsTrue (stays r.answer)

-- These records go from one view of the line to another. What went over the line is what went over it in each of them, in order.
pub record Recorded (turns : ℕ) (start : LineView) (records : List LineRecord) (end : LineView) : Type 0 where
  pub joined : AreJoined turns start records end
  pub passes : Passes (outside start.input start.output) (outside end.input end.output) (read_in records) (cuts_in records) (written_in records)
  pub frames : All WritesFrame records
  pub connected : IsTrue end.is_connected ↔ (IsTrue start.is_connected × All Stays records)

-- what a record was asked, and what is told of it
abbrev pub record_told : LineRecord → Header × Asked × Option Outcome
record_told r = (r.header, r.request, line_outcome r.answer)

abbrev pub told_in : Exchange tcp → Header × Asked × Option Outcome
told_in x = (x.header, x.request, Some x.outcome)

-- the ADU that answers a record, under the transaction and the unit of its request; none where there is nothing to answer
abbrev pub reply_to : Header → ℕ → Option Outcome → List ℕ
reply_to header code None = []
reply_to header code (Some outcome) = framed_outcome tcp header code outcome

abbrev pub record_reply : LineRecord → List ℕ
record_reply r = reply_to r.header (code_of r.request) (line_outcome r.answer)

-- the ADUs that answer records, in order
abbrev pub replies : List LineRecord → List ℕ
replies records = flat_map record_reply records

-- a run of a gateway over exchanges, as records: one for each exchange, with its outcome
pub record RunInRecords {L : Type 0} (M : LinkMeaning L) (old new : LineState L) (exchanges : List (Exchange tcp)) : Type 0 where
  pub records : List LineRecord
  pub recorded : Recorded old.turns (view_of M old) records (view_of M new)
  pub told : map record_told records ≡ map told_in exchanges
  pub output : output tcp exchanges ≡ replies records
  pub turns : new.turns ≡ old.turns
  pub timeout : new.timeout ≡ old.timeout

-- one request for which memory was wanting, as a record
pub record WantInRecord {L : Type 0} (M : LinkMeaning L) (old new : LineState L) (header : Header) (request : Asked) : Type 0 where
  pub row : LineRecord
  pub recorded : Recorded old.turns (view_of M old) (row ∷ []) (view_of M new)
  pub told : record_told row ≡ (header, request, None)
  pub turns : new.turns ≡ old.turns
  pub timeout : new.timeout ≡ old.timeout

-- each run of a gateway is such records, and each want of memory such a record
abbrev pub RunsAreRecords : {L : Type 0} → LinkMeaning L → Type 0
RunsAreRecords {L} M = (old new : LineState L) (exchanges : List (Exchange tcp)) → Run tcp (forwards M) old exchanges new → RunInRecords M old new exchanges

abbrev pub WantsAreRecords : {L : Type 0} → LinkMeaning L → Type 0
WantsAreRecords {L} M = (old new : LineState L) (header : Header) (request : Asked) → (forwards M).wants old header.unit_id request new
    → WantInRecord M old new header request
