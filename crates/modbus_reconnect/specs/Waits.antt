-- How a call ends on a line that tells silence (MODBUS over Serial Line V1.02, sections 2.4.1 and 2.5.1.1): by an answer, while bytes come
-- or at a silence, or it is given up where so many silences came.
use Rattle.std.specs.Prelude.{◌≡◌, ◌≢◌, ◌⊎◌, ℕ, ◌+◌, ◌-◌, ◌<◌, ◌≤◌, List, [], length, Err}
use Rattle.modbus_link.specs.declared.outside.Cut.{Cut}
use Rattle.modbus_link.specs.Outside.{Input, Output, Outside, outside, Rose}
use Rattle.modbus_link.specs.Passes.{Passes}
use Rattle.modbus_link.specs.Reads.{totals}
use Rattle.modbus_frame.specs.Meaning.{Asked, function_asked}
use Rattle.modbus_frame.specs.declared.fault.Error.TheVariants.{Transport}
use Rattle.modbus_frame.specs.declared.fault.HeaderSeen.{HeaderSeen}
use Rattle.modbus_frame.specs.declared.fault.TransportError.TheVariants as transport
use Rattle.modbus_pdu.specs.Encodes.{Fits}
use Rattle.modbus_pdu.specs.RequestPdu.{request_pdu}
use Rattle.modbus_client.specs.Protocol.{Protocol}
use Rattle.modbus_client.specs.Matches.{Answer}
use Rattle.modbus_client.specs.Call.{CallState, IsCallFor, IsAnswered}
use Rattle.modbus_client.specs.Calls.{Exchanged}
use Rattle.modbus_client.specs.Polled.{CallGoes}
use Rattle.modbus_client.specs.Silenced.{HasNoReply}
use Rattle.modbus_reconnect.specs.Settles.{RoseBy}
use Rattle.modbus_reconnect.specs.SettleState.{LineMeaning}

-- what is asked, under which header, with how many reads that give bytes, and for how many silences the reply is waited for
pub record LineQuestion (H : Type 0) : Type 0 where
  pub header : H
  pub asked : Asked
  pub turns : ℕ
  pub silences : ℕ

abbrev pub question_of : {H : Type 0} → H → Asked → ℕ → ℕ → LineQuestion H
question_of header asked turns silences = record { header = header; asked = asked; turns = turns; silences = silences }

-- What came since the request was noise, up to here: one burst after another, each up to a silence, in none of which the reply stood. So
-- many reads gave its bytes. `S` says how the reply stands in bytes before a silence.
pub data IsNoise {H : Type 0} (S : Protocol H) (seen : HeaderSeen) (from : Input) : ℕ → Input → Type 0 where
  nothing : IsNoise S seen from 0 from
  burst : (used : ℕ) (before after : Input) (sink : Output) (fed : List ℕ) (made : List Cut)
      → IsNoise S seen from used before → Passes (outside before sink) (outside after sink) fed made [] → 0 < length made
      → HasNoReply S seen fed (totals made) → IsNoise S seen from (used + length made) after

-- A call that still waits for a reply: it wrote and read so much, over a link that begins where the noise ended.
pub record StillWaits {H : Type 0} (P : Protocol H) (first now : Outside) (header : H) (asked : Asked) (turns : ℕ) (call : CallState) : Type 0 where
  pub fed : List ℕ
  pub made : List Cut
  pub sent : List ℕ
  pub passes : Passes first now fed made sent
  pub asks : IsCallFor P header asked turns call
  pub fits : Fits (request_pdu asked)
  pub goes : CallGoes P sent fed made call

-- Why a call is given up: as many silences came as it waits for. It tells whether noise came behind the request.
abbrev pub GivesUpBy : ℕ → ℕ → ℕ → ℕ → Answer → Type 0
GivesUpBy silences idle idle' used (Err (Transport transport.ReadFault)) = (used ≡ 0) × RoseBy silences idle idle'
GivesUpBy silences idle idle' used (Err (Transport transport.BytesRemaining)) = (0 < used) × RoseBy silences idle idle'
GivesUpBy silences idle idle' used answer = ⊥

-- A call is given up that still waits, and holds nothing.
pub record GivesUp {H I L : Type 0} (m : LineMeaning H I L) (q : LineQuestion H) (start : Input) (used : ℕ) (before after : L) (held : List ℕ) (answer : Answer) : Type 0 where
  pub call : CallState
  pub waits : StillWaits m.protocol (outside start (m.link.output before)) (outside (m.link.input after) (m.link.output after)) q.header q.asked (q.turns - used) call
  pub empty : held ≡ []
  pub because : GivesUpBy q.silences (m.silences before) (m.silences after) used answer

-- A silence ended the frames that a call held, which still waited, and the reply stands in them.
pub record AnswersSilent {H I L : Type 0} (m : LineMeaning H I L) (q : LineQuestion H) (start : Input) (used : ℕ) (before after : L) (held : List ℕ) (answer : Answer) : Type 0 where
  pub call : CallState
  pub waits : StillWaits m.protocol (outside start (m.link.output before)) (outside (m.link.input after) (m.link.output after)) q.header q.asked (q.turns - used) call
  pub some : call.held ≢ []
  pub answers : IsAnswered m.silent (m.protocol.seen q.header) (function_asked q.asked) waits.fed (totals waits.made) held answer
  pub silent : Rose (m.silences before) (m.silences after)

-- how it ended over the link that begins where the noise ended, and had this output where the request was sent
abbrev pub EndsFrom : {H I L : Type 0} → LineMeaning H I L → LineQuestion H → Input → ℕ → L → L → List ℕ → Answer → Type 0
EndsFrom m q start used before after held answer =
    Exchanged m.protocol (outside start (m.link.output before)) (outside (m.link.input after) (m.link.output after)) q.header q.asked (q.turns - used) held answer
    ⊎ (GivesUp m q start used before after held answer ⊎ AnswersSilent m q start used before after held answer)

-- What came up to a silence and had no reply is noise, and what came behind it decides: the answer is that of a call of a connected client
-- over it, or that of the frames that a silence ended, or the call was given up.
pub record EndsWait {H I L : Type 0} (m : LineMeaning H I L) (q : LineQuestion H) (before after : L) (held : List ℕ) (answer : Answer) : Type 0 where
  pub start : Input
  pub used : ℕ
  pub noise : IsNoise m.silent (m.protocol.seen q.header) (m.link.input before) used start
  pub within : used ≤ q.turns
  pub ends : EndsFrom m q start used before after held answer

-- the same of a call that was opened, whatever it asks
abbrev pub WaitsFor : {H I L : Type 0} → LineMeaning H I L → ℕ → L → L → CallState → CallState → Answer → Type 0
WaitsFor {H = H} m silences before after old new answer = (header : H) (asked : Asked) (turns : ℕ)
    → IsCallFor m.protocol header asked turns old → Fits (request_pdu asked) → CallGoes m.protocol [] [] [] old
    → EndsWait m (question_of header asked turns silences) before after new.held answer
