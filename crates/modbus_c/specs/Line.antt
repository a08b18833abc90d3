-- What the units of a line do with a burst: with all that lies between two silences (MODBUS over Serial Line V1.02, section 2.5.1.1).
use Rattle.std.specs.Prelude.{◌≡◌, ℕ, ◌≤◌, List, [], ◌∷◌, ◌++◌, length, drop, if◌then◌else◌, Option, Some, None, Result, Ok, Err}
use Rattle.modbus_frame.specs.Meaning.{Asked}
use Rattle.modbus_frame.specs.declared.response.Response.{Response}
use Rattle.modbus_frame.specs.declared.response.ExceptionResponse.{ExceptionResponse}
use Rattle.modbus_pdu.specs.ResponsePdu.{response_result_pdu}
use Rattle.modbus_rtu.specs.Frame.{frame}
use Rattle.modbus_service.specs.Outcome.{Outcome, silence, reply_pdu, code_of}
use Rattle.modbus_field.specs.declared.burst.frame.FrameHeader.{FrameHeader}
use Rattle.modbus_field.specs.declared.burst.frame.Part.{Part}
use Rattle.modbus_field.specs.declared.burst.frame.Part.TheVariants.{Unasked}
use Rattle.modbus_field.specs.Bursts.{Heard, is_answered, said}
use Rattle.modbus_field.specs.Unread.{any_request_of}
use Rattle.modbus_c.specs.Serves.{WritesReply}
use Rattle.modbus_c.specs.Units.{Units, UnitsTell}

-- the frame of what is told to a request of this function code; silence has none
abbrev pub told_frame : ℕ → ℕ → Outcome → List ℕ
told_frame slave code silence = []
told_frame slave code told = frame slave (reply_pdu code told)

-- the frame of a response or an exception, or none
abbrev pub answered_frame : ℕ → Option (Result Response ExceptionResponse) → List ℕ
answered_frame slave None = []
answered_frame slave (Some answer) = frame slave (response_result_pdu answer)

-- A request or a frame behind which another stands asks the slave of its address. Noise and a reply ask nobody, and nothing changes.
abbrev pub PartTells : {U : Type 0} → Units U → Part → ℕ → Asked → Outcome → List U → List U → Type 0
PartTells V Unasked slave request outcome old new = (outcome ≡ silence) × (new ≡ old)
PartTells V part slave request outcome old new = UnitsTell V slave request outcome old new

-- the reply behind one more message: that of the last frame of a burst alone is written
abbrev pub reply_behind : FrameHeader → ℕ → Outcome → List ℕ → List ℕ
reply_behind header code outcome was = if is_answered header then told_frame header.slave code outcome else was

-- units heard a message, behind which this is the reply
abbrev pub Hears : {U : Type 0} → Units U → List U → List ℕ → Heard → List U → List ℕ → Type 0
Hears V old was it new reply = (outcome : Outcome) × PartTells V it.header.part it.header.slave (any_request_of it.pdu) outcome old new
    × (reply ≡ reply_behind it.header (code_of (any_request_of it.pdu)) outcome was)

-- they heard these messages, one after another
abbrev pub HearsEach : {U : Type 0} → Units U → List U → List ℕ → List Heard → List U → List ℕ → Type 0
HearsEach V old was [] new reply = (new ≡ old) × (reply ≡ was)
HearsEach {U} V old was (it ∷ others) new reply = (next : List U) × (behind : List ℕ) × Hears V old was it next behind × HearsEach V next behind others new reply

-- They heard all that a burst says, and so many bytes of a reply were written, none where there is no answer. Where memory was refused they
-- heard what it says up to a message, and nothing was written.
abbrev pub HearsBurst : {U : Type 0} → Units U → List U → List ℕ → List ℕ → Result ℕ ℕ → List ℕ → List U → Type 0
HearsBurst V old burst room (Ok written) output new = (reply : List ℕ) × HearsEach V old [] (said burst) new reply × WritesReply reply room written output
HearsBurst V old burst room (Err used) output new = (heard : List Heard) × (reply : List ℕ)
    × (said burst ≡ heard ++ said (drop used burst)) × HearsEach V old [] heard new reply × (used ≤ length burst) × (output ≡ room)
