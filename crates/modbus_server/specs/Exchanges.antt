-- A run of a service over the messages of a framing, and its output.
use Rattle.std.specs.Prelude.{ℕ, ◌≤◌, ◌-◌, ◌^◌, min, List, [], ◌∷◌, length, Result, Ok}
use Rattle.std.specs.List.{flat_map}
use Rattle.modbus_frame.specs.Meaning.{Asked}
use Rattle.modbus_frame.specs.declared.fault.Reason.{Reason}
use Rattle.modbus_pdu.specs.Limits.{max_pdu}
use Rattle.modbus_pdu.specs.Message.{Message}
use Rattle.modbus_service.specs.Outcome.{Outcome, silence, reply, exception, code_of, reply_pdu}
use Rattle.modbus_service.specs.Answering.{Answering}
use Rattle.modbus_service.specs.Exchange as service
use Rattle.modbus_server.specs.Framing.{Framing}

-- one request that the service was asked, under the header of its message, and its outcome
abbrev pub Exchange : Framing → Type 0
Exchange F = service.Exchange F.Header

-- the service gave this outcome, and went from one state to the other
abbrev pub GivesOutcome : (F : Framing) → {S : Type 0} → Answering S → S → Exchange F → S → Type 0
GivesOutcome F A old x new = service.GivesOutcome F.slave A old x new

-- the service goes from one state to another over these exchanges
abbrev pub Run : (F : Framing) → {S : Type 0} → Answering S → S → List (Exchange F) → S → Type 0
Run F A start xs end = service.Run F.slave A start xs end

-- the reply to an exchange, framed under the header of its request; silence writes nothing
abbrev pub framed_outcome : (F : Framing) → F.Header → ℕ → Outcome → List ℕ
framed_outcome F header code silence = []
framed_outcome F header code (reply response) = F.adu header (reply_pdu code (reply response))
framed_outcome F header code (exception e) = F.adu header (reply_pdu code (exception e))

abbrev pub reply_of : (F : Framing) → Exchange F → List ℕ
reply_of F x = framed_outcome F x.header (code_of x.request) x.outcome

-- the replies to exchanges, in order
abbrev pub output : (F : Framing) → List (Exchange F) → List ℕ
output F exchanges = flat_map (reply_of F) exchanges

-- the reply to the last of them
abbrev pub last_reply : (F : Framing) → List (Exchange F) → List ℕ
last_reply F [] = []
last_reply F (x ∷ []) = reply_of F x
last_reply F (x ∷ y ∷ xs) = last_reply F (y ∷ xs)

-- the length of the reply's PDU, and how a fault tells it
abbrev pub reply_size : (F : Framing) → Exchange F → ℕ
reply_size F x = length (reply_pdu (code_of x.request) x.outcome)

abbrev pub told_reply_size : (F : Framing) → Exchange F → ℕ
told_reply_size F x = min (reply_size F x) (2 ^ 64 - 1)

-- a PDU has at most 253 bytes (Modbus Application Protocol V1.1b3, section 4.1)
abbrev pub ReplyFits : (F : Framing) → Exchange F → Type 0
ReplyFits F x = reply_size F x ≤ max_pdu

-- a message asks, under its header, what its PDU means
abbrev pub Question : Framing → Type 0
Question F = F.Header × Result Asked Reason

abbrev pub asked_of : (F : Framing) → Message F.Header → Question F
asked_of F message = (message.header, F.request_of message.pdu)

-- what was asked in an exchange
abbrev pub asks : (F : Framing) → Exchange F → Question F
asks F x = (x.header, Ok x.request)
