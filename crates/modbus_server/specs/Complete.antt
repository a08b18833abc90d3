-- When a call of a server comes to the end of its input.
use Rattle.std.specs.Prelude.{◌≡◌, ◌⊎◌, ℕ, ◌<◌, List, [], ◌∷◌, ◌++◌, map, length, All, IsTrue, Result, Ok, Err}
use Rattle.modbus_frame.specs.Meaning.{Asked}
use Rattle.modbus_pdu.specs.Message.{Message}
use Rattle.modbus_link.specs.Outside.{Rose}
use Rattle.modbus_service.specs.Answering.{Answering}
use Rattle.modbus_server.specs.declared.error.ProcessError.{ProcessError}
use Rattle.modbus_server.specs.declared.error.ProcessError.TheVariants.{NoMemory}
use Rattle.modbus_server.specs.Moment.{Moment}
use Rattle.modbus_server.specs.Framing.{Framing}
use Rattle.modbus_server.specs.Exchanges.{Exchange, GivesOutcome, Run, ReplyFits, asked_of, asks}

abbrev pub IsRequest : (F : Framing) → Message F.Header → Type 0
IsRequest F message = (request : Asked) × (F.request_of message.pdu ≡ Ok request)

-- the bytes are nothing but messages, with no fault however they are cut, and each message is a request
pub record IsCleanLine (F : Framing) (bytes : List ℕ) : Type 0 where
  pub messages : List (Message F.Header)
  pub clean : F.IsClean bytes messages
  pub requests : All (IsRequest F) messages

-- in every run of the service over the first messages, each reply fits
abbrev pub RepliesFit : (F : Framing) → {S : Type 0} → Answering S → S → List (Message F.Header) → Type 0
RepliesFit F {S} A opening messages = (xs : List (Exchange F)) (end : S) (front rest : List (Message F.Header)) → Run F A opening xs end
    → messages ≡ front ++ rest → map (asked_of F) front ≡ map (asks F) xs → All (ReplyFits F) xs

-- the reply fits that the service gives next, which stands there after these exchanges, where it answers the next of these messages
abbrev pub NextReplyFits : (F : Framing) → {S : Type 0} → Answering S → List (Exchange F) → S → List (Message F.Header) → Type 0
NextReplyFits F {S} A exchanges ends messages = (x : Exchange F) (next : S) (front rest : List (Message F.Header)) → GivesOutcome F A ends x next
    → messages ≡ front ++ rest → map (asked_of F) front ≡ map (asks F) (exchanges ++ x ∷ []) → ReplyFits F x

-- A clean line of fewer bytes than there are turns is served to its end, where every reply fits and neither the source nor the sink
-- has a fault, or memory is wanting.
abbrev pub Completes : (F : Framing) → {S : Type 0} → Answering S → ℕ → Moment S → Moment S → Result (Unit {0}) ProcessError → Type 0
Completes F A turns before after result = IsTrue before.outside.input.told
    → (clean : IsCleanLine F before.outside.input.left) → RepliesFit F A before.service clean.messages
    → length before.outside.input.left < turns → (Rose before.outside.input.faults after.outside.input.faults → ⊥)
    → (Rose before.outside.output.faults after.outside.output.faults → ⊥) → (result ≡ Ok tt) ⊎ (result ≡ Err NoMemory)
