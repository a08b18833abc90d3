-- What memory is not wanted for.
use Rattle.std.specs.Prelude.{◌≡◌, Ok}
use Rattle.modbus_frame.specs.Meaning.{Asked}
use Rattle.modbus_pdu.specs.RequestOf.{CarriesList}
use Rattle.modbus_pdu.specs.Message.{Message}
use Rattle.modbus_service.specs.Answering.{Answering}
use Rattle.modbus_server.specs.Framing.{Framing}

-- Where the message is a request, it carries no list, and in no state does the service want memory for it.
abbrev pub TakesNone : (F : Framing) → {S : Type 0} → Answering S → Message F.Header → Type 0
TakesNone F {S} A message = (request : Asked) → F.request_of message.pdu ≡ Ok request
    → (CarriesList request → ⊥) × ((old new : S) → A.wants old (F.slave message.header) request new → ⊥)
