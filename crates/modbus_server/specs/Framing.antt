-- How the PDUs of a connection are framed, and what its bytes hold.
use Rattle.std.specs.Prelude.{ℕ, List, Result}
use Rattle.modbus_frame.specs.Meaning.{Asked}
use Rattle.modbus_frame.specs.declared.fault.Reason.{Reason}
use Rattle.modbus_pdu.specs.Message.{Message}
use Rattle.modbus_server.specs.declared.error.ProcessError.{ProcessError}
use Rattle.modbus_server.specs.declared.error.ProcessError.TheVariants.{TooManyRetries, InvalidLength, InvalidProtocol}

-- A message is what stands beside a PDU, and the PDU. What follows speaks of the bytes that a connection was fed so far, and of the
-- cuts: the totals after each piece of them.
pub record Framing : Type 1 where
  -- what stands beside a PDU: the slave address of a frame, or the MBAP header
  pub Header : Type 0
  -- whom a message is for
  pub slave : Header → ℕ
  -- what the PDU of a message asks, or why it asks nothing
  pub request_of : List ℕ → Result Asked Reason
  -- the bytes of a message
  pub adu : Header → List ℕ → List ℕ
  -- of bytes, cuts, held bytes and messages: what holds these bytes has given away these messages
  pub StandsFor : List ℕ → List ℕ → List ℕ → List (Message Header) → Type 0
  -- of bytes, cuts, messages and a message: this one comes next after these, with no fault before it
  pub IsNext : List ℕ → List ℕ → List (Message Header) → Message Header → Type 0
  -- of bytes, cuts, a rest and messages: these are all messages, there is no fault, and the rest is left
  pub IsAll : List ℕ → List ℕ → List ℕ → List (Message Header) → Type 0
  -- of bytes, cuts, messages and a fault, as it is told: it comes right after these messages
  pub IsBroken : List ℕ → List ℕ → List (Message Header) → ProcessError → Type 0
  -- of bytes and messages: they are nothing but these, however they are cut, with no fault
  pub IsClean : List ℕ → List (Message Header) → Type 0
  -- the held bytes begin with no whole message and no fault
  pub Waits : List ℕ → Type 0
  -- of the held bytes: the length of the room of the next read
  pub room : List ℕ → ℕ
  -- the bytes of the longest read
  pub longest_read : ℕ
  -- the bytes that a message wants which is copied together; 0 where each message lies in one piece
  pub seam : ℕ
  -- how many bytes are ever held
  pub most : ℕ
  -- of bytes and the length of a room: a read that comes after these bytes has that room
  pub HasRoom : List ℕ → ℕ → Type 0
  -- whether the room of a read may take memory
  pub ReadsTakeMemory : Type 0
  -- the room in a buffer that is enough for each answer
  pub reply_room : ℕ

-- the answers that are left to a framing for its faults
abbrev pub IsOfFraming : ProcessError → Type 0
IsOfFraming TooManyRetries = Unit {0}
IsOfFraming InvalidLength = Unit {0}
IsOfFraming (InvalidProtocol protocol) = Unit {0}
IsOfFraming _ = ⊥
