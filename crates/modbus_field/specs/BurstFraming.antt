-- Bursts as a framing (MODBUS over Serial Line V1.02, section 2.5.1.1).
use Rattle.std.specs.Prelude.{◌≡◌, ℕ, List, [], ◌∷◌, ◌++◌, Ok}
use Rattle.modbus_link.specs.Reads.{AreCuts}
use Rattle.modbus_rtu.specs.Limits.{max_frame}
use Rattle.modbus_server.specs.declared.error.ProcessError.{ProcessError}
use Rattle.modbus_server.specs.Framing.{Framing}
use Rattle.modbus_field.specs.Unread.{any_request_of}
use Rattle.modbus_field.specs.declared.burst.frame.FrameHeader.{FrameHeader}
use Rattle.modbus_field.specs.Bursts.{Heard, answer_frame, messages, said, slave_asked}
use Rattle.modbus_field.specs.BurstLimits.{most_read}

-- The messages of these bursts are those that were given away, and those of what is held of the last one.
pub record StandsFor (bytes cuts held : List ℕ) (taken : List Heard) : Type 0 where
  pub are_cuts : AreCuts bytes cuts
  pub next : messages bytes cuts ≡ taken ++ said held

-- this message is the next
pub record IsNextSaid (bytes cuts : List ℕ) (taken : List Heard) (message : Heard) : Type 0 where
  pub are_cuts : AreCuts bytes cuts
  pub later : List Heard
  pub next : messages bytes cuts ≡ (taken ++ message ∷ []) ++ later

-- these are all messages, and nothing is left over
abbrev pub AreAllSaid : List ℕ → List ℕ → List ℕ → List Heard → Type 0
AreAllSaid bytes cuts left taken = (taken ≡ messages bytes cuts) × (left ≡ [])

-- bursts have no fault: noise is a message too
abbrev pub HasFault : List ℕ → List ℕ → List Heard → ProcessError → Type 0
HasFault bytes cuts taken fault = ⊥

-- However these bytes are cut, the messages of a front of them are a front of these. A line with a frame in it can be cut so that the
-- frame is none, and has no such messages. What holds of every line with its cuts is `ServesBursts`.
abbrev pub IsOneReading : List ℕ → List Heard → Type 0
IsOneReading bytes heard = (read rest cuts : List ℕ) → bytes ≡ read ++ rest → AreCuts read cuts
    → (later : List Heard) × (heard ≡ messages read cuts ++ later)

abbrev pub IsEmpty : List ℕ → Type 0
IsEmpty held = held ≡ []

-- each read has the same room
abbrev pub HasWholeRoom : List ℕ → ℕ → Type 0
HasWholeRoom bytes room = room ≡ most_read

-- A message asks the slave whose address it has, or nobody. Its PDU asks something, whatever it is. The last frame of a burst is answered.
abbrev pub bursts : Framing
bursts = record {
  Header = FrameHeader;
  slave = slave_asked;
  request_of = λ pdu. Ok (any_request_of pdu);
  adu = answer_frame;
  StandsFor = StandsFor;
  IsNext = IsNextSaid;
  IsAll = AreAllSaid;
  IsBroken = HasFault;
  IsClean = IsOneReading;
  Waits = IsEmpty;
  room = λ held. most_read;
  longest_read = most_read;
  seam = 0;
  most = most_read;
  HasRoom = HasWholeRoom;
  ReadsTakeMemory = ⊥;
  reply_room = max_frame;
}
