-- Each byte is a message.
use Rattle.std.specs.Prelude.{◌≡◌, ◌≢◌, ℕ, List, [], ◌∷◌, ◌++◌, map, All}
use Rattle.modbus_pdu.specs.SlavePdu.{SlavePdu}
use Rattle.modbus_server.specs.declared.error.ProcessError.{ProcessError}
use Rattle.modbus_server.specs.declared.error.ProcessError.TheVariants.{InvalidLength}
use Rattle.modbus_pdu.specs.Limits.{max_pdu}
use Rattle.modbus_pdu.specs.RequestOf.{request_of}
use Rattle.modbus_server.specs.Framing.{Framing}

abbrev pub bytes_of : List SlavePdu → List ℕ
bytes_of messages = map (λ m. m.header) messages

-- the PDU of a message is the byte alone
abbrev pub IsAlone : SlavePdu → Type 0
IsAlone message = message.pdu ≡ message.header ∷ []

-- the bytes are those of these messages, and what is held
abbrev pub Follows : List ℕ → List ℕ → List ℕ → List SlavePdu → Type 0
Follows bytes cuts held taken = (bytes ≡ bytes_of taken ++ held) × All IsAlone taken

abbrev pub IsNextByte : List ℕ → List ℕ → List SlavePdu → SlavePdu → Type 0
IsNextByte bytes cuts taken message = (others : List ℕ) × Follows bytes cuts others (taken ++ message ∷ [])

abbrev pub AreAllBytes : List ℕ → List ℕ → List ℕ → List SlavePdu → Type 0
AreAllBytes bytes cuts left taken = (bytes ≡ bytes_of taken ++ left) × (left ≡ [])

-- a byte 0 comes after these
abbrev pub IsZeroAfter : List ℕ → List ℕ → List SlavePdu → ProcessError → Type 0
IsZeroAfter bytes cuts taken InvalidLength = (others : List ℕ) × (bytes ≡ bytes_of taken ++ 0 ∷ others)
IsZeroAfter bytes cuts taken _ = ⊥

-- the byte of a message is not 0
abbrev pub IsSome : SlavePdu → Type 0
IsSome message = message.header ≢ 0

-- the bytes are those of these messages, with no byte 0
pub record AreOnlyBytes (bytes : List ℕ) (messages : List SlavePdu) : Type 0 where
  pub joined : bytes ≡ bytes_of messages
  pub some : All IsSome messages
  pub alone : All IsAlone messages

abbrev pub IsEmpty : List ℕ → Type 0
IsEmpty held = held ≡ []

-- the room of a read in bytes
abbrev pub read_room : ℕ
read_room = 16

abbrev pub HasWholeRoom : List ℕ → ℕ → Type 0
HasWholeRoom bytes room = room ≡ read_room

abbrev pub singles : Framing
singles = record {
  Header = ℕ;
  slave = λ slave. slave;
  request_of = request_of;
  adu = λ slave pdu. pdu;
  StandsFor = Follows;
  IsNext = IsNextByte;
  IsAll = AreAllBytes;
  IsBroken = IsZeroAfter;
  IsClean = AreOnlyBytes;
  Waits = IsEmpty;
  room = λ held. read_room;
  longest_read = read_room;
  seam = 0;
  most = read_room;
  HasRoom = HasWholeRoom;
  ReadsTakeMemory = Unit {0};
  reply_room = max_pdu;
}
