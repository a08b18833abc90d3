-- The pieces of a stream as a framing (MODBUS Messaging on TCP/IP V1.0b, section 3.1.3).
use Rattle.std.specs.Prelude.{◌≡◌, ℕ, ◌+◌, ◌-◌, ◌<◌, List, [], ◌∷◌, ◌++◌, length, Ok}
use Rattle.modbus_frame.specs.declared.tcp.Header.{Header}
use Rattle.modbus_pdu.specs.Message.{Message}
use Rattle.modbus_server.specs.declared.error.ProcessError.{ProcessError}
use Rattle.modbus_server.specs.declared.error.ProcessError.TheVariants.{InvalidLength, InvalidProtocol}
use Rattle.modbus_server.specs.Framing.{Framing}
use Rattle.modbus_field.specs.Unread.{any_request_of}
use Rattle.modbus_tcp.specs.Adu.{adu_of}
use Rattle.modbus_tcp.specs.Limits.{longest_response}
use Rattle.modbus_field.specs.Pieces.{IsPartial, IsForeign, HasNoLength, AreMessages}

-- what is held is left of the pieces whose messages were given away
abbrev pub StandsFor : List ℕ → List ℕ → List ℕ → List (Message Header) → Type 0
StandsFor bytes cuts held taken = AreMessages bytes held taken

-- this message is the next
abbrev pub IsNextPiece : List ℕ → List ℕ → List (Message Header) → Message Header → Type 0
IsNextPiece bytes cuts taken message = (others : List ℕ) × AreMessages bytes others (taken ++ message ∷ [])

-- these are all messages, and the rest is nothing or a front of a piece
abbrev pub AreAllPieces : List ℕ → List ℕ → List ℕ → List (Message Header) → Type 0
AreAllPieces bytes cuts left taken = AreMessages bytes left taken × IsPartial left

-- these are all messages, and the rest begins with a header that ends the stream
abbrev pub HasFault : List ℕ → List ℕ → List (Message Header) → ProcessError → Type 0
HasFault bytes cuts taken InvalidLength = (left : List ℕ) × AreMessages bytes left taken × HasNoLength left
HasFault bytes cuts taken (InvalidProtocol protocol) = (left : List ℕ) × AreMessages bytes left taken × IsForeign left protocol
HasFault bytes cuts taken _ = ⊥

-- the bytes are the pieces of these messages, with nothing left
abbrev pub AreOnlyPieces : List ℕ → List (Message Header) → Type 0
AreOnlyPieces bytes messages = AreMessages bytes [] messages

-- what is held is shorter than the longest piece
abbrev pub IsShort : List ℕ → Type 0
IsShort held = length held < longest_response

-- the room of a read in bytes: as many as the longest ADU of a request has
abbrev pub read_room : ℕ
read_room = longest_response

-- how many bytes are ever held: less than the longest piece has, and a read
abbrev pub most_held : ℕ
most_held = longest_response - 1 + read_room

-- each read has the same room
abbrev pub HasWholeRoom : List ℕ → ℕ → Type 0
HasWholeRoom bytes room = room ≡ read_room

-- a message is for the unit identifier that its header tells, and asks something, whatever its PDU is
abbrev pub stream : Framing
stream = record {
  Header = Header;
  slave = λ header. header.unit_id;
  request_of = λ pdu. Ok (any_request_of pdu);
  adu = adu_of;
  StandsFor = StandsFor;
  IsNext = IsNextPiece;
  IsAll = AreAllPieces;
  IsBroken = HasFault;
  IsClean = AreOnlyPieces;
  Waits = IsShort;
  room = λ held. read_room;
  longest_read = read_room;
  seam = 0;
  most = most_held;
  HasRoom = HasWholeRoom;
  ReadsTakeMemory = ⊥;
  reply_room = longest_response;
}
