-- The ADUs of a TCP stream (MODBUS Messaging on TCP/IP V1.0b, section 3.1.3).
use Rattle.std.specs.Prelude.{◌≡◌, ◌⊎◌, ℕ, ◌+◌, ◌-◌, List, [], ◌∷◌, ◌++◌, ◌<◌, length, All}
use Rattle.modbus_frame.specs.declared.tcp.Header.{Header}
use Rattle.modbus_tcp.specs.Adu.{Adus, adu_of, IsAdu, stream_of}
use Rattle.modbus_tcp.specs.Limits.{longest_adu, longest_response}
use Rattle.modbus_tcp.specs.Stream.{empty, unfinished, no_length, foreign, IsSplit}
use Rattle.modbus_tcp.specs.declared.stream.HeaderFault.{HeaderFault}
use Rattle.modbus_tcp.specs.declared.stream.HeaderFault.TheVariants as fault
use Rattle.modbus_pdu.specs.RequestOf.{request_of}
use Rattle.modbus_pdu.specs.Message.{Message}
use Rattle.modbus_server.specs.declared.error.ProcessError.{ProcessError}
use Rattle.modbus_server.specs.declared.error.ProcessError.TheVariants.{InvalidLength, InvalidProtocol}
use Rattle.modbus_server.specs.Framing.{Framing}

-- the room of a read in bytes, which the standard doesn't tell: more than the longest ADU of a request that is answered
abbrev pub read_room : ℕ
read_room = 268

-- the bytes are these ADUs, one after another, and what is held
abbrev pub Follows : List ℕ → List ℕ → List ℕ → Adus → Type 0
Follows bytes cuts held taken = (bytes ≡ stream_of taken ++ held) × All IsAdu taken

-- this ADU is the next
abbrev pub IsNextAdu : List ℕ → List ℕ → Adus → Message Header → Type 0
IsNextAdu bytes cuts taken message = (others : List ℕ) × (bytes ≡ stream_of (taken ++ message ∷ []) ++ others) × All IsAdu (taken ++ message ∷ [])

-- these are all ADUs, and the rest is nothing or a front of an ADU
abbrev pub AreAllAdus : List ℕ → List ℕ → List ℕ → Adus → Type 0
AreAllAdus bytes cuts left taken = IsSplit bytes taken left empty ⊎ IsSplit bytes taken left unfinished

-- these are all ADUs, and the rest is a header with this fault
abbrev pub IsFaultAfter : List ℕ → List ℕ → Adus → ProcessError → Type 0
IsFaultAfter bytes cuts taken InvalidLength = (left : List ℕ) × IsSplit bytes taken left no_length
IsFaultAfter bytes cuts taken (InvalidProtocol protocol) = (left : List ℕ) × IsSplit bytes taken left (foreign protocol)
IsFaultAfter bytes cuts taken _ = ⊥

-- how a server tells a fault of a header
abbrev pub told_fault : HeaderFault → ProcessError
told_fault fault.InvalidLength = InvalidLength
told_fault (fault.InvalidProtocol protocol) = InvalidProtocol protocol

-- what is held is shorter than the longest ADU
abbrev pub IsShort : List ℕ → Type 0
IsShort held = length held < longest_adu

-- the bytes are these ADUs, with nothing left
abbrev pub AreOnlyAdus : List ℕ → Adus → Type 0
AreOnlyAdus bytes messages = IsSplit bytes messages [] empty

-- each read has the same room
abbrev pub HasWholeRoom : List ℕ → ℕ → Type 0
HasWholeRoom bytes room = room ≡ read_room

-- an ADU is for the unit identifier that its header tells
abbrev pub tcp : Framing
tcp = record {
  Header = Header;
  slave = λ header. header.unit_id;
  request_of = request_of;
  adu = adu_of;
  StandsFor = Follows;
  IsNext = IsNextAdu;
  IsAll = AreAllAdus;
  IsBroken = IsFaultAfter;
  IsClean = AreOnlyAdus;
  Waits = IsShort;
  room = λ held. read_room;
  longest_read = read_room;
  seam = 0;
  most = longest_adu - 1 + read_room;
  HasRoom = HasWholeRoom;
  ReadsTakeMemory = Unit {0};
  reply_room = longest_response;
}
