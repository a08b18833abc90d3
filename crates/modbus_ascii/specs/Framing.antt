-- The ASCII transmission mode as a framing (MODBUS over Serial Line V1.02, section 2.5.2).
use Rattle.std.specs.Prelude.{◌≡◌, ℕ, List}
use Rattle.modbus_pdu.specs.SlavePdu.{SlavePdu}
use Rattle.modbus_pdu.specs.RequestOf.{request_of}
use Rattle.modbus_server.specs.declared.error.ProcessError.{ProcessError}
use Rattle.modbus_server.specs.Framing.{Framing}
use Rattle.modbus_ascii.specs.Encoder.{frame}
use Rattle.modbus_ascii.specs.Limits.{max_frame, most_held}
use Rattle.modbus_ascii.specs.Stands.{StandsFor, IsNextFrame, AreAllFrames, AreOnlyFrames, IsStillOpen}

-- bytes have no fault: those that deliver nothing are skipped
abbrev pub HasFault : List ℕ → List ℕ → List SlavePdu → ProcessError → Type 0
HasFault bytes cuts taken fault = ⊥

-- each read has the room of the longest frame
abbrev pub HasFrameRoom : List ℕ → ℕ → Type 0
HasFrameRoom bytes room = room ≡ max_frame

-- a frame is for the slave whose address it carries
abbrev pub ascii : Framing
ascii = record {
  Header = ℕ;
  slave = λ slave. slave;
  request_of = request_of;
  adu = frame;
  StandsFor = StandsFor;
  IsNext = IsNextFrame;
  IsAll = AreAllFrames;
  IsBroken = HasFault;
  IsClean = AreOnlyFrames;
  Waits = IsStillOpen;
  room = λ held. max_frame;
  longest_read = max_frame;
  seam = 0;
  most = most_held;
  HasRoom = HasFrameRoom;
  ReadsTakeMemory = ⊥;
  reply_room = max_frame;
}
