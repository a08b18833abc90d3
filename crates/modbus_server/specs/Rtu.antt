-- The frames of a serial line (MODBUS over Serial Line V1.02, section 2.5.1).
use Rattle.std.specs.Prelude.{◌≡◌, ℕ, ◌+◌, ◌-◌, ◌<◌, List, length}
use Rattle.modbus_pdu.specs.SlavePdu.{SlavePdu}
use Rattle.modbus_rtu.specs.declared.verdict.Verdict.TheVariants.{Open}
use Rattle.modbus_rtu.specs.Frame.{frame, verdict}
use Rattle.modbus_rtu.specs.Leftmost.{IsLeftmost}
use Rattle.modbus_rtu.specs.Limits.{max_frame}
use Rattle.modbus_rtu.specs.Stands.{StandsFor, IsFirstCrowd, IsTakenNext, IsUsedUp}
use Rattle.modbus_rtu.specs.Quiet.{IsQuietLine}
use Rattle.modbus_pdu.specs.RequestOf.{request_of}
use Rattle.modbus_server.specs.declared.error.ProcessError.{ProcessError}
use Rattle.modbus_server.specs.declared.error.ProcessError.TheVariants.{TooManyRetries}
use Rattle.modbus_server.specs.Framing.{Framing}

-- the first crowd comes after these frames, and there is no other fault on a line
abbrev pub IsCrowdedAfter : List ℕ → List ℕ → List SlavePdu → ProcessError → Type 0
IsCrowdedAfter bytes cuts taken TooManyRetries = (k : ℕ) × IsFirstCrowd bytes cuts taken k
IsCrowdedAfter bytes cuts taken _ = ⊥

-- a read after these bytes has the room of an empty inbox less those from the stop on
abbrev pub HasRoomLeft : List ℕ → ℕ → Type 0
HasRoomLeft bytes room = (frames : List ℕ) (stop : ℕ) → IsLeftmost bytes frames stop → room + (length bytes - stop) ≡ max_frame

-- what is held begins open, and a frame that is whole is no longer
abbrev pub BeginsOpen : List ℕ → Type 0
BeginsOpen held = (length held < max_frame) × (verdict held 0 ≡ Open)

-- a frame is for the slave whose address it carries; the frames are the leftmost ones
abbrev pub rtu : Framing
rtu = record {
  Header = ℕ;
  slave = λ slave. slave;
  request_of = request_of;
  adu = frame;
  StandsFor = StandsFor;
  IsNext = IsTakenNext;
  IsAll = IsUsedUp;
  IsBroken = IsCrowdedAfter;
  IsClean = IsQuietLine;
  Waits = BeginsOpen;
  room = λ held. max_frame - length held;
  longest_read = max_frame;
  seam = max_frame;
  most = max_frame;
  HasRoom = HasRoomLeft;
  ReadsTakeMemory = ⊥;
  reply_room = max_frame;
}
