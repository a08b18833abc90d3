-- The next text of an input that delivers a frame, and what it is answered (MODBUS over Serial Line V1.02, section 2.5.2).
use Rattle.std.specs.Prelude.{◌≡◌, ℕ, ◌+◌, ◌≤◌, List, [], ◌∷◌, ◌++◌, length, take, drop, Err}
use Rattle.modbus_pdu.specs.SlavePdu.{SlavePdu}
use Rattle.modbus_pdu.specs.RequestOf.{request_of}
use Rattle.modbus_pdu.specs.Message.{message}
use Rattle.modbus_ascii.specs.Encoder.{frame}
use Rattle.modbus_ascii.specs.Frames.{frames}
use Rattle.modbus_ascii.specs.Limits.{max_frame}
use Rattle.modbus_store.specs.Tables.{Tables}
use Rattle.modbus_c.specs.declared.serve.Served.{Served}
use Rattle.modbus_c.specs.declared.serve.Served.TheVariants as served
use Rattle.modbus_c.specs.declared.text.NextText.{NextText}
use Rattle.modbus_c.specs.declared.text.NextText.TheVariants as next
use Rattle.modbus_c.specs.Serves.{Replies, WritesReply}

-- The first bytes deliver this frame and no other. Whatever follows the bytes, its frame is the first, and the others are those of the
-- bytes behind it.
pub record DeliversFirst (bytes : List ℕ) (message : SlavePdu) (used : ℕ) : Type 0 where
  pub within : used ≤ length bytes
  pub ends : frames (take used bytes) ≡ message ∷ []
  pub first : (more : List ℕ) → frames (bytes ++ more) ≡ message ∷ frames (drop used bytes ++ more)

-- The bytes deliver no frame. The first so many have no part in one, whatever follows, and no more than a frame has are left.
pub record DeliversNone (bytes : List ℕ) (dropped : ℕ) : Type 0 where
  pub within : dropped ≤ length bytes
  pub quiet : frames bytes ≡ []
  pub useless : (more : List ℕ) → frames (bytes ++ more) ≡ frames (drop dropped bytes ++ more)
  pub short : length bytes ≤ dropped + max_frame

abbrev pub IsNextText : List ℕ → NextText → Type 0
IsNextText bytes (next.Frame frame used) = DeliversFirst bytes (message frame.slave frame.pdu.items) used
IsNextText bytes (next.Waiting dropped) = DeliversNone bytes dropped

-- What is done with the next text of an input that delivers a frame, as `ServesFrame` tells it of an RTU frame.
abbrev pub ServesText : Tables → List ℕ → List ℕ → Served → List ℕ → Tables → Type 0
ServesText old input room (served.Answered used written) output new = (slave : ℕ) × (pdu made : List ℕ)
    × DeliversFirst input (message slave pdu) used × Replies old slave pdu made new × WritesReply (frame slave made) room written output
ServesText old input room (served.Silent used) output new = (slave : ℕ) × (pdu : List ℕ)
    × DeliversFirst input (message slave pdu) used × Replies old slave pdu [] new × (output ≡ room)
ServesText old input room (served.Refused used reason) output new = (slave : ℕ) × (pdu : List ℕ)
    × DeliversFirst input (message slave pdu) used × (request_of pdu ≡ Err reason) × (new ≡ old) × (output ≡ room)
ServesText old input room (served.Waiting dropped) output new = DeliversNone input dropped × (new ≡ old) × (output ≡ room)
ServesText old input room served.NoMemory output new = (new ≡ old) × (output ≡ room)
