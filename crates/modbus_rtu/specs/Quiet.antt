-- A quiet line: the bytes of frames, with little noise between them.
use Rattle.std.specs.Prelude.{◌≡◌, ℕ, ◌+◌, ◌<◌, ◌≤◌, List, map, length}
use Rattle.modbus_pdu.specs.SlavePdu.{SlavePdu}
use Rattle.modbus_rtu.specs.declared.verdict.Verdict.TheVariants.{Bad}
use Rattle.modbus_rtu.specs.Frame.{verdict}
use Rattle.modbus_rtu.specs.Leftmost.{IsLeftmost, IsUncovered}
use Rattle.modbus_rtu.specs.Stands.{frame_at}
use Rattle.modbus_rtu.specs.Limits.{max_retries}

-- The reading ends where the bytes end, there are no `max_retries` offsets of no use in a row, and the delivered frames carry
-- these messages, each a slave address and a PDU.
pub record IsQuietLine (bytes : List ℕ) (messages : List SlavePdu) : Type 0 where
  pub frames : List ℕ
  pub reading : IsLeftmost bytes frames (length bytes)
  pub few : (k : ℕ) → ((i : ℕ) → k ≤ i → i < k + max_retries → (verdict bytes i ≡ Bad) × IsUncovered bytes frames i) → ⊥
  pub are : messages ≡ map (frame_at bytes) frames
