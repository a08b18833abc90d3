-- The leftmost reading of a list of bytes: which frames it has, and where it stops.
--
-- An offset is open where bytes are missing that tell what stands there, bad where no frame stands there, and good where one does
-- (`verdict`). Each good offset that no earlier frame covers is delivered.
use Rattle.std.specs.Prelude.{◌≡◌, ◌≢◌, ℕ, ◌+◌, ◌<◌, ◌⊎◌, ◌↔◌, List, length, All, Contains}
use Rattle.std.specs.List.Sorted.{IsStrictlyIncreasing}
use Rattle.modbus_rtu.specs.declared.verdict.Verdict.TheVariants.{Open, Good}
use Rattle.modbus_rtu.specs.Frame.{verdict}
use Rattle.modbus_rtu.specs.Limits.{overhead}

-- a good offset, whatever the length of its PDU
abbrev pub IsGood : List ℕ → ℕ → Type 0
IsGood bytes i = (n : ℕ) × (verdict bytes i ≡ Good n)

-- i lies in the frame at f, after its first byte
abbrev pub Covers : List ℕ → ℕ → ℕ → Type 0
Covers bytes f i = (n : ℕ) × (verdict bytes f ≡ Good n) × (f < i) × (i < f + (n + overhead))

-- none of these frames covers i
abbrev pub IsUncovered : List ℕ → List ℕ → ℕ → Type 0
IsUncovered bytes frames i = (f : ℕ) → Contains frames f → Covers bytes f i → ⊥

-- `frames` are the offsets of the delivered frames, and `stop` is where the reading waits for bytes.
pub record IsLeftmost (bytes frames : List ℕ) (stop : ℕ) : Type 0 where
  pub rising : IsStrictlyIncreasing frames
  pub below : All (λ f. f < stop) frames
  -- an offset below the stop is delivered exactly where it is good and no delivered frame covers it
  pub delivered : (i : ℕ) → i < stop → Contains frames i ↔ (IsGood bytes i × IsUncovered bytes frames i)
  -- the stop lies inside no delivered frame
  pub whole : IsUncovered bytes frames stop
  -- below the stop only covered offsets are open
  pub none_open : (i : ℕ) → i < stop → IsUncovered bytes frames i → verdict bytes i ≢ Open
  -- the stop is the end of the bytes, or open
  pub ends : (stop ≡ length bytes) ⊎ ((stop < length bytes) × (verdict bytes stop ≡ Open))
