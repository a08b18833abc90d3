-- How far a reader has come in the bytes that it was given. `old` are those before its last read, and `now` are all.
use Rattle.std.specs.Prelude.{◌≡◌, ℕ, ◌+◌, ◌<◌, ◌≤◌, ◌⊎◌, List, Contains, filter, nat_lt}
use Rattle.modbus_rtu.specs.declared.verdict.Verdict.TheVariants.{Bad, Good}
use Rattle.modbus_rtu.specs.Frame.{verdict}
use Rattle.modbus_rtu.specs.Leftmost.{IsUncovered, IsLeftmost}
use Rattle.modbus_rtu.specs.Limits.{overhead, max_retries}

-- the stop of the leftmost reading
abbrev pub IsStop : List ℕ → ℕ → Type 0
IsStop bytes stop = (frames : List ℕ) × IsLeftmost bytes frames stop

-- A crowd begins at k: `max_retries` consecutive offsets from k on are bad and uncovered, and they came with one read: none of
-- them lies below the stop of the bytes before it, and all of them lie below the stop of the bytes after it.
pub record IsCrowd (old now : List ℕ) (k : ℕ) : Type 0 where
  pub before : ℕ
  pub frames : List ℕ
  pub stop : ℕ
  pub from : IsStop old before
  pub reading : IsLeftmost now frames stop
  pub starts : before ≤ k
  pub ends : k + max_retries ≤ stop
  pub bad : (i : ℕ) → k ≤ i → i < k + max_retries → verdict now i ≡ Bad
  pub uncovered : (i : ℕ) → k ≤ i → i < k + max_retries → IsUncovered now frames i

-- the place is the end of one of the frames, which begins at or above `from`
abbrev pub EndsFrame : List ℕ → List ℕ → ℕ → ℕ → Type 0
EndsFrame bytes frames from place = (f : ℕ) × (n : ℕ) × Contains frames f × (from ≤ f) × (verdict bytes f ≡ Good n) × (place ≡ f + (n + overhead))

-- A place where a reader may stand: the stop before the last read, the end of a delivered frame at or above it, or the stop of all.
pub record IsPlace (old now : List ℕ) (place : ℕ) : Type 0 where
  pub before : ℕ
  pub frames : List ℕ
  pub stop : ℕ
  pub from : IsStop old before
  pub reading : IsLeftmost now frames stop
  pub at : (place ≡ before) ⊎ (EndsFrame now frames before place ⊎ (place ≡ stop))

-- those of the frames that begin below a place
abbrev pub frames_below : ℕ → List ℕ → List ℕ
frames_below place frames = filter (λ f. nat_lt f place) frames
