-- The reading of a burst: frames one after another, and a rest (MODBUS over Serial Line V1.02, section 2.5.1.1).
use Rattle.std.specs.Prelude.{◌≡◌, ℕ, ◌<◌, true, List, [], ◌∷◌, ◌++◌, length}
use Rattle.modbus_field.specs.Bursts.{Heard, frame_length, is_frame, message_at, noise}
use Rattle.modbus_field.specs.Pieces.{stream_of}

-- These frames stand in a row, each of them first in what is left of the burst, and at the front of the rest none stands.
abbrev pub StandInRow : List (List ℕ) → List ℕ → Type 0
StandInRow [] rest = frame_length rest ≡ 0
StandInRow (piece ∷ pieces) rest = (0 < length piece) × (frame_length (piece ++ (stream_of pieces ++ rest)) ≡ length piece) × StandInRow pieces rest

-- the burst is these frames, and the rest
pub record IsRead (burst : List ℕ) (pieces : List (List ℕ)) (rest : List ℕ) : Type 0 where
  pub joined : burst ≡ stream_of pieces ++ rest
  pub stand : StandInRow pieces rest

-- as many bytes as a frame has, with a right checksum
abbrev pub IsFrame : List ℕ → Type 0
IsFrame piece = is_frame piece ≡ true

-- what is left over is noise
abbrev pub noise_of : List ℕ → List Heard
noise_of [] = []
noise_of (byte ∷ rest) = noise ∷ []

-- the messages of such frames, and of such a rest
abbrev pub messages_of : List (List ℕ) → List ℕ → List Heard
messages_of [] rest = noise_of rest
messages_of (piece ∷ pieces) rest = message_at (piece ++ (stream_of pieces ++ rest)) ∷ messages_of pieces rest
