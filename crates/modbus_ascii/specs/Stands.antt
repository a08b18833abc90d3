-- What held bytes stand for over all bytes that a connection was fed.
use Rattle.std.specs.Prelude.{◌≡◌, ℕ, ◌-◌, ◌≤◌, nat_lt, not, ◌==◌, ◌&&◌, if◌then◌else◌, List, [], ◌∷◌, ◌++◌, length, take, drop, slice_index}
use Rattle.modbus_pdu.specs.SlavePdu.{SlavePdu}
use Rattle.modbus_ascii.specs.Limits.{colon, max_frame, most_open}
use Rattle.modbus_ascii.specs.Text.{open_end}
use Rattle.modbus_ascii.specs.Frames.{frames}

-- What is held of a `:` that is open and its text. A text that is too long for a frame stays open, and its last bytes are enough.
abbrev pub kept_of : List ℕ → List ℕ
kept_of now = drop (length now - most_open) now

abbrev pub held_open : List ℕ → List ℕ
held_open bytes = kept_of (open_end bytes)

-- Held bytes that are more than a frame has and begin with no `:` begin within a text that is too long. A `:` stands for what was dropped
-- of it.
abbrev pub after_last_end : List ℕ → List ℕ
after_last_end held = if nat_lt max_frame (length held) && not (slice_index held 0 == colon) then colon ∷ [] else []

-- the held bytes, and what stands for those before them
abbrev pub whole : List ℕ → List ℕ
whole held = after_last_end held ++ held

-- What holds these bytes has given away these messages: they and the frames of what is held are those of all bytes, and what is open in
-- the bytes is open in what is held. No frame ends before the last read.
pub record StandsFor (bytes cuts held : List ℕ) (taken : List SlavePdu) : Type 0 where
  pub next : frames bytes ≡ taken ++ frames (whole held)
  pub now : held_open bytes ≡ held_open (whole held)
  pub late : frames (after_last_end held ++ take (length held - max_frame) held) ≡ []

-- this frame is the next
abbrev pub IsNextFrame : List ℕ → List ℕ → List SlavePdu → SlavePdu → Type 0
IsNextFrame bytes cuts taken frame = (later : List SlavePdu) × (frames bytes ≡ (taken ++ frame ∷ []) ++ later)

-- these are all frames, and what is open is left
abbrev pub AreAllFrames : List ℕ → List ℕ → List ℕ → List SlavePdu → Type 0
AreAllFrames bytes cuts left taken = (taken ≡ frames bytes) × (left ≡ held_open bytes)

-- the bytes deliver these frames, with no `:` open at their end
abbrev pub AreOnlyFrames : List ℕ → List SlavePdu → Type 0
AreOnlyFrames bytes messages = (messages ≡ frames bytes) × (open_end bytes ≡ [])

-- all held bytes are of a `:` that is open, and no more than are held of one
abbrev pub IsStillOpen : List ℕ → Type 0
IsStillOpen held = (open_end (whole held) ≡ whole held) × (length held ≤ most_open)
