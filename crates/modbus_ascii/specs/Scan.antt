-- How far the decoder of a connection is in the bytes that are held.
use Rattle.std.specs.Prelude.{◌≡◌, ℕ, ◌+◌, ◌≤◌, true, false, List, [], ◌++◌, length, take}
use Rattle.modbus_ascii.specs.declared.scan.Scan.{Scan}
use Rattle.modbus_ascii.specs.Text.{open_end}
use Rattle.modbus_ascii.specs.Frames.{frames}
use Rattle.modbus_ascii.specs.Decoder.{DecodesText, ended}
use Rattle.modbus_ascii.specs.Stands.{held_open, after_last_end}

-- The decoder was fed these bytes, and knows how many of them are held of the `:` that is open. They deliver no frame, or one that they
-- end with.
pub record HasSeen (seen : List ℕ) (scan : Scan) : Type 0 where
  pub decodes : DecodesText seen scan.decoder
  pub «open» : scan.«open» ≡ length (held_open seen)
  pub found : frames seen ≡ ended scan.found scan.decoder
  pub closed : scan.found ≡ true → open_end seen ≡ []

-- it was fed so many of the held bytes, after what stands for those before them
abbrev pub Scans : List ℕ → Scan → Type 0
Scans held scan = (scan.fed ≤ length held) × HasSeen (after_last_end held ++ take scan.fed held) scan

-- the decoder was fed so many bytes of a piece, all of them where they end no frame
pub record Feeds (piece : List ℕ) (old new : Scan) : Type 0 where
  pub count : ℕ
  pub within : count ≤ length piece
  pub fed : new.fed ≡ old.fed + count
  pub all : new.found ≡ false → count ≡ length piece
  pub seen : (seen : List ℕ) → HasSeen seen old → HasSeen (seen ++ take count piece) new

-- a part of the held bytes, and how many are before it
pub record IsPartOf (held part : List ℕ) (start : ℕ) : Type 0 where
  pub before : List ℕ
  pub after : List ℕ
  pub is : held ≡ before ++ (part ++ after)
  pub start_is : length before ≡ start
