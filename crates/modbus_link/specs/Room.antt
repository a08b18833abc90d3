-- The room of a read.
use Rattle.std.specs.Prelude.{ℕ}

-- how many bytes a read has room for: more than the longest frame and the longest ADU
abbrev pub read_room : ℕ
read_room = 268
