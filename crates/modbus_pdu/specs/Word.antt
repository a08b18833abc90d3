-- Words as bytes.
use Rattle.std.specs.Prelude.{ℕ, List}
use Rattle.std.specs.Int.{w16, to_be_bytes}
use Rattle.std.specs.List.{flat_map}

-- two bytes, the high one first (V1.1b3, 4.2)
abbrev pub word : ℕ → List ℕ
word n = to_be_bytes w16 n

-- the words, one after another
unfoldable pub words : List ℕ → List ℕ
words ns = flat_map word ns
