-- The text of a `:` in a list of bytes (MODBUS over Serial Line V1.02, section 2.5.2.1).
use Rattle.std.specs.Prelude.{ℕ, Bool, false, ◌==◌, ◌&&◌, ◌||◌, if◌then◌else◌, List, [], ◌∷◌, length}
use Rattle.modbus_ascii.specs.Limits.{colon, carriage_return, line_feed}

-- whether a text ends here: at a `:`, or at a CR with LF right after it
abbrev pub begins_end : List ℕ → Bool
begins_end [] = false
begins_end (x ∷ []) = x == colon
begins_end (x ∷ y ∷ rest) = x == colon || (x == carriage_return && y == line_feed)

-- the text that begins here, up to its end, or all of the bytes where it has none
unfoldable pub text : List ℕ → List ℕ
text [] = []
text (x ∷ xs) = if begins_end (x ∷ xs) then [] else x ∷ text xs

-- the bytes from the end of that text on; none where it is open
unfoldable pub from_end : List ℕ → List ℕ
from_end [] = []
from_end (x ∷ xs) = if begins_end (x ∷ xs) then x ∷ xs else from_end xs

abbrev pub is_open : List ℕ → Bool
is_open behind = length (from_end behind) == 0

-- the `:` that is open at the end of the bytes and its text, or nothing where none is open
unfoldable pub open_end : List ℕ → List ℕ
open_end [] = []
open_end (x ∷ xs) = if x == colon && is_open xs then x ∷ xs else open_end xs

-- the last byte, or 0 where there is none
abbrev pub last : List ℕ → ℕ
last [] = 0
last (x ∷ []) = x
last (x ∷ y ∷ rest) = last (y ∷ rest)
