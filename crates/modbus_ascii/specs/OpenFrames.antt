-- The front of a frame that bytes end with (MODBUS over Serial Line V1.02, section 2.5.2.1).
use Rattle.std.specs.Prelude.{ℕ, nat_le, if◌then◌else◌, List, [], length}
use Rattle.modbus_ascii.specs.Limits.{max_frame}
use Rattle.modbus_ascii.specs.Text.{open_end}

-- these bytes, or nothing where they are more than a frame has
abbrev pub if_fits : List ℕ → List ℕ
if_fits now = if nat_le (length now) max_frame then now else []

-- The `:` that is open at the end of the bytes, and its text. Nothing where none is open, or where the text is too long for a frame.
abbrev pub open_frame : List ℕ → List ℕ
open_frame bytes = if_fits (open_end bytes)
