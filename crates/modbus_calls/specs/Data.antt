-- Fields of the data of a PDU (Modbus Application Protocol V1.1b3, sections 4.2 and 6.9).
use Rattle.std.specs.Prelude.{ℕ, ◌+◌, ◌*◌, ◌==◌, ◌&&◌, Bool, true, false, if◌then◌else◌, Option, Some, None}

-- a word, whose high byte comes first (4.2)
abbrev pub word_of : ℕ → ℕ → ℕ
word_of high low = 256 * high + low

-- the status word of a device: 0000 is ready, FFFF is busy with a program command; all else is no status (6.9)
abbrev pub is_busy : ℕ → ℕ → Option Bool
is_busy high low =
    if high == 0 && low == 0 then Some false
    else if high == 0xFF && low == 0xFF then Some true
    else None
