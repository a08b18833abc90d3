-- The command that sets the terminal of a serial port.
use Rattle.std.specs.Prelude.{ℕ, List, ◌++◌, codes}
use Rattle.std.specs.Fmt.{decimal}

-- raw, without echo, without the lines of a modem, and at this speed
abbrev pub stty_text : List ℕ → ℕ → List ℕ
stty_text path baud = codes "stty -F " ++ path ++ codes " raw -echo clocal " ++ decimal baud
