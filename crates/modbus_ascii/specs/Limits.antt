-- The numbers of a frame in the ASCII transmission mode (MODBUS over Serial Line V1.02, section 2.5.2).
use Rattle.std.specs.Prelude.{ℕ, ◌+◌, ◌*◌}
use Rattle.modbus_pdu.specs.Limits.{max_pdu}

-- the character that begins a frame
abbrev pub colon : ℕ
colon = 58

-- the two characters that end a frame
abbrev pub carriage_return : ℕ
carriage_return = 13

abbrev pub line_feed : ℕ
line_feed = 10

-- the bytes of a frame besides its PDU: a slave address and an LRC
abbrev pub overhead : ℕ
overhead = 2

-- the bytes of the shortest frame, whose PDU has one byte
abbrev pub shortest_body : ℕ
shortest_body = 1 + overhead

-- the bytes of the longest frame
abbrev pub max_body : ℕ
max_body = max_pdu + overhead

-- the digits of the shortest frame
abbrev pub shortest_text : ℕ
shortest_text = 2 * shortest_body

-- the digits of the longest frame
abbrev pub longest_text : ℕ
longest_text = 2 * max_body

-- the characters of the longest frame: a `:`, its digits, CR and LF
abbrev pub max_frame : ℕ
max_frame = 1 + longest_text + 2

-- how many bytes of a `:` that is open are held at most: those of a frame, and one more
abbrev pub most_open : ℕ
most_open = max_frame + 1

-- how many bytes are ever held: so many, and those of a read
abbrev pub most_held : ℕ
most_held = most_open + max_frame
