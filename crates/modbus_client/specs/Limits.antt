-- The numbers of a call.
use Rattle.std.specs.Prelude.{ℕ}
use Rattle.modbus_link.specs.Room as link

-- how many bytes each read has room for
abbrev pub read_room : ℕ
read_room = link.read_room

-- how many reads of a call may give bytes, until a client is told otherwise
abbrev pub default_turns : ℕ
default_turns = 1048576
