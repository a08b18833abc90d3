use Rattle.std.proofs.Common.{◌≡◌, take, string_bytes}
use Rattle.modbus_poll.specs.Text.{shown_bytes}
use Rattle.modbus_poll.proofs.text.shown_bytes.Given as goal

abbrev pub invariant-loop-byte : goal.invariant-loop-byte
invariant-loop-byte l = string_bytes l.text ≡ shown_bytes (take l.byte-index l.bytes)
