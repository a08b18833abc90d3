use Rattle.std.proofs.Common.{◌≡◌, take, string_bytes}
use Rattle.modbus_map.specs.Text.{shown_bytes}
use Rattle.modbus_map.proofs.text.shown_bytes.Given as goal

abbrev pub invariant-loop-byte : goal.invariant-loop-byte
invariant-loop-byte l = string_bytes l.text ≡ shown_bytes (take l.byte-index l.bytes)
