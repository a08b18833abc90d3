use Rattle.std.proofs.Common.{◌≡◌, take, string_bytes}
use Rattle.modbus_map.specs.Text.{json_bytes}
use Rattle.modbus_map.proofs.json_text.json_bytes.Given as goal

abbrev pub invariant-loop-byte : goal.invariant-loop-byte
invariant-loop-byte l = string_bytes l.text ≡ json_bytes (take l.byte-index l.bytes)
