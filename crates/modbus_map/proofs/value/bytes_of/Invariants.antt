use Rattle.std.proofs.Common.{◌≡◌, take}
use Rattle.modbus_map.specs.Values.{bytes_of}
use Rattle.modbus_map.proofs.value.bytes_of.Given as goal

abbrev pub invariant-loop-word : goal.invariant-loop-word
invariant-loop-word l = l.bytes.items ≡ bytes_of l.order (take l.word-index l.words)
