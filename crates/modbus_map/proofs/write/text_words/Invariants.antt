use Rattle.std.proofs.Common.{◌≡◌, ◌*◌, length, take}
use Rattle.modbus_map.specs.Values.{bytes_of}
use Rattle.modbus_map.specs.Writing.{filled}
use Rattle.modbus_map.proofs.write.text_words.Given as goal

abbrev pub invariant-loop-place : goal.invariant-loop-place
invariant-loop-place l = record {
  count : length l.words.items ≡ l.place;
  bytes : bytes_of l.order l.words.items ≡ take (2 * l.place) (filled l.count l.bytes);
}
