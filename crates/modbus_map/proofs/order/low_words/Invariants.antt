use Rattle.std.proofs.Common.{◌≡◌, ◌+◌, ◌-◌, ◌*◌, ◌^◌, ◌<◌, length}
use Rattle.modbus_map.specs.Orders.{from_low}
use Rattle.modbus_map.proofs.order.low_words.Given as goal

abbrev pub invariant-loop-place : goal.invariant-loop-place
invariant-loop-place l = record {
  count : length l.words.items ≡ l._place;
  number : from_low l.order l.words.items + 2 ^ (16 * l._place) * l.rest ≡ l.number;
  below : l.rest < 2 ^ (16 * (l.count - l._place));
}
