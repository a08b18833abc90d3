use Rattle.std.proofs.Common.{◌≡◌, ◌≤◌, length, take, vec_capacity}
use Rattle.modbus_poll.specs.Words.{values_among}
use Rattle.modbus_poll.proofs.words.values_among.Given as goal

abbrev pub invariant-loop-item : goal.invariant-loop-item
invariant-loop-item l = record {
  so_far : l.values.items ≡ values_among l.plan l.found (take l.item-index l.items);
  room : length l.items ≤ vec_capacity l.values;
}
