use Rattle.std.proofs.Common.{◌≡◌, ◌≤◌, take}
use Rattle.modbus_map.specs.Text.{trimmed}
use Rattle.modbus_map.proofs.text.trimmed.Given as goal

abbrev pub invariant-loop-place : goal.invariant-loop-place
invariant-loop-place l = record {
  within : l.end ≤ l.place;
  kept : take l.end l.bytes ≡ trimmed (take l.place l.bytes);
}
