use Rattle.std.proofs.Common.{◌≡◌, ◌-◌}
use Rattle.modbus_files.specs.Files.{most_groups, checked}
use Rattle.modbus_files.proofs.files.Files.check.Given as goal

-- what is told of all groups is what is told of those that are left
abbrev pub invariant-loop-at : goal.invariant-loop-at
invariant-loop-at l = checked most_groups l.self l.bytes ≡ checked (most_groups - l.at) l.self l.rest
