use Rattle.std.proofs.Common.{◌≡◌, ◌-◌}
use Rattle.modbus_files.specs.Files.{most_groups, written}
use Rattle.modbus_files.proofs.files.Files.write_all.Given as goal

-- what all groups write is what those write that are left, after the others
abbrev pub invariant-loop-at : goal.invariant-loop-at
invariant-loop-at l = written most_groups l.fn.self l.bytes ≡ written (most_groups - l.at) l.self l.rest
