use Rattle.std.proofs.Common.{◌≡◌, ◌/◌, length}
use Rattle.modbus_files.specs.Files.{group_size, groups_of, told_of}
use Rattle.modbus_files.proofs.Telling.{from}
use Rattle.modbus_files.proofs.files.Files.tell_all.Given as goal

-- what is told of all groups is what is told of those that are left, behind what was told
abbrev pub invariant-loop-at : goal.invariant-loop-at
invariant-loop-at l =
    told_of l.self l.fn.told.items (groups_of (length l.groups / group_size) l.groups)
    ≡ from l.self l.groups (length l.groups / group_size) l.at l.told.items
