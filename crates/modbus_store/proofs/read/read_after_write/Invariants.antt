use Rattle.std.proofs.Common.{◌≡◌, ◌≤◌, ◌+◌, length}
use Rattle.modbus_store.specs.Tables.{entries, with_entries}
use Rattle.modbus_store.proofs.read.read_after_write.Given as goal

abbrev pub invariant-loop-i : goal.invariant-loop-i
invariant-loop-i l =
    (l.found.items ≡ entries l.start l.i (with_entries l.write_address l.words l.table))
    × (l.count ≤ l.found.cap)
    × (l.start + l.count ≤ length l.table)
    × (l.write_address + length l.words ≤ length l.table)
