use Rattle.std.proofs.Common.{◌≡◌, ◌<◌, ◌≤◌, length}
use Rattle.modbus_port.proofs.watched.read_again.Given as goal

abbrev pub invariant-tries : goal.invariant-tries
invariant-tries l = record {
  room : 0 < length l.room;
  faults : l.fn.link.read_faults ≤ l.link.read_faults;
  rest : l.link ≡ record l.fn.link { read_faults = l.link.read_faults };
}
