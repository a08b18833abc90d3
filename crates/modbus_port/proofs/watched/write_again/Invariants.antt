use Rattle.std.proofs.Common.{◌≡◌, ◌≤◌}
use Rattle.modbus_port.proofs.watched.write_again.Given as goal

abbrev pub invariant-tries : goal.invariant-tries
invariant-tries l = record {
  faults : l.fn.link.write_faults ≤ l.link.write_faults;
  rest : l.link ≡ record l.fn.link { write_faults = l.link.write_faults };
}
