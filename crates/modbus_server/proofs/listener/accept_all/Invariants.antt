use Rattle.std.proofs.Common.{◌≤◌, ℕ}
use Rattle.modbus_server.specs.Listener.{AcceptsMany}
use Rattle.modbus_server.proofs.Counting.{Well}
use Rattle.modbus_server.proofs.listener.accept_all.Given as goal

abbrev pub invariant-accepts : goal.invariant-accepts
invariant-accepts g l = record {
  hook : goal.C-IsAlwaysCallable g l.on_connected;
  can : g.P.Spawner.can_start l.spawner;
  stops : g.X.Stop.stops l.fn.abort_signal ≤ g.X.Stop.stops l.abort_signal;
  counted : Well (record { accepts = g.A.Acceptor.accepts; connects = goal.C-step g; starts = g.P.Spawner.starts })
      (record { given = g.A.Acceptor.given; accept_faults = g.A.Acceptor.faults; started = g.P.Spawner.started; spawn_faults = g.P.Spawner.faults })
      (record { acceptor = l.fn.acceptor; hook = l.fn.on_connected; spawner = l.fn.spawner })
      (record { acceptor = l.acceptor; hook = l.on_connected; spawner = l.spawner });
  many : (count : ℕ) × AcceptsMany (record { accepts = g.A.Acceptor.accepts; connects = goal.C-step g; starts = g.P.Spawner.starts }) g.X.Stop.looks l.on_process_error count
      (record { acceptor = l.fn.acceptor; hook = l.fn.on_connected; spawner = l.fn.spawner }) l.fn.abort_signal
      (record { acceptor = l.acceptor; hook = l.on_connected; spawner = l.spawner }) l.abort_signal;
}
