use Rattle.std.proofs.Common.{◌≡◌, ℕ}
use Rattle.modbus_port.specs.Patient.{GoesOnFor}
use Rattle.modbus_port.proofs.patient.accept_patiently.Given as goal

-- as many accepts as rounds gave nothing
abbrev pub invariant-accepts : goal.invariant-accepts
invariant-accepts g l = record {
  made : ℕ;
  rounds : l.count ≡ made;
  many : GoesOnFor (record { accepts = g.A.Acceptor.accepts; admits = g.G.Keeper.admits; waits = g.G.Keeper.waits }) l.fn.retries made
      (record { acceptor = l.fn.acceptor; keeper = l.fn.keeper }) (record { acceptor = l.acceptor; keeper = l.keeper }) l.left;
}
