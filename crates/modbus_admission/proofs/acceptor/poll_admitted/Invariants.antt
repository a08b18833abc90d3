use Rattle.std.proofs.Common.{◌≡◌, ℕ}
use Rattle.modbus_admission.specs.Admits.{TurnsAway}
use Rattle.modbus_admission.proofs.acceptor.poll_admitted.Given as goal

-- as many peers were turned away as there were rounds
abbrev pub invariant-polls : goal.invariant-polls
invariant-polls g l = record {
  made : ℕ;
  rounds : l.count ≡ made;
  turned : TurnsAway g.A.PolledAcceptor.accepts g.A.Link.Peered.peer l.fn.door made l.fn.acceptor l.acceptor;
  stays : l.door ≡ l.fn.door;
}
