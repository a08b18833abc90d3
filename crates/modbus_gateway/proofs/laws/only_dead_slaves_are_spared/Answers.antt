use Rattle.modbus_gateway.proofs.Outlasting.{spares, counts}
use Rattle.modbus_gateway.proofs.laws.only_dead_slaves_are_spared.Goals as goal

pub returns-clause-runs : goal.returns-clause-runs
returns-clause-runs g c unit = spares unit g.W.Watcher.tells g.C.Forwarder.forwarding

pub returns-clause-counts : goal.returns-clause-counts
returns-clause-counts g c unit slave = counts unit g.W.Watcher.tells g.C.Forwarder.forwarding slave
