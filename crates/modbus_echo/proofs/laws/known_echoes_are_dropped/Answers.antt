use Rattle.modbus_echo.proofs.Known.{known, written, watches}
use Rattle.modbus_echo.proofs.laws.known_echoes_are_dropped.Goals as goal

pub returns-clause-written : goal.returns-clause-written
returns-clause-written g c = written g.L.Ends.input g.L.PolledLink.not_ready

pub returns-clause-known : goal.returns-clause-known
returns-clause-known g c = known g.L.Ends.input g.L.PolledLink.not_ready

pub returns-clause-watches : goal.returns-clause-watches
returns-clause-watches g c = watches g.L.Ends.input g.L.PolledLink.not_ready
