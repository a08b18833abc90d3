use Rattle.modbus_echo.proofs.Reading.{any}
use Rattle.modbus_echo.proofs.guard.EchoGuard.read_guarded.Goals as goal

pub returns-else-is_watching-clause-reads : goal.returns-else-is_watching-clause-reads
returns-else-is_watching-clause-reads g c =
    any g.L.Ends.input g.L.PolledLink.not_ready _ c.args.self.now c.read.new.self _ _ c.read.result c.self.view_is
    (c.is_watching.ensures.rests c.if-is_watching.false) c.read.ensures.gives
