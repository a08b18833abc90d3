use Rattle.std.proofs.Common.{length, sym}
use Rattle.modbus_link.proofs.Told.{tells}
use Rattle.modbus_link.proofs.silence.TimedMemoryLinkPolledLink.poll_read.Goals as goal

-- src/silence.rt:106:13
pub returns-then-is_silent-clause-reads : goal.returns-then-is_silent-clause-reads
returns-then-is_silent-clause-reads c =
    tells (length c.args.room.now) c.self.inside.told c.self.inside.link c.self.inside.silences.items c.args.self.now (sym c.self.view_is)
    (c.is_silent.ensures.0 c.if-is_silent.true)
