use Rattle.std.proofs.Common.{arith, ap, length, length-drop}
use Rattle.modbus_server.proofs.rtu.InboxFraming.room.Goals as goal

pub returns-clause-rooms : goal.returns-clause-rooms
returns-clause-rooms c = λ bytes cuts taken s frames stop reading.
    let u = c.standing.ensures.used_up bytes cuts c.args.self.now taken s c.requires.1 in
    let same = c.one_reading.ensures.only bytes frames u.frames stop u.stop reading u.reading in
    let short = c.requires.0 in
    omega (arith, same.1, ap length u.holds, length-drop u.stop bytes, c.room.ensures, short)
