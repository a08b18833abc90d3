use Rattle.std.proofs.Common.{◌<◌, true, arith, append_assoc}
use Rattle.std.proofs.lemmas.Fmt.{hex_byte}
use Rattle.modbus_frame.proofs.slave.SlaveDisplay.fmt.Goals as goal

-- the two hexadecimal digits are what `{:02X}` writes of a byte
pub returns-clause-writes : goal.returns-clause-writes
returns-clause-writes g c plain ok =
    let small : c.args.self.now.0 < 256 = omega arith in
    let written = rw (c.laid_out.ensures, c.in_radix.ensures) at c.write.ensures.writes in
    rw (← hex_byte true c.args.self.now.0 small) (simp append_assoc (written plain ok))
