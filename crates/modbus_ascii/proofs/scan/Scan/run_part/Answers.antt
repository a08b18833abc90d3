use Rattle.std.proofs.Common.{◌-◌, arith}
use Rattle.modbus_ascii.proofs.Running.{part-fed}
use Rattle.modbus_ascii.proofs.scan.Scan.run_part.Goals as goal

pub returns-then-fed-part-clause-scans : goal.returns-then-fed-part-clause-scans
returns-then-fed-part-clause-scans c = λ held part s.
    let old = c.args.self.now in
    let start = c.args.start in
    let reached = c.requires.reached c.if-self.false in
    part-fed held c.args.part.now start (old.fed - start) old c.run_piece.new.self part (omega (arith, reached)) (omega (arith, c.if-fed-part.true)) s c.run_piece.ensures
