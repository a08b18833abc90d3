use Rattle.std.proofs.Common.{List, ◌++◌, length, take, ap, ◌∙◌, subst, arith, length-drop, ℕ}
use Rattle.std.proofs.lemmas.List.{take_rest}
use Rattle.modbus_ascii.specs.Scan.{HasSeen}
use Rattle.modbus_ascii.proofs.Running.{piece-more}
use Rattle.modbus_ascii.proofs.scan.Scan.run_piece.Goals as goal

pub loop-self-preserved : goal.loop-self-preserved
loop-self-preserved c =
    let piece = c.args.piece.now in
    let taken = c.loop-self.taken in
    let inv = c.loop-self.invariant in
    let step = c.step-taken.ensures in
    let size = ap length (take_rest piece taken) ∙ length-drop taken piece in
    let P : List ℕ → Type 0 = λ seen. HasSeen seen c.step-taken.new.self in (
      omega (arith, step.within, size, inv.0),
      omega (arith, step.fed, inv.1),
      λ seen s. subst P (piece-more seen piece taken c.step-taken.result) (step.seen (seen ++ take taken piece) (inv.2 seen s)),
    )
