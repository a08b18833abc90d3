use Rattle.std.proofs.Common.{◌∙◌, arith, refl}
use Rattle.modbus_field.proofs.BurstPieces.{sofar_more, finishes_silent, finishes_ended, finishes_not}
use Rattle.modbus_field.proofs.burst.link.finish.Goals as goal

pub returns-in-Ok-Pending-clause-finishes : goal.returns-in-Ok-Pending-clause-finishes
returns-in-Ok-Pending-clause-finishes g c =
    let found = rw c.in-Ok-Pending.field-0-is at c.in-Ok-Pending.ensures in
    finishes_silent c.pieces._read c.args.first c.pieces.count _ _ _ _ _ _ _ _ _ c.pieces.invariant.sofar c.requires.some found.goes_on found.counted found.later

pub returns-in-Ok-Ready-eq0-clause-finishes : goal.returns-in-Ok-Ready-eq0-clause-finishes
returns-in-Ok-Ready-eq0-clause-finishes g c =
    let one = rw c.in-Ok-Ready-eq0.field-0-is at c.in-Ok-Ready-eq0.ensures in
    let found = rw c.in-Ok-Ready-eq0.field-0-0-test at one in
    finishes_ended c.pieces._read c.args.first c.pieces.count _ _ _ _ _ _ _ _ _ c.pieces.invariant.sofar found.counted found.goes_on (found.ended refl)

pub returns-in-Err-clause-finishes : goal.returns-in-Err-clause-finishes
returns-in-Err-clause-finishes g c =
    let found = c.in-Err.ensures in
    finishes_not c.pieces._read c.args.first c.pieces.count _ _ _ _ _ _ _ _ _ c.pieces.invariant.sofar _ found.later found.goes_on found.cause

pub pieces-preserved : goal.pieces-preserved
pieces-preserved g c =
    let found = rw c.in-Ok-Ready.field-0-is at c.in-Ok-Ready.ensures in
    record {
      sofar = sofar_more c.pieces._read c.args.first c.pieces.count _ _ _ _ _ _ _ _ _ c.pieces.invariant.sofar c.in-Ok-Ready.more _ found.counted found.goes_on (λ none. c.in-Ok-Ready.more-test.1 none)
          (let s = c.pieces.invariant.sofar in let size = s.same in let w = s.within in let g = found.goes_on.same in let kept = c.min-kept.ensures in omega (arith, size, w.1, g, kept));
      sink = found.sink ∙ c.pieces.invariant.sink;
      line = found.line ∙ c.pieces.invariant.line;
    }
