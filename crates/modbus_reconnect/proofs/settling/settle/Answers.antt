use Rattle.std.proofs.Common.{◌∙◌, ◌-◌}
use Rattle.modbus_reconnect.proofs.Dropping.{dropped_more, settles_silence, settles_not, within_more}
use Rattle.modbus_reconnect.proofs.settling.settle.Goals as goal

pub returns-in-Ok-eq0-clause-settles : goal.returns-in-Ok-eq0-clause-settles
returns-in-Ok-eq0-clause-settles g c =
    let found = rw c.in-Ok-eq0.field-0-test at c.in-Ok-eq0.ensures in
    settles_silence c.args.silences c.args.limit (c.args.limit - c.loop-dropped.dropped) c.loop-dropped.dropped _ _ _ _ _ _ c.loop-dropped.invariant.sofar found.drops c.loop-dropped-test.true

pub loop-dropped-preserved : goal.loop-dropped-preserved
loop-dropped-preserved g c =
    record {
      sofar = dropped_more c.args.silences (c.args.limit - c.loop-dropped.dropped) c.loop-dropped.dropped c.in-Ok.count _ _ _ _ _ _ c.loop-dropped.invariant.sofar c.in-Ok.ensures.drops;
      within = within_more c.args.silences c.args.limit c.loop-dropped.dropped c.in-Ok.count _ _ _ _ c.loop-dropped.invariant.within c.in-Ok.ensures.drops;
      sink = c.in-Ok.ensures.sink ∙ c.loop-dropped.invariant.sink;
      line = c.in-Ok.ensures.line ∙ c.loop-dropped.invariant.line;
    }

pub returns-in-Err-clause-settles : goal.returns-in-Err-clause-settles
returns-in-Err-clause-settles g c =
    settles_not c.args.silences c.args.limit (c.args.limit - c.loop-dropped.dropped) c.loop-dropped.dropped _ _ _ _ _ _ c.in-Err.reason c.loop-dropped.invariant.sofar c.in-Err.ensures.drops c.loop-dropped.invariant.within
