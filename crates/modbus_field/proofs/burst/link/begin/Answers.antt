use Rattle.std.proofs.Common.{◌∙◌}
use Rattle.modbus_link.specs.Runs.{Advances-both}
use Rattle.modbus_field.proofs.BurstPieces.{hushed_more, comes_behind}
use Rattle.modbus_field.proofs.burst.link.begin.Goals as goal

pub returns-in-Ok-Ready-clause-source : goal.returns-in-Ok-Ready-clause-source
returns-in-Ok-Ready-clause-source g c = Advances-both _ _ _ c.silences.invariant.hushed.source c.poll_counted.ensures.source

pub returns-in-Err-clause-source : goal.returns-in-Err-clause-source
returns-in-Err-clause-source g c = Advances-both _ _ _ c.silences.invariant.hushed.source c.poll_counted.ensures.source

pub silences-preserved : goal.silences-preserved
silences-preserved g c =
    let found = rw c.in-Ok-Pending.field-0-is at c.in-Ok-Pending.ensures in
    record {
      hushed = hushed_more c.silences._told _ _ _ _ _ _ c.silences.invariant.hushed found.source (λ told. (found.told told).bytes) found.waited found.later;
      sink = found.sink ∙ c.silences.invariant.sink;
      line = found.line ∙ c.silences.invariant.line;
      room = c.poll_counted.auto.room ∙ c.silences.invariant.room;
    }

pub returns-in-Ok-Ready-clause-behind : goal.returns-in-Ok-Ready-clause-behind
returns-in-Ok-Ready-clause-behind g c = comes_behind g.L.Ends.input g.L.PolledLink.not_ready _ _ _ c.silences._told c.silences.invariant.hushed (rw c.in-Ok-Ready.field-0-is at c.in-Ok-Ready.ensures).counted
