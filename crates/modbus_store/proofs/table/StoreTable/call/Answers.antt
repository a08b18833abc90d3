use Rattle.std.proofs.Common.{ap, ◌∙◌}
use Rattle.modbus_store.specs.Passes.{Pass}
use Rattle.modbus_store.specs.Plays.{Mine}
use Rattle.modbus_store.proofs.Turning.{adds_no_call}
use Rattle.modbus_store.proofs.table.StoreTable.call.Goals as goal

pub returns-in_err-outcome-clause-none_added : goal.returns-in_err-outcome-clause-none_added
returns-in_err-outcome-clause-none_added g c =
    let is = c.pass.view_is in
    adds_no_call c.from_residual.result _ _ (ap (λ (p : Pass). p.number) is) (ap (λ (m : Mine). m.0.mine) c.in_err-outcome.ensures.err ∙ ap (λ (p : Pass). p.mine) is)
