use Rattle.std.proofs.Common.{◌∙◌}
use Rattle.std.proofs.lemmas.Result.{err_from_is_err_and}
use Rattle.modbus_adapter.proofs.Echoes.{drops_more, takes_not}
use Rattle.modbus_adapter.proofs.echo.take_off.Goals as goal

pub echo-preserved : goal.echo-preserved
echo-preserved g c =
    let found = c.in_ok-next_echo.ensures in
    record {
      drops = drops_more _ _ _ _ _ _ _ c.echo.invariant.drops found.brings.drops;
      silences = found.counted ∙ c.echo.invariant.silences;
      sink = found.sink ∙ c.echo.invariant.sink;
      line = found.line ∙ c.echo.invariant.line;
      room = found.length ∙ c.echo.invariant.room;
    }

pub returns-in_err-next_echo-clause-takes : goal.returns-in_err-next_echo-clause-takes
returns-in_err-next_echo-clause-takes g c =
    let found = c.in_err-next_echo.ensures in
    let told = err_from_is_err_and c.from_residual.result c.from_residual.ensures.1 in
    rw (told.1, told.2) (takes_not _ _ _ _ _ _ _ _ c.echo.invariant.drops found.brings)
