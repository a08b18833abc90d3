use Rattle.std.proofs.Common.{◌∙◌, arith}
use Rattle.modbus_echo.proofs.Within.{more_kept}
use Rattle.modbus_echo.proofs.guard.keep_more.Goals as goal

pub returns : goal.returns
returns c =
    let fits = c.len-free.ensures.fits in
    let value = c.len-free.ensures.value in
    c.in-Ok.ensures.ok ∙ more_kept c.args.kept.now.items c.args.piece.now _ c.min.result (omega (arith, fits, value)) c.min.ensures
