use Rattle.std.proofs.lemmas.Slice.Eq.{starts_is}
use Rattle.std.proofs.lemmas.Bool.Decides.{Decides-eqb}
use Rattle.modbus_echo.proofs.bytes.begins_with.Goals as goal

pub returns : goal.returns
returns c =
    let is = starts_is Decides-eqb c.args.bytes.now c.args.front.now c.starts_with.result c.starts_with.ensures.value in
    record { begins = is.0; differs = λ no front. let yes = is.1 front.0 front.1 in cc }
