use Rattle.std.proofs.Common.{rules, ℤ, FitsSigned, subst}
use Rattle.std.proofs.lemmas.Int.{to_z-of_z}
use Rattle.std.specs.Int.{w128}
use Rattle.modbus_map.specs.Writing.{IsOfKind}
use Rattle.modbus_map.proofs.OnlyOne.{only_one}
use Rattle.modbus_map.proofs.write.integer_words.Goals as goal

pub returns-in-None-clause-refused : goal.returns-in-None-clause-refused
returns-in-None-clause-refused c = λ n of_kind worth.
    let fits : FitsSigned w128 c.in-Ok.n = search rules in
    let other = subst (λ (z : ℤ). IsOfKind c.args.encoding.kind z → ⊥) (to_z-of_z w128 c.in-Ok.n fits) c.in-None.ensures.none in
    only_one c.args.encoding.kind c.args.encoding.scale c.args.number n c.in-Ok.n c.in-Ok.ensures.ok c.in-Ok.ensures.zero other of_kind worth
