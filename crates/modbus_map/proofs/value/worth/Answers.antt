use Rattle.std.proofs.Common.{rules, ◌≡◌, ℤ, FitsSigned, ap, ◌∙◌}
use Rattle.std.proofs.lemmas.Int.{to_z-of_z}
use Rattle.std.specs.Int.{w64}
use Rattle.modbus_map.specs.declared.decimal.Decimal.{Decimal}
use Rattle.modbus_map.proofs.Worths.{computed}
use Rattle.modbus_map.proofs.value.worth.Goals as goal

pub returns : goal.returns
returns c =
    let factor : FitsSigned w64 c.args.scale.factor = search rules in
    let offset : FitsSigned w64 c.args.scale.offset = search rules in
    let same = computed c.args.n c.args.scale.factor c.args.scale.offset c.requires c.ranges.n factor offset in
    let f : c.from.result ≡ c.args.scale.factor = c.from.ensures ∙ to_z-of_z w64 c.args.scale.factor factor in
    let o : c.from-2.result ≡ c.args.scale.offset = c.from-2.ensures ∙ to_z-of_z w64 c.args.scale.offset offset in
    rw (f, o) (ap (λ (z : ℤ). let d : Decimal = record { units = z; places = c.args.scale.places } in d) same)
