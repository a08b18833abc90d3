use Rattle.std.proofs.Common.{◌≡◌, drop}
use Rattle.modbus_rules.specs.Rules.{is_covered}
use Rattle.modbus_rules.proofs.rules.is_covered.Given as goal

abbrev pub invariant-loop-span : goal.invariant-loop-span
invariant-loop-span l = is_covered l.spans l.unit (record { first = l.at.first; count = l.at.count })
    ≡ is_covered (drop l.span-index l.spans) l.unit (record { first = l.at.first; count = l.at.count })
