use Rattle.std.proofs.Common.{◌≡◌, drop}
use Rattle.modbus_rules.specs.Rules.{is_among}
use Rattle.modbus_rules.proofs.rules.is_among.Given as goal

abbrev pub invariant-loop-span : goal.invariant-loop-span
invariant-loop-span l = is_among l.spans l.unit ≡ is_among (drop l.span-index l.spans) l.unit
