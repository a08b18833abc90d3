use Rattle.std.proofs.Common.{◌≡◌, take, map}
use Rattle.std.specs.Prelude.{string_bytes}
use Rattle.std.specs.List.{AllPass}
use Rattle.modbus_poll.specs.Items.{is_readable}
use Rattle.modbus_app.specs.Plan.{items_named}
use Rattle.modbus_app.proofs.plan.items_of.Given as goal

abbrev pub invariant-loop-word : goal.invariant-loop-word
invariant-loop-word l = record {
  named : l.items.items ≡ items_named (map string_bytes (take l.word-index l.words));
  readable : AllPass is_readable l.items.items;
}
