use Rattle.std.proofs.Common.{◌≡◌, take, map}
use Rattle.std.specs.Prelude.{string_bytes}
use Rattle.modbus_app.specs.Plan.{are_items}
use Rattle.modbus_app.proofs.words.are_items.Given as goal

abbrev pub invariant-loop-word : goal.invariant-loop-word
invariant-loop-word l = record { all : l.all ≡ are_items (map string_bytes (take l.word-index l.words)) }
