use Rattle.std.proofs.Common.{◌≡◌, ◌++◌, [], take}
use Rattle.std.specs.Prelude.{fold}
use Rattle.modbus_app.specs.Plan.{read_line}
use Rattle.modbus_app.proofs.plan.text_of.Given as goal

abbrev pub invariant-loop-read : goal.invariant-loop-read
invariant-loop-read l = record { text : l.text.items ≡ fold (λ text read. text ++ read_line read) [] (take l.read-index l.reads) }
