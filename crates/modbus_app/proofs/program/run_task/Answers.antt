use Rattle.std.proofs.Common.{◌≡◌, ℕ, rules, subst, Some}
use Rattle.modbus_link.specs.Outside.{bytes_appended}
use Rattle.modbus_app.specs.declared.words.Task.TheVariants.{Make}
use Rattle.modbus_app.specs.Make.{summary}
use Rattle.modbus_app.proofs.Ending.{same_count, made_whole, made_unless}
use Rattle.modbus_app.proofs.program.run_task.Goals as goal

pub returns-in-Some-Make-clause-made : goal.returns-in-Some-Make-clause-made
returns-in-Some-Make-clause-made g c = λ count named done told.
    let found : Some (Make c.in-Some-Make.count) ≡ c.args.task = search rules in
    let same : c.in-Some-Make.count ≡ count = same_count c.in-Some-Make.count count _ found named in
    let sunk = g.K.Ends.output c.args.sink.now in
    let sinks = g.K.Ends.output c.sum_up.new.sink in
    subst (λ (n : ℕ). bytes_appended sunk sinks ≡ summary n) same (made_whole _ _ _ _ _ _ _ _ (c.sum_up.ensures.makes (g.S.Ends.input c.args.source.now)) done told)

pub returns-in-Some-Make-clause-made_unless : goal.returns-in-Some-Make-clause-made_unless
returns-in-Some-Make-clause-made_unless g c = λ count named calm. made_unless _ _ _ _ _ _ _ _ (c.sum_up.ensures.makes (g.S.Ends.input c.args.source.now)) calm
