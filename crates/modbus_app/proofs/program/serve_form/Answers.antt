use Rattle.std.proofs.Common.{Ok, Err, refl}
use Rattle.modbus_app.proofs.Ending.{ends, answers, unserved}
use Rattle.modbus_app.proofs.program.serve_form.Goals as goal

pub returns-in_default-clause-ends : goal.returns-in_default-clause-ends
returns-in_default-clause-ends g c = unserved c.args.form _ _ _ _ c.report_fault.ensures

pub returns-in-Ok-serve-clause-ok : goal.returns-in-Ok-serve-clause-ok
returns-in-Ok-serve-clause-ok g c = λ is told told'.
    let from = g.S.Ends.input c.args.source.now in
    let to = g.S.Ends.input c.serve.new.source in
    let sunk = g.K.Ends.output c.args.sink.now in
    let sinks = g.K.Ends.output c.serve.new.sink in
    answers c.args.form c.in-Ok.store c.serve.new.store c.in-Ok.ensures from to sunk sinks c.in-Ok-serve.ensures.ran told told'

pub returns-in-Ok-serve-clause-ends : goal.returns-in-Ok-serve-clause-ends
returns-in-Ok-serve-clause-ends g c =
    let from = g.S.Ends.input c.args.source.now in
    let to = g.S.Ends.input c.serve.new.source in
    let sunk = g.K.Ends.output c.args.sink.now in
    let sinks = g.K.Ends.output c.serve.new.sink in
    let said = g.E.Ends.output c.args.errors.now in
    ends c.args.form c.in-Ok.store c.serve.new.store c.in-Ok.ensures from to sunk sinks said said 0 (Ok tt) c.in-Ok-serve.ensures.ran refl refl

pub returns-clause-ends : goal.returns-clause-ends
returns-clause-ends g c =
    let from = g.S.Ends.input c.args.source.now in
    let to = g.S.Ends.input c.serve.new.source in
    let sunk = g.K.Ends.output c.args.sink.now in
    let sinks = g.K.Ends.output c.serve.new.sink in
    let said = g.E.Ends.output c.args.errors.now in
    let told = g.E.Ends.output c.report_fault-in-Err.new.errors in
    ends c.args.form c.in-Ok.store c.serve.new.store c.in-Ok.ensures from to sunk sinks said told c.status.result (Err c.in-Err.error) c.in-Err.ensures.ran c.status.ensures.value c.report_fault-in-Err.ensures
