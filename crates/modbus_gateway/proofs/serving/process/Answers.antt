use Rattle.std.proofs.Common.{rules, ◌≡◌, subst}
use Rattle.modbus_link.specs.Line.{meaning_of}
use Rattle.modbus_server.specs.Tcp.{tcp}
use Rattle.modbus_gateway.specs.Forwards.{forwards}
use Rattle.modbus_gateway.specs.Forwarded.{Forwarded}
use Rattle.modbus_gateway.proofs.Behind.{steps_behind, ran_behind, completes_behind}
use Rattle.modbus_gateway.proofs.Fitting.{replies_fit}
use Rattle.modbus_gateway.proofs.Forwarding.{forwarded_of}
use Rattle.modbus_gateway.proofs.serving.process.Goals as goal
use Rattle.modbus_server.specs.Moment.{moment}

at_end : {A : Type 0} (P : A → Type 0) (a b : A) → a ≡ b → P a → P b
at_end P a b e p = subst P e p

pub returns-clause-forwarded : goal.returns-clause-forwarded
returns-clause-forwarded g c =
    let M = meaning_of g.L.Ends.input g.L.Ends.output g.L.Ends.line in
    let back = ran_behind tcp (λ it. it.0.now) (λ it. it.0.ghost_name) _ (forwards M) (steps_behind (λ it. it.0.now) (λ it. it.0.ghost_name) (forwards M))
    _ c.process.new.service _ _ _ _ c.args.turns c.process.result c.process.ensures.ran in
    let same = back.1 in
    at_end (λ end. Forwarded M c.args.turns (moment c.args.line.now (g.S.Ends.input c.args.source.now) (g.K.Ends.output c.args.sink.now)) (moment end (g.S.Ends.input c.process.new.source) (g.K.Ends.output c.process.new.sink)) c.process.result)
    c.process.new.service.0.now _ (search rules)
    (forwarded_of M c.args.line.now c.process.new.service.0.now _ _ _ _ c.args.turns c.process.result back.0)

pub returns-clause-complete : goal.returns-clause-complete
returns-clause-complete g c told clean fewer read wrote =
    let M = meaning_of g.L.Ends.input g.L.Ends.output g.L.Ends.line in
    completes_behind tcp (λ it. it.0.now) (λ it. it.0.ghost_name) _ (forwards M) (steps_behind (λ it. it.0.now) (λ it. it.0.ghost_name) (forwards M))
    _ c.process.new.service (g.S.Ends.input c.args.source.now) (g.S.Ends.input c.process.new.source) (g.K.Ends.output c.args.sink.now) (g.K.Ends.output c.process.new.sink)
    c.args.turns c.process.result c.process.ensures.complete told clean (replies_fit M c.args.line.now clean.messages) fewer read wrote
