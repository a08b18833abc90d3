use Rattle.std.proofs.Common.{◌≡◌, ◌∙◌, ◌++◌, ◌∷◌, [], ap, sym, subst, length, arith, length-append}
use Rattle.modbus_frame.specs.Meaning.{meaning}
use Rattle.modbus_store.specs.Outcomes.{outcome_of}
use Rattle.modbus_store.specs.Legal.{Call, call}
use Rattle.modbus_store.specs.Views.{Opening, resting}
use Rattle.modbus_store.specs.Lock.{Holds}
use Rattle.modbus_store.specs.Plays.{Mine, with_stage, known_of}
use Rattle.modbus_store.proofs.Turning.{extends, holds_more}
use Rattle.modbus_store.proofs.turn.turn.Goals as goal

pub leave-requires-clause-value : goal.leave-requires-clause-value
leave-requires-clause-value g c =
    let t = c.take_turn-stored.ensures.turn in
    let e : Call = call c.args.number c.args.request.now.slave (meaning c.args.request.now.request) (outcome_of c.in-Ok.outcome) in
    let y = c.take_turn-stored.result in
    holds_more c.take_turn-stored.new.seat.me.0 c.count.new.seat.me.0 y c.in-Ok.stored e
    (subst (λ (x : Opening). Holds x (known_of c.take_turn-stored.new.seat.me.0.stage) y) (sym (ap (λ (m : Mine). m.0.opening) t.1)) t.2.0) (ap (λ (m : Mine). m.0) c.count.ensures.counted)
    c.in-Ok.ensures.ok

pub returns-in-Ok-clause-ok : goal.returns-in-Ok-clause-ok
returns-in-Ok-clause-ok g c =
    let t = c.take_turn-stored.ensures.turn in
    let log = known_of c.take_turn-stored.new.seat.me.0.stage in
    let e : Call = call c.args.number c.args.request.now.slave (meaning c.args.request.now.request) (outcome_of c.in-Ok.outcome) in
    let done = c.in-Ok.ensures.ok in
    let x = extends e c.args.seat.now.me c.take_turn-stored.new.seat.me c.take_turn-stored.result c.leave.new.seat.me.0 c.requires.rests t done.answer
    (ap (λ (m : Mine). m.0) c.leave.ensures.rests ∙ ap (λ (m : Mine). with_stage resting m.0) c.count.ensures.counted) in
    let len : length c.leave.new.seat.me.0.seen ≡ length (log ++ e ∷ []) = ap length x.1 in
    (x.0, omega (arith, t.2.0.0, len, length-append log (e ∷ []), done.count))
