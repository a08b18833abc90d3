use Rattle.std.proofs.Common.{rules, ◌≡◌, Bool, true, false, refl, [], arith}
use Rattle.modbus_link.specs.Line.{meaning_of}
use Rattle.modbus_hub.specs.Turns.{AcceptsAsked}
use Rattle.modbus_hub.proofs.Seating.{stay_same}
use Rattle.modbus_hub.proofs.Rounding.{state, none_come}
use Rattle.modbus_hub.proofs.server.EventServer.accept_asked.Goals as goal

no_both : (b : Bool) → b ≡ false → b ≡ true → ⊥
no_both b e f = cc

pub returns-else-self-clause-stays : goal.returns-else-self-clause-stays
returns-else-self-clause-stays g c =
    let accepts = g.A.PolledAcceptor.accepts in
    let faults = g.S.Readiness.faults in
    let seats = c.self.inside.seats in
    let first = state c.self.inside.acceptor c.self.inside.readiness seats c.self.inside.losses c.self.inside.is_asked c.self.inside.is_crowded in
    let last = state c.self.inside.acceptor c.self.inside.readiness seats c.self.inside.losses c.self.inside.is_asked false in
    let unasked : c.self.inside.is_asked ≡ false = search rules in
    rw (← c.self.view_is) (stay_same g.I.Framing.framing (meaning_of g.A.Link.Ends.input g.A.Link.Ends.output g.A.Link.Ends.line)
    (AcceptsAsked accepts faults first last) seats.seats seats.seats (λ key. refl)
    (λ history all. (
      (none_come accepts faults first last history [] refl (omega arith) (refl, refl) refl, tt, (refl, refl)),
      omega arith,
      refl,
      λ asked. absurd (no_both c.self.inside.is_asked unasked asked),
    )))
