use Rattle.std.proofs.Common.{rules, ◌≡◌, ◌≤◌, Some, None, subst, arith, Option}
use Rattle.slab.specs.Slab.{get}
use Rattle.modbus_hub.specs.declared.seats.Idle.{Idle}
use Rattle.modbus_hub.specs.Idlest.{IsIdlestBelow}
use Rattle.modbus_hub.proofs.Idling.{idler_none, idler_first, idler_stays, idler_new}
use Rattle.modbus_hub.proofs.seats.Seats.idler.Goals as goal

pub returns-in_default : goal.returns-in_default
returns-in_default g c =
    let seats = c.self.inside.seats in
    let none : get seats c.args.key ≡ None = search rules in
    rw (← c.self.view_is) (idler_none seats c.args.key c.args.found none)

pub returns-in-Some-found : goal.returns-in-Some-found
returns-in-Some-found g c =
    let seats = c.self.inside.seats in
    let there : get seats c.args.key ≡ Some c.in-Some.seat.now = search rules in
    let less : c.in-Some-found.idle.last ≤ c.in-Some.seat.now.last = omega (arith, c.if-idle-last.true, c.last-last.ensures) in
    rw (← c.self.view_is) (λ before.
    idler_stays seats c.args.key c.in-Some.seat.now there c.in-Some-found.idle less
    (subst (λ (f : Option Idle). IsIdlestBelow c.args.key seats f) c.in-Some-found.is before))

pub returns-in_default-found : goal.returns-in_default-found
returns-in_default-found g c =
    let seats = c.self.inside.seats in
    let there : get seats c.args.key ≡ Some c.in-Some.seat.now = search rules in
    let less : c.last-last.result ≤ c.in-Some-found.idle.last = omega (arith, c.if-idle-last.false) in
    rw (← c.self.view_is) (λ before.
    idler_new seats c.args.key c.in-Some.seat.now there c.in-Some-found.idle c.last-last.result c.last-last.ensures less
    (subst (λ (f : Option Idle). IsIdlestBelow c.args.key seats f) c.in-Some-found.is before))

pub returns-in_default-found-2 : goal.returns-in_default-found-2
returns-in_default-found-2 g c =
    let seats = c.self.inside.seats in
    let there : get seats c.args.key ≡ Some c.in-Some.seat.now = search rules in
    rw (← c.self.view_is) (λ before.
    idler_first seats c.args.key c.in-Some.seat.now there c.last-last.result c.last-last.ensures
    (subst (λ (f : Option Idle). IsIdlestBelow c.args.key seats f) c.in_default-found.is before))
