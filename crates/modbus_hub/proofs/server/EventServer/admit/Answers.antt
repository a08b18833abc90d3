use Rattle.std.proofs.Common.{rules, ℕ, ap, refl, inl, inr, arith, subst, sym}
use Rattle.modbus_ready.specs.declared.peered.PeerAddress.{PeerAddress}
use Rattle.modbus_link.specs.Line.{meaning_of}
use Rattle.modbus_hub.specs.declared.seats.Places.{Places}
use Rattle.modbus_hub.specs.Events.{no_share}
use Rattle.modbus_hub.specs.Shares.{HasShare, HaveFew, LacksShare}
use Rattle.modbus_hub.specs.Turns.{Brings, BringsPeer}
use Rattle.modbus_hub.proofs.Seating.{Refuses, turned_away, stay_as}
use Rattle.modbus_hub.proofs.Sharing.{few_joined}
use Rattle.modbus_hub.proofs.Rounding.{state, brings_crowded}
use Rattle.modbus_hub.proofs.server.EventServer.admit.Goals as goal

pub returns-then-has_share-clause-stays : goal.returns-then-has_share-clause-stays
returns-then-has_share-clause-stays g c =
    let meaning = meaning_of g.A.Link.Ends.input g.A.Link.Ends.output g.A.Link.Ends.line in
    let faults = g.S.Readiness.faults in
    let seats = c.self.inside.seats in
    let peer = g.A.Link.Peered.peer c.args.link in
    let first = state c.self.inside.acceptor c.self.inside.readiness seats c.self.inside.losses c.self.inside.is_asked c.self.inside.is_crowded in
    let last = state c.self.inside.acceptor c.self.inside.readiness seats (record c.self.inside.losses { share = c.saturating_add-self-inside.result }) c.self.inside.is_asked c.self.inside.is_crowded in
    let counted = λ (n : ℕ). state c.self.inside.acceptor c.self.inside.readiness seats (record c.self.inside.losses { share = n }) c.self.inside.is_asked c.self.inside.is_crowded in
    let has : HasShare seats.places.per_peer c.peer_address-peer.result seats.seats = search rules in
    rw (← c.self.view_is) (stay_as g.I.Framing.framing meaning (Refuses no_share c.args.link) (BringsPeer faults peer c.args.link first last)
    seats.seats seats.seats
    (turned_away g.I.Framing.framing meaning no_share c.args.link seats.seats seats.seats (λ key. refl))
    (λ history more e. record {
      brings = brings_crowded faults first last c.args.link history more (omega arith) refl c.saturating_add-self-inside.ensures (refl, refl) e;
      share = inl (subst (λ (p : PeerAddress). HasShare seats.places.per_peer p seats.seats) c.peer_address-peer.ensures has, (e, ap counted c.saturating_add-self-inside.ensures));
    }))

pub returns-else-has_share-clause-stays : goal.returns-else-has_share-clause-stays
returns-else-has_share-clause-stays g c =
    let meaning = meaning_of g.A.Link.Ends.input g.A.Link.Ends.output g.A.Link.Ends.line in
    let faults = g.S.Readiness.faults in
    let peer = g.A.Link.Peered.peer c.args.link in
    let first = c.args.self.now in
    let last = c.seat.new.self in
    let lacks : LacksShare first.seats.places.per_peer c.peer_address-peer.result first.seats.seats = search rules in
    stay_as g.I.Framing.framing meaning (Brings faults c.args.link first last) (BringsPeer faults peer c.args.link first last)
    first.seats.seats last.seats.seats c.seat.ensures.stays
    (λ history more brings. record { brings = brings; share = inr (subst (λ (p : PeerAddress). LacksShare first.seats.places.per_peer p first.seats.seats) c.peer_address-peer.ensures lacks, c.seat.ensures.share) })

pub returns-else-has_share-clause-few : goal.returns-else-has_share-clause-few
returns-else-has_share-clause-few g c =
    let first = c.args.self.now.seats in
    let last = c.seat.new.self.seats in
    λ few.
    subst (λ (p : Places). HaveFew p.per_peer last.seats) (sym c.seat.ensures.one.1)
    (few_joined first.places.per_peer c.peer_address-peer.result first.seats last.seats c.seat.ensures.joins (search rules) few)

pub returns-then-has_share-clause-watched : goal.returns-then-has_share-clause-watched
returns-then-has_share-clause-watched g c = rw (← c.self.view_is) (λ key own. refl)
