use Rattle.std.proofs.Common.{◌≡◌, ◌⊎◌, inl, inr, ◌++◌, List, ◌<◌, ◌≤◌, ◌∙◌, ◌+◌, ◌∷◌, [], refl, sym, ap, subst, arith, take, take_all, length, get_or}
use Rattle.std.proofs.lemmas.List.{take_more}
use Rattle.modbus_link.specs.Line.{meaning_of}
use Rattle.modbus_hub.specs.Counted.{counted}
use Rattle.modbus_hub.specs.Seats.{polled_by, IsFound}
use Rattle.slab.specs.Slab.{get}
use Rattle.modbus_ready.specs.declared.readiness.Ready.{Ready}
use Rattle.modbus_ready.specs.declared.readiness.Ready.TheVariants.{Peer}
use Rattle.modbus_hub.specs.Turns.{ServerState, IsPeerFound, ServesFound, ServesNext}
use Rattle.modbus_hub.proofs.Counting.{none_more}
use Rattle.modbus_hub.proofs.Sharing.{peers_both}
use Rattle.modbus_hub.proofs.Seating.{go_both, go_same}
use Rattle.modbus_hub.proofs.Rounding.{found_nothing, found_next, others_next, peer_in}
use Rattle.modbus_hub.proofs.server.EventServer.serve_ready.Goals as goal

pub ready-init : goal.ready-init
ready-init g c = (
  (refl, refl, omega arith),
  refl,
  refl,
  refl,
  go_same g.I.Framing.framing (counted g.V.Answerer.answering) (polled_by (meaning_of g.A.Link.Ends.input g.A.Link.Ends.output g.A.Link.Ends.line) g.A.Link.PolledLink.not_ready c.args.self.now.seats.limits) (ServesFound [])
      c.args.self.now.seats.seats c.args.service.now (λ history. found_nothing history),
  λ was. was,
  λ is. absurd is,
  λ marks. marks,
  λ was. was,
  λ key. inr refl,
  λ key peer is. is,
)

pub ready-preserved : goal.ready-preserved
ready-preserved g c =
    let found = g.S.Readiness.found c.args.self.now.readiness in
    let index = c.ready.index in
    let same : g.S.Readiness.found c.ready.self.readiness ≡ found = ap g.S.Readiness.found c.ready.invariant.2 in
    let all_told : c.ready-index-end.result.now ≡ found =
    c.ready-index-end.ensures ∙ ap (λ (s : ServerState g.row.A.Denot g.row.S.Denot g.row.A-Link.Denot). g.S.Readiness.found s.readiness) c.self.view_is in
    let low : index < length found = subst (λ (l : List Ready). index < length l) all_told c.ready-test.true in
    let ready = get_or found index Peer in
    let more : take (index + 1) found ≡ take index found ++ ready ∷ [] = take_more found index Peer low in (
      none_more c.args.self.now.seats c.ready.self.seats c.take_at.new.self.seats c.ready.invariant.0 c.take_at.ensures.no_more,
      c.take_at.ensures.acceptor ∙ c.ready.invariant.1,
      c.take_at.ensures.readiness ∙ c.ready.invariant.2,
      c.take_at.ensures.losses ∙ c.ready.invariant.3,
      go_both g.I.Framing.framing (counted g.V.Answerer.answering) (polled_by (meaning_of g.A.Link.Ends.input g.A.Link.Ends.output g.A.Link.Ends.line) g.A.Link.PolledLink.not_ready c.args.self.now.seats.limits) (ServesFound (take index found))
          (ServesNext (take index found) ready) (ServesFound (take (index + 1) found))
          c.args.self.now.seats.seats c.ready.self.seats.seats c.take_at.new.self.seats.seats c.args.service.now c.ready.service c.take_at.new.service
          c.ready.invariant.4 (rw (← same) (rw (c.ready.invariant.0.0) at c.take_at.ensures.goes_on))
          (λ history xs ys first second. subst (λ (l : List Ready). ServesFound l history (xs ++ ys)) (sym more)
          (found_next (take index found) ready history xs ys first second)),
      λ was. c.take_at.ensures.waits (c.ready.invariant.5 was),
      λ is.
          elim (peer_in (take index found) (ready ∷ []) (subst IsPeerFound more is)) [
            | inl before ↦ c.take_at.ensures.waits (c.ready.invariant.6 before)
            | inr now ↦
                elim now [
                  | inl e ↦ c.take_at.ensures.asked (ap (λ (l : List Ready). get_or l index Peer) same ∙ e)
                  | inr never ↦ absurd never
                ]
          ],
      λ marks. c.take_at.ensures.marks (c.ready.invariant.7 marks),
      λ was. c.take_at.ensures.stays (c.ready.invariant.8 was),
      λ key. subst (λ (l : List Ready). IsFound key l ⊎ (get c.take_at.new.self.seats.seats key ≡ get c.args.self.now.seats.seats key)) (sym more)
          (others_next (take index found) ready key (get c.args.self.now.seats.seats key) (get c.ready.self.seats.seats key) (get c.take_at.new.self.seats.seats key)
          (c.ready.invariant.9 key) (subst (λ (l : List Ready). IsFound key (get_or l index Peer ∷ []) ⊎ (get c.take_at.new.self.seats.seats key ≡ get c.ready.self.seats.seats key)) same
          (c.take_at.ensures.others key))),
      peers_both c.args.self.now.seats.seats c.ready.self.seats.seats c.take_at.new.self.seats.seats c.ready.invariant.10 c.take_at.ensures.peers,
    )

pub returns-clause-asked : goal.returns-clause-asked
returns-clause-asked g c =
    let found = g.S.Readiness.found c.args.self.now.readiness in
    let all_told : c.ready-index-end.result.now ≡ found =
    c.ready-index-end.ensures ∙ ap (λ (s : ServerState g.row.A.Denot g.row.S.Denot g.row.A-Link.Denot). g.S.Readiness.found s.readiness) c.self.view_is in
    let all : take c.ready.index found ≡ found =
    take_all c.ready.index found (subst (λ (l : List Ready). length l ≤ c.ready.index) all_told c.ready-test.false) in
    rw (all) at c.ready.invariant.6

pub returns-clause-goes_on : goal.returns-clause-goes_on
returns-clause-goes_on g c =
    let found = g.S.Readiness.found c.args.self.now.readiness in
    let all_told : c.ready-index-end.result.now ≡ found =
    c.ready-index-end.ensures ∙ ap (λ (s : ServerState g.row.A.Denot g.row.S.Denot g.row.A-Link.Denot). g.S.Readiness.found s.readiness) c.self.view_is in
    let all : take c.ready.index found ≡ found =
    take_all c.ready.index found (subst (λ (l : List Ready). length l ≤ c.ready.index) all_told c.ready-test.false) in
    rw (all) at c.ready.invariant.4

pub returns-clause-others : goal.returns-clause-others
returns-clause-others g c =
    let found = g.S.Readiness.found c.args.self.now.readiness in
    let all_told : c.ready-index-end.result.now ≡ found =
    c.ready-index-end.ensures ∙ ap (λ (s : ServerState g.row.A.Denot g.row.S.Denot g.row.A-Link.Denot). g.S.Readiness.found s.readiness) c.self.view_is in
    let all : take c.ready.index found ≡ found =
    take_all c.ready.index found (subst (λ (l : List Ready). length l ≤ c.ready.index) all_told c.ready-test.false) in
    rw (all) at c.ready.invariant.9
