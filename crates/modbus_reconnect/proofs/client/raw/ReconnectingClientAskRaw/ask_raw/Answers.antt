use Rattle.std.proofs.Common.{◌≡◌, ℕ, zero, suc, ◌+◌, ◌<◌, ◌≤◌, refl, sym, ap, ◌∙◌, arith}
use Rattle.modbus_link.specs.Line.{meaning_of}
use Rattle.modbus_frame.specs.Meaning.{meaning}
use Rattle.modbus_client.specs.Raw.{read_raw}
use Rattle.modbus_client.specs.Connects.{connector_of}
use Rattle.modbus_reconnect.specs.State.{ReconnectingState, meaning_by}
use Rattle.modbus_reconnect.proofs.Vain.{tried_of, one_more, ends_by_answer, ends_by_count, retries_after, counted}
use Rattle.modbus_reconnect.proofs.client.raw.ReconnectingClientAskRaw.ask_raw.Goals as goal

next : (a b : ℕ) → a ≡ b → a + 1 ≡ suc b
next a b e = omega arith

below : (a b r s : ℕ) → a < r → a ≡ b → r ≡ s → b ≤ s
below a b r s less e f = omega arith

-- where the range has ended, as many rounds were made as there are
ended : (a b r s : ℕ) → a ≤ r → r ≤ a → a ≡ b → r ≡ s → b ≡ s
ended a b r s most least e f = omega arith

pub tries-init : goal.tries-init
tries-init g c = record { made = zero; rounds = refl; asks = refl; vain = refl }

pub returns-then-not-lets_follow : goal.returns-then-not-lets_follow
returns-then-not-lets_follow g c =
    ends_by_answer
    (meaning_by g.P.Protocol.protocol g.P.Protocol.heading (connector_of g.C.Connector.connects g.C.Connector.faults) (meaning_of g.C.Link.Ends.input g.C.Link.Ends.output g.C.Link.Ends.line)) (read_raw g.P.Protocol.protocol)
    _ (meaning c.args.request.now) c.tries.invariant.made c.args.self.now c.tries.self c.try_raw-answer.new.self _ c.try_raw-answer.result c.self-in-tries.inside.resend c.lets_follow.result
    c.tries.invariant.asks c.tries.invariant.vain (tried_of _ _ _ _ _ _ _ c.tries.invariant.asks c.try_raw-answer.ensures)
    (ap (λ (state : ReconnectingState g.row.C.Denot g.row.P-Ids.Denot g.row.C-Link.Denot). state.resend) c.self-in-tries.view_is) c.lets_follow.ensures
    c.if-not-lets_follow.true
    (below _ _ _ _ c.tries-test.true c.tries.invariant.rounds
    (ap (λ (state : ReconnectingState g.row.C.Denot g.row.P-Ids.Denot g.row.C-Link.Denot). state.retries) c.self.view_is))
    (counted _ _ _ _ c.self-in-tries.view_is (c.from.ensures ∙ c.tries.invariant.rounds))

pub tries-preserved : goal.tries-preserved
tries-preserved g c = record {
  made = suc c.tries.invariant.made;
  rounds = next _ _ c.tries.invariant.rounds;
  asks = c.tries.invariant.asks;
  vain = one_more
      (meaning_by g.P.Protocol.protocol g.P.Protocol.heading (connector_of g.C.Connector.connects g.C.Connector.faults) (meaning_of g.C.Link.Ends.input g.C.Link.Ends.output g.C.Link.Ends.line)) (read_raw g.P.Protocol.protocol)
      _ (meaning c.args.request.now) c.tries.invariant.made c.args.self.now c.tries.self c.try_raw-answer.new.self c.try_raw-answer.result c.self-in-tries.inside.resend c.lets_follow.result
      c.tries.invariant.asks c.tries.invariant.vain (tried_of _ _ _ _ _ _ _ c.tries.invariant.asks c.try_raw-answer.ensures)
      (ap (λ (state : ReconnectingState g.row.C.Denot g.row.P-Ids.Denot g.row.C-Link.Denot). state.resend) c.self-in-tries.view_is) c.lets_follow.ensures
      c.if-not-lets_follow.false;
}

pub returns : goal.returns
returns g c =
    let tried = tried_of _ _ _ _ _ (meaning c.args.request.now) _ c.tries.invariant.asks c.try_raw-answer-2.ensures in
    let all = ended _ _ _ _ c.tries.auto.earlier-end c.tries-test.false c.tries.invariant.rounds
    (ap (λ (state : ReconnectingState g.row.C.Denot g.row.P-Ids.Denot g.row.C-Link.Denot). state.retries) c.self.view_is) in
    let retries = ap (λ (state : ReconnectingState g.row.C.Denot g.row.P-Ids.Denot g.row.C-Link.Denot). state.retries) c.self-2.view_is
    ∙ retries_after
    (meaning_by g.P.Protocol.protocol g.P.Protocol.heading (connector_of g.C.Connector.connects g.C.Connector.faults) (meaning_of g.C.Link.Ends.input g.C.Link.Ends.output g.C.Link.Ends.line)) (read_raw g.P.Protocol.protocol)
    (meaning c.args.request.now) c.tries.invariant.made c.args.self.now c.tries.self c.try_raw-answer-2.new.self c.try_raw-answer-2.result
    c.tries.invariant.vain tried in
    ends_by_count
    (meaning_by g.P.Protocol.protocol g.P.Protocol.heading (connector_of g.C.Connector.connects g.C.Connector.faults) (meaning_of g.C.Link.Ends.input g.C.Link.Ends.output g.C.Link.Ends.line)) (read_raw g.P.Protocol.protocol)
    (meaning c.args.request.now) c.tries.invariant.made c.args.self.now c.tries.self c.try_raw-answer-2.new.self _ c.try_raw-answer-2.result
    c.tries.invariant.vain tried all
    (counted _ _ _ _ c.self-2.view_is (c.from-2.ensures ∙ retries ∙ sym all))
