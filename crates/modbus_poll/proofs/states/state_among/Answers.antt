use Rattle.std.proofs.Common.{◌≡◌, ◌-◌, Bool, true, false, List, [], Option, Some, None, length, get_or, ◌∙◌, sym, ap, subst}
use Rattle.std.specs.List.{position}
use Rattle.modbus_poll.specs.declared.read.Read.{Read}
use Rattle.modbus_poll.specs.declared.span.Span.{Span}
use Rattle.modbus_poll.specs.Spans.{one, is_within}
use Rattle.modbus_poll.proofs.StateAt.{state_at, some_read_of}
use Rattle.modbus_poll.proofs.states.state_among.Goals as goal

pub states_at-requires : goal.states_at-requires
states_at-requires c =
    let placed : position (is_within (one c.args.address)) c.args.plan.now ≡ Some c.in-Some.place =
    sym (ap (λ (span : Span). position (is_within span) c.args.plan.now) c.one.ensures) ∙ sym c.place_of.ensures ∙ c.in-Some.is in
    let at = state_at c.args.plan.now c.args.found.now c.args.address c.in-Some.place c.requires.states placed in
    at.gave

pub state_in-requires-clause-within : goal.state_in-requires-clause-within
state_in-requires-clause-within c =
    let some : Read = record { address = 0; count = 0 } in
    let placed : position (is_within (one c.args.address)) c.args.plan.now ≡ Some c.in-Some.place =
    sym (ap (λ (span : Span). position (is_within span) c.args.plan.now) c.one.ensures) ∙ sym c.place_of.ensures ∙ c.in-Some.is in
    let at = state_at c.args.plan.now c.args.found.now c.args.address c.in-Some.place c.requires.states placed in
    subst (λ (reads : List Read). is_within (one c.args.address) (get_or reads c.in-Some.place some) ≡ true) (sym c.reads.ensures) (at.within some)

pub state_in-requires-clause-count : goal.state_in-requires-clause-count
state_in-requires-clause-count c =
    let some : Read = record { address = 0; count = 0 } in
    let placed : position (is_within (one c.args.address)) c.args.plan.now ≡ Some c.in-Some.place =
    sym (ap (λ (span : Span). position (is_within span) c.args.plan.now) c.one.ensures) ∙ sym c.place_of.ensures ∙ c.in-Some.is in
    let at = state_at c.args.plan.now c.args.found.now c.args.address c.in-Some.place c.requires.states placed in
    let same : (get_or c.reads.result.now c.in-Some.place some).count ≡ (get_or c.args.plan.now c.in-Some.place some).count =
    ap (λ (reads : List Read). (get_or reads c.in-Some.place some).count) c.reads.ensures in
    ap length c.states_at.ensures ∙ at.count some [] ∙ sym same

pub unreachable-requires : goal.unreachable-requires
unreachable-requires c =
    some_read_of c.args.plan.now c.args.address c.requires.given
    (sym (ap (λ (span : Span). position (is_within span) c.args.plan.now) c.one.ensures) ∙ sym c.place_of.ensures ∙ c.in-None.is)

pub returns : goal.returns
returns c =
    let some : Read = record { address = 0; count = 0 } in
    let placed : position (is_within (one c.args.address)) c.args.plan.now ≡ Some c.in-Some.place =
    sym (ap (λ (span : Span). position (is_within span) c.args.plan.now) c.one.ensures) ∙ sym c.place_of.ensures ∙ c.in-Some.is in
    let at = state_at c.args.plan.now c.args.found.now c.args.address c.in-Some.place c.requires.states placed in
    let read : get_or c.states_at.result.now (c.args.address - (get_or c.reads.result.now c.in-Some.place some).address) false
    ≡ get_or c.states_at.result.now (c.args.address - (get_or c.args.plan.now c.in-Some.place some).address) false =
    ap (λ (reads : List Read). get_or c.states_at.result.now (c.args.address - (get_or reads c.in-Some.place some).address) false) c.reads.ensures in
    let gave : get_or c.states_at.result.now (c.args.address - (get_or c.args.plan.now c.in-Some.place some).address) false
    ≡ get_or (get_or c.args.found.now c.in-Some.place []) (c.args.address - (get_or c.args.plan.now c.in-Some.place some).address) false =
    ap (λ (states : List Bool). get_or states (c.args.address - (get_or c.args.plan.now c.in-Some.place some).address) false) c.states_at.ensures in
    c.state_in.ensures ∙ read ∙ gave ∙ sym (at.state some [])
