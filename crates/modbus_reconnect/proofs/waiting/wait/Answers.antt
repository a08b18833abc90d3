use Rattle.std.proofs.Common.{◌∙◌, Err, refl, sym, ap, subst, arith, not}
use Rattle.std.specs.Prelude.{is_some}
use Rattle.modbus_link.specs.Line.{meaning_of}
use Rattle.modbus_frame.specs.declared.fault.Error.TheVariants.{Transport}
use Rattle.modbus_client.specs.Silenced.{CallSilenced}
use Rattle.modbus_reconnect.specs.SettleState.{line_by}
use Rattle.modbus_reconnect.specs.Waits.{WaitsFor}
use Rattle.modbus_reconnect.proofs.Waited.{none_counted, some_counted, goes_none, goes_calm, goes_noisy, gives_up, answered, answered_silent}
use Rattle.modbus_reconnect.proofs.waiting.wait.Goals as goal
use Rattle.modbus_reconnect.proofs.waiting.wait.Goals.{then-held-gt0+in_default, else-held-gt0}

pub silences-init : goal.silences-init
silences-init g c = record {
  going = goes_none (line_by g.P.Protocol.protocol g.P.LineProtocol.silent g.P.Protocol.heading (meaning_of g.L.Ends.input g.L.Ends.output g.L.Ends.line) g.L.PolledLink.not_ready g.L.IdleLink.looks) _ _;
  goes_on = c.requires.open;
  line = refl;
}

pub returns-in-Ready-clause-waits : goal.returns-in-Ready-clause-waits
returns-in-Ready-clause-waits g c =
    answered (line_by g.P.Protocol.protocol g.P.LineProtocol.silent g.P.Protocol.heading (meaning_of g.L.Ends.input g.L.Ends.output g.L.Ends.line) g.L.PolledLink.not_ready g.L.IdleLink.looks)
    c.args.silences c.silences._told c.silences.is_noisy _ _ _ c.args.call.now.call c.silences.call.call c.poll.new.self.call c.in-Ready.answer c.silences.invariant.going c.in-Ready.ensures.asked

pub returns-in-Some-clause-waits : goal.returns-in-Some-clause-waits
returns-in-Some-clause-waits g c =
    answered_silent (line_by g.P.Protocol.protocol g.P.LineProtocol.silent g.P.Protocol.heading (meaning_of g.L.Ends.input g.L.Ends.output g.L.Ends.line) g.L.PolledLink.not_ready g.L.IdleLink.looks)
    c.args.silences c.silences._told c.silences.is_noisy c.args.link.now c.silences.link c.poll.new.link c.args.call.now.call c.silences.call.call c.poll.new.self.call c.fall_silent.new.self.call c.in-Some.answer
    c.silences.invariant.going c.in-Pending.ensures.polled (some_counted c.poll.new.self.call.held c.held.result c.held.ensures c.if-held-gt0.true) c.in-Some.ensures.silent

pub silences-preserved : goal.silences-preserved
silences-preserved g c =
    let line = c.in-Pending.ensures.line ∙ c.silences.invariant.line in
    elim c.if-held-gt0.branch [
      | then-held-gt0+in_default w ↦ rw (w.call-is, w.is_noisy-is) (record {
        going = goes_noisy (line_by g.P.Protocol.protocol g.P.LineProtocol.silent g.P.Protocol.heading (meaning_of g.L.Ends.input g.L.Ends.output g.L.Ends.line) g.L.PolledLink.not_ready g.L.IdleLink.looks)
            c.silences._told c.silences.is_noisy c.args.link.now c.silences.link c.poll.new.link c.args.call.now.call c.silences.call.call c.poll.new.self.call w.fall_silent.new.self.call
            c.silences.invariant.going c.in-Pending.ensures.polled (some_counted c.poll.new.self.call.held c.held.result c.held.ensures w.if-held-gt0.true)
            (subst (λ answer. CallSilenced g.P.Protocol.protocol g.P.LineProtocol.silent c.poll.new.self.call w.fall_silent.new.self.call answer) w.in_default.is w.fall_silent.ensures.silent);
        goes_on = w.fall_silent.ensures.open ∙ ap (λ answer. not (is_some answer)) w.in_default.is;
        line = line;
      })
      | else-held-gt0 w ↦ rw (w.call-is, w.is_noisy-is) (record {
        going = goes_calm (line_by g.P.Protocol.protocol g.P.LineProtocol.silent g.P.Protocol.heading (meaning_of g.L.Ends.input g.L.Ends.output g.L.Ends.line) g.L.PolledLink.not_ready g.L.IdleLink.looks)
            c.silences._told c.silences.is_noisy c.args.link.now c.silences.link c.poll.new.link c.args.call.now.call c.silences.call.call c.poll.new.self.call
            c.silences.invariant.going c.in-Pending.ensures.polled (none_counted c.poll.new.self.call.held c.held.result c.held.ensures w.if-held-gt0.false);
        goes_on = c.in-Pending.ensures.open;
        line = line;
      })
    ]

pub returns-clause-waits : goal.returns-clause-waits
returns-clause-waits g c =
    let all = c.silences-test.false in
    let some = c.requires.some in
    let most = c.silences.auto._told-end in
    subst (λ fault. WaitsFor (line_by g.P.Protocol.protocol g.P.LineProtocol.silent g.P.Protocol.heading (meaning_of g.L.Ends.input g.L.Ends.output g.L.Ends.line) g.L.PolledLink.not_ready g.L.IdleLink.looks) c.args.silences c.args.link.now c.silences.link c.args.call.now.call c.silences.call.call (Err (Transport fault))) (sym c.given_up.ensures)
    (gives_up (line_by g.P.Protocol.protocol g.P.LineProtocol.silent g.P.Protocol.heading (meaning_of g.L.Ends.input g.L.Ends.output g.L.Ends.line) g.L.PolledLink.not_ready g.L.IdleLink.looks) c.args.silences c.silences._told c.silences.is_noisy c.args.link.now c.silences.link c.args.call.now.call c.silences.call.call
    c.silences.invariant.going (omega (arith, all, some)) (omega (arith, most)) (omega (arith, all)))
