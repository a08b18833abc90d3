use Rattle.std.proofs.Common.{◌+◌, ◌-◌, ◌<◌, ◌≤◌, [], ◌∷◌, ◌++◌, length, drop, take, refl, sym, subst, ap, ◌∙◌, arith, length-drop}
use Rattle.modbus_pdu.specs.Message.{message}
use Rattle.modbus_field.specs.Bursts.{Heard}
use Rattle.modbus_c.specs.Layout.{laid}
use Rattle.modbus_c.specs.Line.{HearsEach}
use Rattle.modbus_c.proofs.Dropping.{rest_of}
use Rattle.modbus_c.proofs.Hearing.{heard_more, said_more, said_all}
use Rattle.modbus_c.proofs.line.hear_burst.Goals as goal

pub messages-preserved : goal.messages-preserved
messages-preserved g c =
    let burst = c.args.burst.now in let start = c.messages.start in let end = c.message_in-end.result.2 in
    let (ms, so_far, heard) = c.messages.invariant.heard in
    let it : Heard = message c.message_in-end.result.0 c.message_in-end.result.1.now in
    let same = rest_of burst start in
    let some : 0 < length (take (length burst - start) (drop start burst)) = omega (arith, ap length same, length-drop start burst, c.messages-test.true) in
    record {
      within = omega (arith, c.message_in-end.ensures.within, c.messages.invariant.within, ap length same, length-drop start burst);
      heard = (
        ms ++ it ∷ [],
        said_more burst (take (length burst - start) (drop start burst)) start end (start + end) ms it same refl so_far (c.message_in-end.ensures.says some),
        heard_more g.U.LineUnit.units c.args.units.now [] ms it c.messages.units c.hear.new.units c.messages.reply.items c.hear.new.reply.items heard c.in-Ok.ensures.hears,
      );
      room = c.hear.ensures.room;
      most = c.hear.ensures.most;
    }

pub returns : goal.returns
returns g c =
    let (ms, so_far, heard) = c.messages.invariant.heard in
    let reply = c.messages.reply.items in
    let fits : c.len.result ≤ length c.args.output.now = omega (arith, c.len.ensures.value, c.messages.invariant.most, c.requires.room) in
    record {
      hears = (
        reply,
        subst (λ xs. HearsEach g.U.LineUnit.units c.args.units.now [] xs c.messages.units reply) (sym (said_all c.args.burst.now c.messages.start ms (omega (arith, c.messages-test.false)) so_far)) heard,
        (c.put_front.ensures ∙ ap (λ xs. laid xs c.args.output.now) c.as_slice.ensures, c.len.ensures.value, fits),
      );
    }
