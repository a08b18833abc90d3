use Rattle.std.proofs.Common.{◌≡◌, ◌+◌, sym, ap, ◌∙◌}
use Rattle.modbus_app.specs.Make.{next_number, number_at}
use Rattle.modbus_app.proofs.Making.{no_line, first_number, number_more, line_more}
use Rattle.modbus_app.proofs.make.frames.Goals as goal

pub loop-made-init : goal.loop-made-init
loop-made-init c = record { line = c.in_ok-frames.ensures.items ∙ sym no_line; number = sym first_number }

pub loop-made-preserved : goal.loop-made-preserved
loop-made-preserved c =
    let k = c.loop-made._made in
    let number : c.next_number-x.result ≡ number_at (k + 1) = c.next_number-x.ensures ∙ ap next_number c.loop-made.invariant.number ∙ sym (number_more k) in
    record { line = cc (line_more k, c.in_ok-push_frame.ensures, c.loop-made.invariant.line); number = number }
