use Rattle.std.proofs.Common.{rules, ◌<◌, ◌≤◌}
use Rattle.std.proofs.Output.{has_written_append, has_written_of_eq}
use Rattle.modbus_map.proofs.LastDigits.{one_more, all}
use Rattle.modbus_map.proofs.decimal_text.LastDigitsDisplay.fmt.Goals as goal

pub loop-i-preserved : goal.loop-i-preserved
loop-i-preserved g c = λ p.
    let less : c.loop-i.i < c.args.self.now.places = search rules in
    let value = c.digit_at-digit.ensures.value in
    has_written_of_eq _ _ _ _ _ (one_more c.args.self.now.places c.loop-i.i c.args.self.now.number c.digit_at-digit.result less value c.digit_at-digit.ensures.below)
    (has_written_append _ _ _ _ _ _ (c.loop-i.invariant p) (search rules))

pub returns-clause-writes : goal.returns-clause-writes
returns-clause-writes g c = λ p ok.
    let done : c.args.self.now.places ≤ c.loop-i.i = search rules in
    has_written_of_eq _ _ _ _ _ (all c.args.self.now.places c.loop-i.i c.args.self.now.number done) (c.loop-i.invariant p)
