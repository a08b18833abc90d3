use Rattle.std.proofs.Common.{◌≡◌, ◌∙◌, ◌∷◌, [], drop, subst, sym}
use Rattle.modbus_pdu.specs.Message.{message}
use Rattle.modbus_field.specs.Bursts.{said}
use Rattle.modbus_field.specs.BurstFraming.{StandsFor}
use Rattle.modbus_field.proofs.Reading.{all_taken, none_held, some_held, taken_off}
use Rattle.modbus_field.proofs.burst.bursts.BurstsFraming.front.Goals as goal

pub returns-then-is_empty-clause-finds : goal.returns-then-is_empty-clause-finds
returns-then-is_empty-clause-finds c = λ bytes cuts taken s.
    let none : c.args.self.now ≡ [] = none_held c.args.self.now c.bytes_held-burst.result.now c.bytes_held-burst.ensures (sym c.is_empty.ensures ∙ c.if-is_empty.true) in
    (s, (all_taken bytes cuts taken (subst (λ held. StandsFor bytes cuts held taken) none s), none))

pub returns-clause-finds : goal.returns-clause-finds
returns-clause-finds c = λ bytes cuts taken s.
    let held = c.bytes_held-burst.ensures in
    let says = c.message_in-end.ensures.says (some_held c.args.self.now c.bytes_held-burst.result.now held (sym c.is_empty.ensures ∙ c.if-is_empty.false)) in
    taken_off bytes cuts c.args.self.now (drop c.message_in-end.result.2 c.args.self.now) taken (message c.message_in-end.result.0 c.message_in-end.result.1.now)
    (subst (λ bytes. said bytes ≡ message c.message_in-end.result.0 c.message_in-end.result.1.now ∷ said (drop c.message_in-end.result.2 bytes)) held says) s
