use Rattle.modbus_ascii.specs.declared.decoder.Phase.TheVariants.{Digits}
use Rattle.std.proofs.Common.{◌≡◌, ◌∙◌, ◌≤◌, length, None, Some, ap, sym, arith}
use Rattle.std.proofs.lemmas.Bool.{eqb-true}
use Rattle.modbus_ascii.specs.Limits.{max_body}
use Rattle.modbus_ascii.specs.Decoder.{Reading}
use Rattle.modbus_ascii.proofs.Decoding.{kept-digits, digits-again, pair-step, half-step, full-step}
use Rattle.modbus_ascii.proofs.decoder.AsciiDecoder.take_digit.Goals as goal

pub returns-in-Some : goal.returns-in-Some
returns-in-Some c = λ fed k.
    let is : c.self.inside.phase ≡ Digits = ap (λ (r : Reading). r.phase) c.self.view_is ∙ c.requires.phase in
    digits-again _ _ _ _ is
    (pair-step fed c.self.inside.bytes.items c.push.new.self.items c.in-Some.high c.args.character c.args.value c.push.ensures.items c.requires.digit c.requires.value c.requires.below
    (kept-digits fed _ _ _ (Some c.in-Some.high) _ c.self.view_is is c.in-Some.is k))

pub returns-then-is_full : goal.returns-then-is_full
returns-then-is_full c = λ fed k.
    let is : c.self.inside.phase ≡ Digits = ap (λ (r : Reading). r.phase) c.self.view_is ∙ c.requires.phase in
    let full : max_body ≤ length c.self.inside.bytes.items = omega (arith, eqb-true _ _ (sym c.is_full.ensures.value ∙ c.if-is_full.true)) in
    full-step fed c.self.inside.bytes.items c.args.character full c.requires.digit (kept-digits fed _ _ _ None _ c.self.view_is is c.in-None.is k)

pub returns-else-is_full : goal.returns-else-is_full
returns-else-is_full c = λ fed k.
    let is : c.self.inside.phase ≡ Digits = ap (λ (r : Reading). r.phase) c.self.view_is ∙ c.requires.phase in
    digits-again _ _ _ _ is
    (half-step fed c.self.inside.bytes.items c.args.character c.args.value c.requires.digit c.requires.value (kept-digits fed _ _ _ None _ c.self.view_is is c.in-None.is k))
