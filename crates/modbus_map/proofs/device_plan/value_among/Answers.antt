use Rattle.std.proofs.Common.{◌≡◌, ◌≤◌, Bool, true, None, Some, get_or, ◌∙◌, sym, ap, subst, arith}
use Rattle.std.specs.Prelude.{IfOk, slice_get}
use Rattle.std.specs.List.{position}
use Rattle.std.proofs.lemmas.List.Quantifiers.{position-Some}
use Rattle.std.proofs.lemmas.Option.{slice_get-get_or}
use Rattle.std.proofs.lemmas.Bool.Decides.{nat_tests}
use Rattle.modbus_poll.specs.declared.span.Span.{Span}
use Rattle.modbus_poll.specs.declared.read.Read.{Read}
use Rattle.modbus_poll.specs.Spans.{is_within}
use Rattle.modbus_map.specs.declared.given.Given.{Given}
use Rattle.modbus_map.specs.declared.point.Point.{Point}
use Rattle.modbus_map.specs.Gathering.{span_of, value_given, value_at, value_among}
use Rattle.modbus_map.proofs.device_plan.value_among.Goals as goal

begins : (span : Span) (read : Read) → is_within span read ≡ true → read.address ≤ span.address
begins span read e = grind (arith, nat_tests)

pub value_given-requires : goal.value_given-requires
value_given-requires c =
    let has : Given → Bool = λ one. is_within (span_of c.args.point.now) one.read in
    let e : position has c.args.given.now ≡ Some c.in-Some.place =
    sym (ap (λ (span : Span). position (λ (one : Given). is_within span one.read) c.args.given.now) c.span_of-span.ensures) ∙ sym c.place_of.ensures ∙ c.in-Some.is in
    let holds = (position-Some has c.args.given.now c.in-Some.place c.index-given-place.result e).1 in
    begins (span_of c.args.point.now) c.index-given-place.result.read
    (subst (λ (one : Given). is_within (span_of c.args.point.now) one.read ≡ true) (sym c.index-given-place.is) holds)

pub returns-in-Some : goal.returns-in-Some
returns-in-Some c =
    let has : Given → Bool = λ one. is_within (span_of c.args.point.now) one.read in
    let e : position has c.args.given.now ≡ Some c.in-Some.place =
    sym (ap (λ (span : Span). position (λ (one : Given). is_within span one.read) c.args.given.now) c.span_of-span.ensures) ∙ sym c.place_of.ensures ∙ c.in-Some.is in
    let less = (position-Some has c.args.given.now c.in-Some.place c.index-given-place.result e).0 in
    let got : slice_get c.args.given.now c.in-Some.place ≡ Some c.index-given-place.result =
    slice_get-get_or c.args.given.now c.in-Some.place c.index-given-place.result less ∙ ap Some (sym c.index-given-place.is) in
    let same : value_among c.args.given.now c.args.point.now ≡ value_given c.args.point.now c.index-given-place.result =
    ap (value_at c.args.point.now c.args.given.now) e ∙ ap (λ found. elim found [ None ↦ None | Some one ↦ value_given c.args.point.now one ]) got in
    subst (λ v. IfOk c.value_given.result (λ told. told ≡ v)) (sym same) c.value_given.ensures
