use Rattle.std.proofs.Common.{◌+◌, ◌∙◌, take, drop, ap, []}
use Rattle.modbus_frame.specs.declared.code.ReadCode.TheVariants.{Specific}
use Rattle.modbus_diagnostics.specs.IdentityAnswers.{objects_response}
use Rattle.modbus_diagnostics.proofs.Parts.{around}
use Rattle.modbus_diagnostics.proofs.identity.stream.one_of.Goals as goal

pub returns-in_ok-shown-in-Some : goal.returns-in_ok-shown-in-Some
returns-in_ok-shown-in-Some c =
    let objects = c.args.objects.now in
    let place = c.in-Some.place in
    let it = c.index-objects-place.result in
    record {
      before = take place objects;
      it = it;
      after = drop (place + 1) objects;
      parts = around objects place it c.in-Some.ensures.0 c.index-objects-place.is;
      is = ap (λ o. o.id) c.index-objects-place.is ∙ c.in-Some.ensures.1 it;
      tells = c.response_of.ensures ∙ ap (λ shown. objects_response Specific objects [] shown) c.in_ok-shown-in-Some.ensures;
    }
