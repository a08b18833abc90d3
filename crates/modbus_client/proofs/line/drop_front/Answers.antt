use Rattle.std.proofs.Common.{◌+◌, refl, sym, ap, subst, ◌∙◌, arith}
use Rattle.modbus_client.specs.declared.line.Step.TheVariants.{Past}
use Rattle.modbus_client.specs.LineReading.{behind, read_from, StepsAs}
use Rattle.modbus_client.proofs.LineReads.{behind_none, behind_both}
use Rattle.modbus_client.proofs.line.drop_front.Goals as goal

pub front-init : goal.front-init
front-init g c = (0, sym (behind_none _), refl)

pub front-preserved : goal.front-preserved
front-preserved g c =
    let judge = g.J.Judge.verdict c.args.asked in
    let (others, reads, tells) = c.front.invariant in
    let (some, fits, steps) = subst (λ b. StepsAs judge c.args.asked b (Past c.in-Past.end c.in-Past.others)) c.as_slice.ensures c.in-Past.ensures in (
      others + c.in-Past.others,
      reads ∙ ap (behind others) (steps ∙ ap (λ b. behind c.in-Past.others (read_from judge c.args.asked 0 b)) (sym c.advance.ensures.items)) ∙ behind_both others c.in-Past.others _,
      omega (arith, c.saturating_add-dropped.ensures, tells),
    )
