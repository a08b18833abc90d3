use Rattle.std.proofs.Common.{drop, ◌++◌, sym, ap, ◌∙◌, arith}
use Rattle.std.proofs.lemmas.List.{take-append-drop, append-nil, take_rest}
use Rattle.std.proofs.lemmas.Result.{err_from_is_err_and}
use Rattle.std.proofs.Math.Seq.{take-add}
use Rattle.std.proofs.lemmas.Grind.{common_steps}
use Rattle.modbus_link.specs.Runs.{Extends-both, appended_more}
use Rattle.modbus_link.proofs.write.write_all.Goals as goal

pub returns-in_err-at-clause-front : goal.returns-in_err-at-clause-front
returns-in_err-at-clause-front g c =
    let p = err_from_is_err_and c.from_residual.result c.from_residual.ensures.1 in
    rw p.1 (λ told. (
      drop c.loop-at.at c.args.bytes.now,
      sym (take-append-drop c.loop-at.at c.args.bytes.now)
          ∙ ap (λ front. front ++ drop c.loop-at.at c.args.bytes.now) (sym
          (appended_more _ _ _ _ _ c.loop-at.invariant.sink c.in_err-at.ensures.sink c.loop-at.invariant.bytes c.in_err-at.ensures.told told
          ∙ append-nil _)),
    ))

pub loop-at-preserved : goal.loop-at-preserved
loop-at-preserved g c = record {
  within = grind (arith, common_steps);
  sink = Extends-both _ _ _ c.loop-at.invariant.sink c.in_ok-at.ensures.sink;
  bytes = λ told.
      appended_more _ _ _ _ _ c.loop-at.invariant.sink c.in_ok-at.ensures.sink c.loop-at.invariant.bytes c.in_ok-at.ensures.told told
      ∙ rw take_rest (sym (take-add c.loop-at.at c.in_ok-at.field-0 c.args.bytes.now));
  source = c.in_ok-at.ensures.source ∙ c.loop-at.invariant.source;
}
