use Rattle.std.proofs.Common.{◌≡◌, ◌-◌, ◌+◌, ◌∙◌, sym, ap, arith}
use Rattle.modbus_files.specs.Files.{most_groups, checked}
use Rattle.modbus_files.proofs.Telling.{left_whole}
use Rattle.modbus_files.proofs.Writing.{checks_all, checks_on, checks_not, checks_too_many}
use Rattle.modbus_files.proofs.files.Files.check.Goals as goal

pub returns-then-is_empty : goal.returns-then-is_empty
returns-then-is_empty c =
    sym (c.loop-at.invariant ∙ checks_all (most_groups - c.loop-at.at) c.args.self.now c.loop-at.rest.now (sym c.is_empty.ensures ∙ c.if-is_empty.true))

pub returns-in-Err : goal.returns-in-Err
returns-in-Err c =
    sym (c.loop-at.invariant ∙ checks_not most_groups c.loop-at.at c.loop-at-test.true c.args.self.now c.loop-at.rest.now (sym c.is_empty.ensures ∙ c.if-is_empty.false)
    c.in-Err.code (sym c.in-Err.ensures))

pub loop-at-preserved : goal.loop-at-preserved
loop-at-preserved c =
    c.loop-at.invariant ∙ checks_on most_groups c.loop-at.at c.loop-at-test.true c.args.self.now c.loop-at.rest.now (sym c.is_empty.ensures ∙ c.if-is_empty.false)
    c.in-Ok.size (sym c.in-Ok.ensures)
    ∙ ap (checked (most_groups - (c.loop-at.at + 1)) c.args.self.now) (sym (left_whole c.loop-at.rest.now c.in-Ok.size))

pub returns-then-is_empty-2 : goal.returns-then-is_empty-2
returns-then-is_empty-2 c =
    sym (c.loop-at.invariant ∙ checks_all (most_groups - c.loop-at.at) c.args.self.now c.loop-at.rest.now (sym c.is_empty-2.ensures ∙ c.if-is_empty-2.true))

pub returns-else-is_empty-2 : goal.returns-else-is_empty-2
returns-else-is_empty-2 c =
    let none : most_groups - c.loop-at.at ≡ 0 = omega (arith, c.loop-at-test.false) in
    sym (c.loop-at.invariant ∙ ap (λ k. checked k c.args.self.now c.loop-at.rest.now) none
    ∙ checks_too_many c.args.self.now c.loop-at.rest.now (sym c.is_empty-2.ensures ∙ c.if-is_empty-2.false))
