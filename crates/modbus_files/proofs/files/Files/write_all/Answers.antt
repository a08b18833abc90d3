use Rattle.std.proofs.Common.{◌≡◌, ◌-◌, ◌∙◌, sym, ap, arith}
use Rattle.modbus_files.specs.Files.{most_groups, group_size, written}
use Rattle.modbus_files.proofs.Telling.{left_whole}
use Rattle.modbus_files.proofs.Writing.{writes_all, goes_on, put_one, writes_not, writes_no_more}
use Rattle.modbus_files.proofs.files.Files.write_all.Goals as goal

pub returns-then-is_empty : goal.returns-then-is_empty
returns-then-is_empty c =
    sym (c.loop-at.invariant ∙ writes_all (most_groups - c.loop-at.at) c.loop-at.self c.loop-at.rest.now (sym c.is_empty.ensures ∙ c.if-is_empty.true))

pub returns-in-Err : goal.returns-in-Err
returns-in-Err c =
    sym (c.loop-at.invariant ∙ writes_not most_groups c.loop-at.at c.loop-at-test.true c.loop-at.self c.loop-at.rest.now (sym c.is_empty.ensures ∙ c.if-is_empty.false)
    _ (sym c.in-Err.ensures))

pub loop-at-preserved : goal.loop-at-preserved
loop-at-preserved c =
    let it = c.loop-at.self in
    let rest = c.loop-at.rest.now in
    c.loop-at.invariant ∙ goes_on most_groups c.loop-at.at c.loop-at-test.true it rest (sym c.is_empty.ensures ∙ c.if-is_empty.false)
    c.put.new.self _ c.in-Ok.size (sym c.in-Ok.ensures)
    (put_one it c.put.new.self rest _ c.group_of.result c.put.ensures c.group_of.ensures (left_whole rest group_size)) (left_whole rest c.in-Ok.size)

pub returns : goal.returns
returns c =
    let none : most_groups - c.loop-at.at ≡ 0 = omega (arith, c.loop-at-test.false) in
    sym (c.loop-at.invariant ∙ ap (λ k. written k c.loop-at.self c.loop-at.rest.now) none ∙ writes_no_more c.loop-at.self c.loop-at.rest.now)
