use Rattle.std.proofs.Common.{◌∙◌, ◌*◌, ◌/◌, length, sym, ap}
use Rattle.modbus_files.specs.Files.{group_size, group_of, one_more}
use Rattle.modbus_files.proofs.Telling.{went_on, stopped, tells_not, step, stop, left_whole}
use Rattle.modbus_files.proofs.files.Files.tell_all.Goals as goal

pub returns-in-Err : goal.returns-in-Err
returns-in-Err c =
    let it = c.args.self.now in
    let bytes = c.args.groups.now in
    let same = c.group_of.ensures ∙ ap group_of (left_whole bytes (group_size * c.loop-at.at)) in
    tells_not _ c.in-Err.code c.tell.new.told.items
    (c.loop-at.invariant ∙ stop it bytes (length bytes / group_size) c.loop-at.at c.loop-at.told.items c.in-Err.code c.loop-at-test.true
    (ap (one_more it c.loop-at.told.items) (sym same) ∙ stopped _ c.in-Err.code c.tell.new.told.items c.in-Err.ensures))

pub loop-at-preserved : goal.loop-at-preserved
loop-at-preserved c =
    let it = c.args.self.now in
    let bytes = c.args.groups.now in
    let same = c.group_of.ensures ∙ ap group_of (left_whole bytes (group_size * c.loop-at.at)) in
    c.loop-at.invariant ∙ step it bytes (length bytes / group_size) c.loop-at.at c.loop-at.told.items c.tell.new.told.items c.loop-at-test.true
    (ap (one_more it c.loop-at.told.items) (sym same) ∙ went_on _ c.tell.new.told.items c.in-Ok.ensures)
