use Rattle.std.proofs.Common.{◌≡◌, ◌-◌, ◌++◌, ◌∙◌, [], length, take, drop, ap, arith, length-drop, length-take, append-nil}
use Rattle.std.proofs.lemmas.List.{drop_all}
use Rattle.modbus_field.proofs.BurstPieces.{goes_behind, came_within, came_front}
use Rattle.modbus_field.proofs.burst.link.poll_next.Goals as goal

pub returns-then-count-room-clause-goes_on : goal.returns-then-count-room-clause-goes_on
returns-then-count-room-clause-goes_on g c =
    let room = c.args.room.now in
    let after = c.poll_counted.new.room in
    let p = c.poll_counted.ensures in
    let none : drop (length room - c.args.count) (drop c.args.count room) ≡ [] = drop_all (length room - c.args.count) (drop c.args.count room) (omega (arith, length-drop c.args.count room)) in
    let size : length after ≡ length room - c.args.count = (let auto = c.poll_counted.auto.room in omega (arith, auto, length-take (length room - c.args.count) (drop c.args.count room), length-drop c.args.count room)) in
    goes_behind _ _ c.args.count room after _ c.poll_counted.result p.source c.requires size (came_within c.poll_counted.result after p.bound)
    (λ told. (p.told told).bytes ∙ came_front c.poll_counted.result after)
    (ap (λ tail. take c.args.count room ++ (after ++ tail)) none ∙ ap (λ tail. take c.args.count room ++ tail) (append-nil after))
