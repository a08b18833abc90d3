use Rattle.std.proofs.Common.{◌≡◌, true}
use Rattle.std.proofs.lemmas.List.Elements.{All-push}
use Rattle.modbus_map.specs.Sound.{is_sound}
use Rattle.modbus_map.specs.declared.point.Point.{Point}
use Rattle.modbus_map.proofs.file.device.add_point.Goals as goal

pub returns-in-Ok : goal.returns-in-Ok
returns-in-Ok c =
    rw c.in-Ok.ensures.items (All-push (λ (point : Point). is_sound c.args.most point ≡ true) c.args.points.now.items c.in_ok-point.point c.requires c.in_ok-point.ensures)
