use Rattle.std.specs.List.{AllPass}
use Rattle.modbus_map.specs.Sound.{is_sound}
use Rattle.modbus_map.proofs.file.device.add_points.Given as goal

abbrev pub invariant-loop-value : goal.invariant-loop-value
invariant-loop-value l = AllPass (is_sound l.most) l.points.items
