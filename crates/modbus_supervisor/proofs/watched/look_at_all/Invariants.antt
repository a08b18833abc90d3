use Rattle.std.proofs.Common.{◌≡◌, ℕ, List, ◌++◌, take, drop}
use Rattle.modbus_map.specs.Gathering.{seen_by}
use Rattle.modbus_supervisor.specs.Watched.{TellsAll}
use Rattle.modbus_supervisor.proofs.watched.look_at_all.Given as goal

abbrev pub invariant-loop-point : goal.invariant-loop-point
invariant-loop-point l =
    ((told : List ℕ) × TellsAll l.stamp (seen_by (λ v. v.items) l.given) (take l.point-index l.initial.points) told (take l.point-index l.points)
    × (l.lines.items ≡ l.initial.lines.items ++ told))
    × (drop l.point-index l.points ≡ drop l.point-index l.initial.points)
