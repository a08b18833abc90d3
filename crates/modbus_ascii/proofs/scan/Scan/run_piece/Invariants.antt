use Rattle.std.proofs.Common.{◌≡◌, ℕ, ◌+◌, ◌-◌, ◌≤◌, List, ◌++◌, length, take}
use Rattle.modbus_ascii.specs.Scan.{HasSeen}
use Rattle.modbus_ascii.proofs.scan.Scan.run_piece.Given as goal

abbrev pub invariant-loop-self : goal.invariant-loop-self
invariant-loop-self l =
    (l.taken ≤ length l.piece) × (l.self.fed ≡ l.initial.self.fed + l.taken)
    × ((seen : List ℕ) → HasSeen seen l.initial.self → HasSeen (seen ++ take l.taken l.piece) l.self)

abbrev pub decreases-loop-self : goal.decreases-loop-self
decreases-loop-self l = length l.piece - l.taken
