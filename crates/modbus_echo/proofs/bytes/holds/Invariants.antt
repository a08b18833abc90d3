use Rattle.std.proofs.Common.{ℕ, ◌<◌, drop}
use Rattle.modbus_link.specs.Outside.{IsFront}
use Rattle.modbus_echo.proofs.bytes.holds.Given as goal

-- at none of the places before do they stand
abbrev pub invariant-loop-start : goal.invariant-loop-start
invariant-loop-start l = (k : ℕ) → k < l.start → IsFront l.part (drop k l.bytes) → ⊥
