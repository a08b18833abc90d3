-- What fails first, by places.
use Rattle.std.specs.Prelude.{ℕ, ◌≤◌}
use Rattle.modbus_server.specs.Served.{Halt, remaining}

-- Of what fails at a place: nothing does, where some bytes are left after all messages; else it is the first place where something
-- fails.
abbrev pub IsFirst : (ℕ → Halt → Type 0) → Halt → Type 0
IsFirst Fails (remaining left) = (place : ℕ) (halt : Halt) → Fails place halt → ⊥
IsFirst Fails halt = (place : ℕ) × Fails place halt × ((other : ℕ) (fault : Halt) → Fails other fault → place ≤ other)
