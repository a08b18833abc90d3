-- What a spawner does that turns away the links that no worker can be started for.
use Rattle.std.specs.Prelude.{◌≡◌, ◌⊎◌, ℕ, Result, Ok, Err}
use Rattle.modbus_link.specs.declared.outside.Failed.{Failed}
use Rattle.modbus_link.specs.Memory.{next_count}

-- such a spawner: the one that starts its workers, how many it was given, and how many of these it turned away
pub record TurningState (P : Type 0) : Type 0 where
  pub spawner : P
  pub taken : ℕ
  pub turned : ℕ

-- It never fails: the worker was started; or it could not be, was dropped, and is counted as turned away.
abbrev pub StartsOrTurns : {P W : Type 0} → (P → W → Result (Unit {0}) Failed → P → Type 0) → TurningState P → W → Result (Unit {0}) Failed → TurningState P → Type 0
StartsOrTurns starts old worker result new = (result ≡ Ok tt) × (new.taken ≡ next_count old.taken)
    × ((starts old.spawner worker (Ok tt) new.spawner × (new.turned ≡ old.turned))
    ⊎ ((failed : Failed) × starts old.spawner worker (Err failed) new.spawner × (new.turned ≡ next_count old.turned)))
