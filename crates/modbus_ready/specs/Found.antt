-- What a source of readiness was asked, and what it found.
use Rattle.std.specs.Prelude.{ℕ, List, [], Option, None}
use Rattle.modbus_ready.specs.declared.readiness.Ready.{Ready}

pub record ReadinessState : Type 0 where
  -- how often it failed, up to the last number of a counter
  pub faults : ℕ
  -- what its last wait found
  pub found : List Ready
  -- the key of the link that it was told to watch last
  pub watched : Option ℕ
  -- how many nanoseconds its last wait was to take at most; any time, where none
  pub patience : Option ℕ

-- one that did not wait yet
abbrev pub nothing_found : ReadinessState
nothing_found = record { faults = 0; found = []; watched = None; patience = None }
