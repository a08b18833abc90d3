-- What a connector in memory keeps, and what it does.
use Rattle.std.specs.Prelude.{◌≡◌, ℕ, Option, Some, None, Result, Ok, Err}
use Rattle.modbus_link.specs.declared.outside.Failed.{Failed}
use Rattle.modbus_link.specs.Memory.{next_count}

pub record ConnectorState (L : Type 0) : Type 0 where
  -- the link that it will give
  pub link : Option L
  -- how often it failed; it stays at the last number of a counter
  pub faults : ℕ

-- It gives the link that it has, and none is left; it fails, which it counts, exactly where it has none.
abbrev pub ConnectsOnce : {L : Type 0} → ConnectorState L → Result L Failed → ConnectorState L → Type 0
ConnectsOnce old (Ok link) new = (old.link ≡ Some link) × (new ≡ record old { link = None })
ConnectsOnce old (Err failed) new = (old.link ≡ None) × (new ≡ record old { faults = next_count old.faults })
