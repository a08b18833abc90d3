-- How a line of text is told.
use Rattle.std.specs.Prelude.{◌≡◌, ℕ, List, IsTrue}
use Rattle.modbus_link.specs.Outside.{Output, Rose, Extends, bytes_appended, IsFront}

-- A line was written, or a front of it where the sink failed. What stood there before stays.
pub record Reports (said told : Output) (line : List ℕ) : Type 0 where
  pub grows : Extends said told
  pub front : IsTrue said.told → IsFront (bytes_appended said told) line
  pub whole : IsTrue said.told → (Rose said.faults told.faults → ⊥) → bytes_appended said told ≡ line
