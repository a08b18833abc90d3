-- What a link in memory keeps that can be looked at.
use Rattle.std.specs.Prelude.{ℕ, List}
use Rattle.modbus_link.specs.Line.{LinkState}

pub record IdleState : Type 0 where
  pub link : LinkState
  -- the totals of its input, in bytes, at which a look finds what is there
  pub early : List ℕ
  -- how many looks found nothing; it stays at the last number of a counter
  pub looks : ℕ

-- one that was not looked at
abbrev pub idle_at_start : LinkState → List ℕ → IdleState
idle_at_start link early = record { link = link; early = early; looks = 0 }
