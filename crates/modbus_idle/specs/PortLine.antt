-- What a serial port keeps whose silences are told by epoll.
use Rattle.std.specs.Prelude.{ℕ}

-- where it reads and where it writes, how many silences it told, and how many looks found nothing; the counts stay at the last number of a
-- counter
pub record PortState (S K : Type 0) : Type 0 where
  pub source : S
  pub sink : K
  pub silences : ℕ
  pub looks : ℕ

abbrev pub port_at_start : {S K : Type 0} → S → K → PortState S K
port_at_start source sink = record { source = source; sink = sink; silences = 0; looks = 0 }
