-- What a link over TCP keeps that is looked at.
use Rattle.std.specs.Prelude.{ℕ}
use Rattle.modbus_link.specs.Tcp.{TcpState, tcp_at_start}

pub record WatchedState : Type 0 where
  pub link : TcpState
  -- how many looks found nothing; it stays at the last number of a counter
  pub looks : ℕ

-- a link that nothing was done to
abbrev pub watched_at_start : WatchedState
watched_at_start = record { link = tcp_at_start; looks = 0 }
