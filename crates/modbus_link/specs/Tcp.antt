-- What a link over a TCP stream keeps.
use Rattle.std.specs.Prelude.{ℕ}
use Rattle.modbus_link.specs.Line.{Line, line_at_start}

pub record TcpState : Type 0 where
  -- how many of its reads failed, and how many of its writes; both stay at the last number of a counter
  pub read_faults : ℕ
  pub write_faults : ℕ
  pub line : Line

-- a link that nothing was done to
abbrev pub tcp_at_start : TcpState
tcp_at_start = record { read_faults = 0; write_faults = 0; line = line_at_start }
