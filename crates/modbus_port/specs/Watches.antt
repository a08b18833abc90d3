-- What the links of a listener are that end with it.
use Rattle.std.specs.Prelude.{◌≡◌, Some, Result, IfOk}
use Rattle.std.specs.Duration.{as_nanos}
use Rattle.std.specs.declared.net.SocketAddr.{SocketAddr}
use Rattle.std.specs.declared.time.Duration.{Duration}
use Rattle.modbus_link.specs.declared.outside.Failed.{Failed}
use Rattle.modbus_link.specs.Listens.{Tally, tally_after}
use Rattle.modbus_link.specs.Tcp.{TcpState, tcp_at_start}

-- a link as it was, but that each read and write of it ends within a second
abbrev pub IsWatched : TcpState → TcpState → Type 0
IsWatched link watched = (limit : Duration) × (as_nanos limit ≡ 1000000000) × (watched ≡ record link { line = record link.line { timeout = Some limit } })

-- one accept: such a link over a connection that was just made, or a fault; either is counted
abbrev pub AcceptsWatched : Tally → Result (TcpState × SocketAddr) Failed → Tally → Type 0
AcceptsWatched old result new =
    IfOk result (λ accepted. IsWatched tcp_at_start accepted.0) × (new ≡ tally_after result old)
