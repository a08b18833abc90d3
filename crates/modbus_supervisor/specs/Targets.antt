-- The devices that are polled.
use Rattle.std.specs.Prelude.{ℕ, List, Option, Some, None, string_bytes}
use Rattle.modbus_map.specs.declared.device.LinkKind.{LinkKind}
use Rattle.modbus_map.specs.declared.device.LinkKind.TheVariants.{Tcp, RtuOverTcp, Serial}

-- the host of a link over Modbus TCP, with its port where one is told
abbrev pub tcp_host : LinkKind → Option (List ℕ)
tcp_host (Tcp host) = Some (string_bytes host)
tcp_host (RtuOverTcp host) = None
tcp_host (Serial path) = None
