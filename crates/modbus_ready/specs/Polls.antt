-- What a link over a TCP stream that does not block keeps.
use Rattle.std.specs.Prelude.{◌≡◌, ℕ, Result, Ok, Err}
use Rattle.modbus_link.specs.declared.polled.Polled.{Polled}
use Rattle.modbus_link.specs.declared.polled.Polled.TheVariants.{Ready, Pending}
use Rattle.modbus_link.specs.Memory.{faults_after}
use Rattle.modbus_link.specs.Polled.{waits_after}
use Rattle.modbus_ready.specs.declared.peered.PeerAddress.{PeerAddress}

pub record PolledTcpState : Type 0 where
  -- how many of its reads failed, how many of its writes, and how many polls found it not ready; all stay at the last number of a counter
  pub read_faults : ℕ
  pub write_faults : ℕ
  pub not_ready : ℕ
  -- the address of its peer
  pub peer : PeerAddress

-- a link of this peer that was never asked
abbrev pub polled_tcp_at_start : PeerAddress → PolledTcpState
polled_tcp_at_start peer = record { read_faults = 0; write_faults = 0; not_ready = 0; peer = peer }

-- a poll is counted by its answer alone
abbrev pub after_read : {E : Type 0} → Result (Polled ℕ) E → PolledTcpState → PolledTcpState
after_read result link = record link { read_faults = faults_after result link.read_faults; not_ready = waits_after result link.not_ready }

abbrev pub after_write : {E : Type 0} → Result (Polled ℕ) E → PolledTcpState → PolledTcpState
after_write result link = record link { write_faults = faults_after result link.write_faults; not_ready = waits_after result link.not_ready }

-- a link that was accepted was never asked
abbrev pub GivesNewLink : {E : Type 0} → Result (Polled PolledTcpState) E → Type 0
GivesNewLink (Ok (Ready link)) = link ≡ polled_tcp_at_start link.peer
GivesNewLink (Ok Pending) = Unit {0}
GivesNewLink (Err error) = Unit {0}
