-- What a client keeps between its calls.
use Rattle.std.specs.Prelude.{◌≡◌, ℕ, Bool, true, Option, None, List, []}
use Rattle.std.specs.declared.time.Duration.{Duration}
use Rattle.modbus_client.specs.Limits.{default_turns}
use Rattle.modbus_client.specs.Protocol.{Heading}

pub record ClientState (Ids L : Type 0) : Type 0 where
  -- a disconnected client keeps its link, unused
  pub link : L
  pub is_connected : Bool
  -- the slave that requests go to
  pub slave : ℕ
  -- how many reads of a call may give bytes
  pub turns : ℕ
  pub timeout : Option Duration
  -- the bytes that were read and not used
  pub held : List ℕ
  -- what its protocol keeps between its calls, as the transaction that comes next
  pub ids : Ids
  -- how many messages of other requests its last call dropped
  pub dropped : ℕ

-- what only its own calls set
pub record KeepsSettings {I L : Type 0} (old new : ClientState I L) : Type 0 where
  pub slave : new.slave ≡ old.slave
  pub turns : new.turns ≡ old.turns
  pub timeout : new.timeout ≡ old.timeout

-- a client as it is attached to a link
abbrev pub attached_client : {H I L : Type 0} → Heading H I → L → ℕ → ClientState I L
attached_client N link slave = record { link = link; is_connected = true; slave = slave; turns = default_turns; timeout = None; held = []; ids = N.first; dropped = 0 }

-- the header of its next request
abbrev pub next_header : {H I L : Type 0} → Heading H I → ClientState I L → H
next_header N client = N.header client.ids client.slave

-- the same client after it drew that header, under which nothing was dropped yet
abbrev pub with_next_header : {H I L : Type 0} → Heading H I → ClientState I L → ClientState I L
with_next_header N client = record client { ids = N.next client.ids; dropped = 0 }
