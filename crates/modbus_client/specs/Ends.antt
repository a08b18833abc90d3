-- What a disconnection and a timeout do. Neither reads or writes.
use Rattle.std.specs.Prelude.{◌≡◌, false, Option, IsTrue, Result, Ok}
use Rattle.std.specs.declared.time.Duration.{Duration}
use Rattle.modbus_link.specs.Line.{LinkMeaning, KeepsEnds, Shuts}
use Rattle.modbus_frame.specs.declared.fault.ShutdownFault.{ShutdownFault}
use Rattle.modbus_client.specs.State.{ClientState}

-- The client is disconnected in any case, and keeps all else. The link of one that was connected is shut down, with the same result: it
-- has its timeout then, and a count of shutdown faults that never falls. One that was not connected stays as it is.
pub record Disconnected {I L : Type 0} (M : LinkMeaning L) (old : ClientState I L) (result : Result (Unit {0}) ShutdownFault) (new : ClientState I L) : Type 0 where
  pub rest : new ≡ record old { link = new.link; is_connected = false }
  pub ends : KeepsEnds M old.link new.link
  pub shut : IsTrue old.is_connected → Shuts (M.line old.link) result (M.line new.link)
  pub again : old.is_connected ≡ false → (new ≡ old) × (result ≡ Ok tt)

-- The timeout is kept, and set on the link of a connected client, which stays as it was otherwise.
pub record Limited {I L : Type 0} (M : LinkMeaning L) (old : ClientState I L) (duration : Option Duration) (new : ClientState I L) : Type 0 where
  pub rest : new ≡ record old { link = new.link; timeout = duration }
  pub ends : KeepsEnds M old.link new.link
  pub set : IsTrue old.is_connected → M.line new.link ≡ record (M.line old.link) { timeout = duration }
  pub unused : old.is_connected ≡ false → new.link ≡ old.link
