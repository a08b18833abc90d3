-- What a call writes.
use Rattle.std.specs.Prelude.{◌≡◌, ℕ, Bool, true, false, List, [], Result, Err}
use Rattle.modbus_link.specs.Outside.{IsFront}
use Rattle.modbus_frame.specs.declared.fault.Error.{Error}
use Rattle.modbus_frame.specs.declared.fault.Error.TheVariants.{Transport, NoMemory}
use Rattle.modbus_frame.specs.declared.fault.TransportError.TheVariants as transport

-- By the answer of a call, how much of its request was written: nothing where it was refused; a front of it where a write failed or
-- memory was refused; else the whole.
abbrev pub WritesRequest : {X : Type 0} → List ℕ → List ℕ → Result X Error → Type 0
WritesRequest request written (Err (Transport transport.NotConnected)) = written ≡ []
WritesRequest request written (Err (Transport (transport.RequestTooLong size))) = written ≡ []
WritesRequest request written (Err (Transport transport.WriteFault)) = IsFront written request
WritesRequest request written (Err NoMemory) = IsFront written request
WritesRequest request written _ = written ≡ request

-- a client is disconnected by a write fault, and by no other answer of a call
abbrev pub stays_connected : {X : Type 0} → Result X Error → Bool
stays_connected (Err (Transport transport.WriteFault)) = false
stays_connected _ = true

-- the errors of sending
abbrev pub IsOfSending : Error → Type 0
IsOfSending (Transport (transport.RequestTooLong size)) = Unit {0}
IsOfSending (Transport transport.WriteFault) = Unit {0}
IsOfSending NoMemory = Unit {0}
IsOfSending _ = ⊥
