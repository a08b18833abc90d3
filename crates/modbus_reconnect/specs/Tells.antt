-- What a client of a line does with a request that no slave replies to (MODBUS over Serial Line V1.02, section 2.1).
use Rattle.std.specs.Prelude.{◌≡◌, ◌↔◌, ℕ, ◌<◌, Bool, true, false, not, List, [], length, Result, Ok, Err, IfErr, IsTrue}
use Rattle.modbus_link.specs.Outside.{outside, Rose, IsFront}
use Rattle.modbus_link.specs.Passes.{Passes}
use Rattle.modbus_frame.specs.Meaning.{Asked}
use Rattle.modbus_frame.specs.Stage.{error_stage}
use Rattle.modbus_frame.specs.declared.fault.Error.{Error}
use Rattle.modbus_frame.specs.declared.fault.Error.TheVariants.{Transport, NoMemory}
use Rattle.modbus_frame.specs.declared.fault.TransportError.TheVariants as transport
use Rattle.modbus_pdu.specs.Encodes.{told_size}
use Rattle.modbus_pdu.specs.Limits.{max_pdu}
use Rattle.modbus_pdu.specs.RequestPdu.{request_pdu}
use Rattle.modbus_client.specs.Matches.{Answer}
use Rattle.modbus_reconnect.specs.Owes.{settles}
use Rattle.modbus_reconnect.specs.Settles.{RoseBy}
use Rattle.modbus_reconnect.specs.SettleState.{SettlingState, LineMeaning}
use Rattle.modbus_reconnect.specs.OnLine.{OwesNothing, reply_silences, ClearsIf, IsStanding}

-- what is told of a request that is only sent, by the answer of a call that may make no read: with the request written its turns are over
abbrev pub told_of_answer : Answer → Result (Unit {0}) Error
told_of_answer (Ok result) = Ok tt
told_of_answer (Err (Transport transport.TurnLimit)) = Ok tt
told_of_answer (Err error) = Err error

-- By what is told, how much of the request was written: the whole; nothing of one that is too long; else a front of it.
abbrev pub WritesQuestion : List ℕ → List ℕ → Result (Unit {0}) Error → Type 0
WritesQuestion request written (Ok done) = written ≡ request
WritesQuestion request written (Err (Transport (transport.RequestTooLong size))) = written ≡ []
WritesQuestion request written (Err error) = IsFront written request

-- why a request was not sent whole: it is too long, a write failed, no more was taken, or memory was refused
abbrev pub IsOfTelling : Error → Type 0
IsOfTelling (Transport (transport.RequestTooLong size)) = Unit {0}
IsOfTelling (Transport transport.WriteFault) = Unit {0}
IsOfTelling (Transport transport.ReadFault) = Unit {0}
IsOfTelling NoMemory = Unit {0}
IsOfTelling _ = ⊥

-- A request was sent, these bytes of it, and no read gave a byte.
pub record TellsLine {H I L : Type 0} (m : LineMeaning H I L) (silences : ℕ) (header : H) (asked : Asked) (before after : L) (told : Result (Unit {0}) Error) : Type 0 where
  pub sent : List ℕ
  pub passes : Passes (outside (m.link.input before) (m.link.output before)) (outside (m.link.input after) (m.link.output after)) [] [] sent
  pub only : IfErr told IsOfTelling
  pub writes : WritesQuestion (m.protocol.adu header (request_pdu asked)) sent told
  -- a request is too long exactly where its PDU is
  pub too_long : (size : ℕ) → (told ≡ Err (Transport (transport.RequestTooLong size))) ↔ ((max_pdu < length (request_pdu asked)) × (size ≡ told_size (request_pdu asked)))
  pub write_fault : told ≡ Err (Transport transport.WriteFault) → Rose (m.link.output before).faults (m.link.output after).faults
  pub no_more : told ≡ Err (Transport transport.ReadFault) → RoseBy silences (m.silences before) (m.silences after)

-- After a request that was sent, or may have been, the line is in doubt: a slave may reply that should not.
abbrev pub is_doubtful_after : Result (Unit {0}) Error → Bool
is_doubtful_after (Ok done) = true
is_doubtful_after (Err error) = not (settles (error_stage error))

-- a request was sent, whole
abbrev pub is_sent : Result (Unit {0}) Error → Bool
is_sent (Ok done) = true
is_sent (Err error) = false

-- A request is sent under the header that comes next. After one that was sent whole the line has the turnaround delay to be silent.
pub record TellsOn {H I L : Type 0} (m : LineMeaning H I L) (old : SettlingState I L) (asked : Asked) (told : Result (Unit {0}) Error) (new : SettlingState I L) : Type 0 where
  pub tells : TellsLine m (reply_silences old) (m.heading.header old.ids old.settings.slave) asked old.link new.link told
  pub line : m.link.line new.link ≡ m.link.line old.link
  pub rest : new ≡ record old { link = new.link; in_doubt = is_doubtful_after told; is_turning = is_sent told; ids = m.heading.next old.ids }

-- One request that a client of a line only sends.
pub data SendsOnLine {H I L : Type 0} (m : LineMeaning H I L) (old : SettlingState I L) (asked : Asked) (told : Result (Unit {0}) Error) (new : SettlingState I L) : Type 0 where
  -- a disconnected client does nothing
  unconnected : old.is_connected ≡ false → told ≡ Err (Transport transport.NotConnected) → new ≡ old → SendsOnLine m old asked told new
  -- on a line that does not settle nothing is sent
  unsettled : IsTrue old.is_connected → told ≡ Err (Transport transport.NotConnected) → ClearsIf false m old new → SendsOnLine m old asked told new
  -- nothing is owed on the line that the request is sent on
  sends : IsTrue old.is_connected → (clear : SettlingState I L) → ClearsIf true m old clear → (IsStanding m old → OwesNothing m clear.link)
      → TellsOn m clear asked told new → SendsOnLine m old asked told new

-- The same, and what stands before it stands after it, as with a call.
pub record SendsStanding {H I L : Type 0} (m : LineMeaning H I L) (old : SettlingState I L) (asked : Asked) (told : Result (Unit {0}) Error) (new : SettlingState I L) : Type 0 where
  pub does : SendsOnLine m old asked told new
  pub stands : IsStanding m old → IsStanding m new
