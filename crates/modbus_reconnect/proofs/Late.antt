-- Why a link is kept.
use Rattle.std.proofs.Common.{◌≡◌, ◌⊎◌, inl, inr, ℕ, zero, suc, ◌-◌, ◌<◌, nat_lt, Bool, true, false, ◌&&◌, ◌||◌, if◌then◌else◌, List, [], ◌∷◌, Ok, Err, refl, arith}
use Rattle.modbus_frame.specs.Meaning.{Asked}
use Rattle.modbus_frame.specs.declared.fault.Error.TheVariants.{Protocol, Transport, NoMemory}
use Rattle.modbus_frame.specs.declared.fault.TransportError.TheVariants.{NotConnected, ReadFault, WriteFault, BrokenPipe, BytesRemaining, TooManyRetries, RequestTooLong, InvalidResponse, InvalidLength, InvalidProtocol, TurnLimit}
use Rattle.modbus_client.specs.Matches.{Answer}
use Rattle.modbus_client.specs.Protocol as client
use Rattle.modbus_reconnect.specs.Owes.{leaves_nothing, is_read_fault, is_late, is_kept, left_after}
use Rattle.modbus_reconnect.specs.Stands.{TellsReplies, MayWait}

fault_is : (answer : Answer) → is_read_fault answer ≡ true → answer ≡ Err (Transport ReadFault)
fault_is (Ok result) is = cc
fault_is (Err (Protocol fault)) is = cc
fault_is (Err NoMemory) is = cc
fault_is (Err (Transport ReadFault)) is = refl
fault_is (Err (Transport NotConnected)) is = cc
fault_is (Err (Transport WriteFault)) is = cc
fault_is (Err (Transport BrokenPipe)) is = cc
fault_is (Err (Transport BytesRemaining)) is = cc
fault_is (Err (Transport TooManyRetries)) is = cc
fault_is (Err (Transport (RequestTooLong size))) is = cc
fault_is (Err (Transport (InvalidResponse reason))) is = cc
fault_is (Err (Transport InvalidLength)) is = cc
fault_is (Err (Transport (InvalidProtocol protocol))) is = cc
fault_is (Err (Transport TurnLimit)) is = cc

late_is : (answer : Answer) (held : List ℕ) → is_late answer held ≡ true → (answer ≡ Err (Transport ReadFault)) × (held ≡ [])
late_is answer [] late = (fault_is answer late, refl)
late_is answer (byte ∷ bytes) late = cc

either : (a patient late : Bool) → (a || (patient && late)) ≡ true → (a ≡ true) ⊎ ((patient ≡ true) × (late ≡ true))
either true patient late is = inl refl
either false true late is = inr (refl, is)
either false false late is = cc

-- nothing is owed, or the reply is late and may be
pub kept_why : (patient : Bool) (asked : Asked) (answer : Answer) (held : List ℕ) → is_kept patient asked answer held ≡ true
    → (leaves_nothing asked answer held ≡ true) ⊎ ((patient ≡ true) × (answer ≡ Err (Transport ReadFault)) × (held ≡ []))
kept_why patient asked answer held keeps = elim (either (leaves_nothing asked answer held) patient (is_late answer held) keeps) [
  | inl nothing ↦ inl nothing
  | inr late ↦ let is = late_is answer held late.1 in inr (late.0, is.0, is.1)
]

pub some_left : (left : ℕ) → nat_lt 0 left ≡ true → 0 < left
some_left zero is = cc
some_left (suc left) is = omega arith

-- a client lets a reply be late after a call only where it did before
pub waits_after : {H : Type 0} (P : client.Protocol H) (kept : Bool) (answer : Answer) (patience left : ℕ) → MayWait P patience left → MayWait P patience (left_after kept answer patience left)
waits_after P false answer patience left w = record { first = w.first; more = w.first }
waits_after P true answer patience left w = record { first = w.first; more = by (is_read_fault answer) }
  where
    by : (fault : Bool) → 0 < (if fault then left - 1 else patience) → TellsReplies P
    by true some = w.more (omega (arith, some))
    by false some = w.first some

-- the same after a look
pub waits_looked : {H : Type 0} (P : client.Protocol H) (kept : Bool) (patience left : ℕ) → MayWait P patience left → MayWait P patience (if kept then left else patience)
waits_looked P false patience left w = record { first = w.first; more = w.first }
waits_looked P true patience left w = w
