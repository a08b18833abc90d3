-- The answers that leave nothing owed.
use Rattle.std.proofs.Common.{◌≡◌, ℕ, true, false, List, [], ◌∷◌, length, refl, sym, arith, true≢false, Ok, Err}
use Rattle.modbus_frame.specs.Meaning.{Asked}
use Rattle.modbus_frame.specs.declared.fault.Error.TheVariants.{Protocol, Transport, NoMemory}
use Rattle.modbus_frame.specs.declared.fault.TransportError.TheVariants.{NotConnected, ReadFault, WriteFault, BrokenPipe, BytesRemaining, TooManyRetries, RequestTooLong, InvalidResponse, InvalidLength, InvalidProtocol, TurnLimit}
use Rattle.modbus_client.specs.Matches.{Answer}
use Rattle.modbus_client.specs.Sends.{stays_connected}
use Rattle.modbus_reconnect.specs.Owes.{is_settled, leaves_nothing}

-- with nothing held an answer that settles its call leaves nothing
pub leaves : (asked : Asked) (answer : Answer) (held : List ℕ) → is_settled asked answer ≡ true → length held ≡ 0 → leaves_nothing asked answer held ≡ true
leaves asked answer [] settled none = settled
leaves asked answer (byte ∷ bytes) settled none = absurd (omega (arith, none))

-- one in doubt leaves something, whatever is held
pub leaves_doubt : (asked : Asked) (answer : Answer) (held : List ℕ) → is_settled asked answer ≡ false → leaves_nothing asked answer held ≡ false
leaves_doubt asked answer [] doubt = doubt
leaves_doubt asked answer (byte ∷ bytes) doubt = refl

settled_stays : (asked : Asked) (answer : Answer) → is_settled asked answer ≡ true → stays_connected answer ≡ true
settled_stays asked (Ok result) settled = refl
settled_stays asked (Err (Protocol fault)) settled = refl
settled_stays asked (Err NoMemory) settled = refl
settled_stays asked (Err (Transport NotConnected)) settled = refl
settled_stays asked (Err (Transport ReadFault)) settled = refl
settled_stays asked (Err (Transport WriteFault)) settled = settled
settled_stays asked (Err (Transport BrokenPipe)) settled = refl
settled_stays asked (Err (Transport BytesRemaining)) settled = refl
settled_stays asked (Err (Transport TooManyRetries)) settled = refl
settled_stays asked (Err (Transport (RequestTooLong size))) settled = refl
settled_stays asked (Err (Transport (InvalidResponse reason))) settled = refl
settled_stays asked (Err (Transport InvalidLength)) settled = refl
settled_stays asked (Err (Transport (InvalidProtocol protocol))) settled = refl
settled_stays asked (Err (Transport TurnLimit)) settled = refl

-- after an answer that leaves nothing the client is connected
pub nothing_stays : (asked : Asked) (answer : Answer) (held : List ℕ) → leaves_nothing asked answer held ≡ true → stays_connected answer ≡ true
nothing_stays asked answer [] settled = settled_stays asked answer settled
nothing_stays asked answer (byte ∷ bytes) settled = absurd (true≢false (sym settled))
