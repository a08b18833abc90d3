-- One try of a call: on the link that is there, or on a new one.
use Rattle.std.specs.Prelude.{◌≡◌, nat_lt, Bool, true, false, Option, None, Some, Result, Ok, Err, if◌then◌else◌}
use Rattle.std.specs.declared.net.SocketAddr.{SocketAddr}
use Rattle.modbus_link.specs.Outside.{Rose}
use Rattle.modbus_link.specs.Line.{LinkMeaning}
use Rattle.modbus_link.specs.declared.outside.Failed.{Failed}
use Rattle.modbus_frame.specs.Meaning.{Asked}
use Rattle.modbus_frame.specs.declared.fault.ShutdownFault.{ShutdownFault}
use Rattle.modbus_frame.specs.declared.fault.Error.TheVariants.{Transport}
use Rattle.modbus_frame.specs.declared.fault.TransportError.TheVariants.{NotConnected}
use Rattle.modbus_client.specs.Protocol.{Protocol, Heading}
use Rattle.modbus_client.specs.Matches.{Answer}
use Rattle.modbus_client.specs.State.{ClientState}
use Rattle.modbus_client.specs.Calls.{Called}
use Rattle.modbus_client.specs.Ends.{Disconnected}
use Rattle.modbus_reconnect.specs.Owes.{is_kept, left_after}
use Rattle.modbus_reconnect.specs.Replies.{fitted}
use Rattle.modbus_reconnect.specs.State.{Settings, ReconnectingState, Meaning}
use Rattle.modbus_reconnect.specs.Stands.{IsFresh, IsReady}

-- A client is given up: it is disconnected, which shuts its link down, whatever that answers.
pub record IsGivenUp {I L : Type 0} (M : LinkMeaning L) (client : ClientState I L) : Type 0 where
  pub result : Result (Unit {0}) ShutdownFault
  pub gone : ClientState I L
  pub disconnected : Disconnected M client result gone

-- A call is made on this client, which is kept after it where what it found leaves nothing owed, or where the reply is late and may be. Else
-- it is given up. A response that can't be the reply is told as that.
pub record CallsOn {H I L : Type 0} (P : Protocol H) (N : Heading H I) (M : LinkMeaning L) (on : ClientState I L) (patient : Bool) (asked : Asked) (answer : Answer) (kept : Option (ClientState I L)) : Type 0 where
  pub after : ClientState I L
  pub found : Answer
  pub called : Called P N M on asked found after
  pub told : answer ≡ fitted asked found
  pub keeps : kept ≡ (if is_kept patient asked found after.held then Some after else None)
  pub gives_up : is_kept patient asked found after.held ≡ false → IsGivenUp M after

-- One connection to this address is made, within the timeout of these settings: it gives a client of its link, or none, and then the
-- connector has counted a fault.
abbrev pub OpensClient : {H I C L : Type 0} → Meaning H I C L → C → SocketAddr → Settings → Result (ClientState I L) Failed → C → Type 0
OpensClient {L = L} m old address settings (Ok client) new =
    (given : L) × m.connector.connects old address settings.timeout (Ok given) new × IsFresh m settings given client
OpensClient m old address settings (Err failed) new =
    m.connector.connects old address settings.timeout (Err failed) new × Rose (m.connector.faults old) (m.connector.faults new)

-- Which client a try uses, and what becomes of the connector: the client that is there, and then no connection is made; or that of a link
-- that is made now; or none, where no link can be made.
abbrev pub Uses : {H I C L : Type 0} → Meaning H I C L → ReconnectingState C I L → Option (ClientState I L) → Option (ClientState I L) → C → Type 0
Uses m old (Some client) used connector = (used ≡ Some client) × (connector ≡ old.connector)
Uses m old None (Some client) connector = OpensClient m old.connector old.address old.settings (Ok client) connector
Uses m old None None connector = (failed : Failed) × OpensClient m old.connector old.address old.settings (Err failed) connector

-- with no client nothing is sent; the reply is looked for, and read, as `P` says
abbrev pub TriesOn : {H I C L : Type 0} → Meaning H I C L → Protocol H → ReconnectingState C I L → Option (ClientState I L) → Asked → Answer → Option (ClientState I L) → Type 0
TriesOn m P old None asked answer kept = (answer ≡ Err (Transport NotConnected)) × (kept ≡ None)
TriesOn m P old (Some client) asked answer kept =
    IsReady m old.address old.settings client × CallsOn P m.heading m.link client (nat_lt 0 old.left) asked answer kept

-- whether there is one
abbrev pub is_some : {A : Type 0} → Option A → Bool
is_some None = false
is_some (Some value) = true

-- One try, by a protocol that finds replies in the same places: all else stays.
pub record TriedBy {H I C L : Type 0} (m : Meaning H I C L) (P : Protocol H) (old : ReconnectingState C I L) (asked : Asked) (answer : Answer) (new : ReconnectingState C I L) : Type 0 where
  pub used : Option (ClientState I L)
  pub uses : Uses m old old.client used new.connector
  pub tries : TriesOn m P old used asked answer new.client
  pub left : new.left ≡ left_after (is_some new.client) answer old.patience old.left
  pub rest : new ≡ record old { connector = new.connector; client = new.client; left = new.left }

-- one whose reply is read as the client's protocol does
abbrev pub Tried : {H I C L : Type 0} → Meaning H I C L → ReconnectingState C I L → Asked → Answer → ReconnectingState C I L → Type 0
Tried m = TriedBy m m.protocol
