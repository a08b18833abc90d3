-- What a link stands for that is used for a call: nothing is owed on it that could be taken for the reply.
use Rattle.std.specs.Prelude.{◌≡◌, ℕ, ◌<◌, List, [], Option, None, Some, Ok, Err, IsTrue}
use Rattle.std.specs.declared.net.SocketAddr.{SocketAddr}
use Rattle.std.specs.declared.time.Duration.{Duration}
use Rattle.modbus_link.specs.Outside.{Advances, bytes_read}
use Rattle.modbus_link.specs.Line.{LinkMeaning, KeepsEnds}
use Rattle.modbus_frame.specs.Meaning.{Asked}
use Rattle.modbus_frame.specs.declared.fault.Error.TheVariants.{Transport}
use Rattle.modbus_frame.specs.declared.fault.HeaderSeen.{HeaderSeen}
use Rattle.modbus_frame.specs.declared.fault.TransportError.TheVariants.{ReadFault}
use Rattle.modbus_client.specs.Protocol.{Protocol, reply}
use Rattle.modbus_client.specs.Raw.{read_raw}
use Rattle.modbus_client.specs.Matches.{Answer}
use Rattle.modbus_client.specs.State.{ClientState, attached_client}
use Rattle.modbus_client.specs.Calls.{Called}
use Rattle.modbus_client.specs.Ends.{Limited}
use Rattle.modbus_reconnect.specs.Owes.{leaves_nothing}
use Rattle.modbus_reconnect.specs.State.{Settings, Meaning}

-- A client of a link that was just made: it asked nothing, and has this slave and these turns. The link is as it was given, but for the
-- timeout, which is set on it.
pub record IsFresh {H I C L : Type 0} (m : Meaning H I C L) (settings : Settings) (given : L) (client : ClientState I L) : Type 0 where
  pub state : client ≡ record (attached_client m.heading client.link settings.slave) { turns = settings.turns }
  pub timed : m.link.line client.link ≡ record (m.link.line given) { timeout = settings.timeout }
  pub ends : KeepsEnds m.link given client.link

-- A search whose every reply is under the header that was asked, as one by transactions: what is owed of an earlier request is told from the
-- reply.
abbrev pub TellsReplies : {H : Type 0} → Protocol H → Type 0
TellsReplies P = (asked : HeaderSeen) (bytes cuts held : List ℕ) (seen : HeaderSeen) (pdu : List ℕ) → P.Finds asked bytes cuts (reply held seen pdu) → seen ≡ asked

-- A look at a link found nothing: nothing was read or written, and all else of the link stays.
pub record IsFoundIdle {L : Type 0} (M : LinkMeaning L) (before after : L) : Type 0 where
  pub source : Advances (M.input before) (M.input after)
  pub nothing : IsTrue (M.input before).told → bytes_read (M.input before) (M.input after) ≡ []
  pub sink : M.output after ≡ M.output before
  pub line : M.line after ≡ M.line before

-- What a call gives of the PDU of its reply: what the client's protocol reads it as, or the PDU as it came.
pub data Reading : Type 0 where
  by_function : Reading
  as_it_came : Reading

abbrev pub read_by : {H : Type 0} → Reading → Protocol H → Protocol H
read_by by_function P = P
read_by as_it_came P = read_raw P

-- Nothing is owed on the link of this client that could be taken for the reply: the connector gave the link for this address, and each call
-- since was answered by its own reply, with no byte left over, or sent nothing; or it was late, where replies are told by their headers.
-- A reply stands in the same place, whether its PDU is read by its function code or given as it came.
-- Between the calls its slave, its turns and its timeout were set, and it was looked at and nothing was found.
pub data OwesNothing {H I C L : Type 0} (m : Meaning H I C L) (address : SocketAddr) : ClientState I L → Type 0 where
  made : (old new : C) (settings : Settings) (given : L) (client : ClientState I L)
      → m.connector.connects old address settings.timeout (Ok given) new → IsFresh m settings given client → OwesNothing m address client
  called : (before client : ClientState I L) (reading : Reading) (asked : Asked) (answer : Answer)
      → OwesNothing m address before → Called (read_by reading m.protocol) m.heading m.link before asked answer client
      → IsTrue (leaves_nothing asked answer client.held) → OwesNothing m address client
  waited : (before client : ClientState I L) (reading : Reading) (asked : Asked) → TellsReplies m.protocol
      → OwesNothing m address before → Called (read_by reading m.protocol) m.heading m.link before asked (Err (Transport ReadFault)) client
      → client.held ≡ [] → OwesNothing m address client
  directed : (before client : ClientState I L) (slave turns : ℕ)
      → OwesNothing m address before → client ≡ record before { slave = slave; turns = turns } → OwesNothing m address client
  looked : (before client : ClientState I L)
      → OwesNothing m address before → client ≡ record before { link = client.link } → IsFoundIdle m.link before.link client.link
      → OwesNothing m address client
  limited : (before client : ClientState I L) (timeout : Option Duration)
      → OwesNothing m address before → Limited m.link before timeout client → OwesNothing m address client

-- A client on whose link a call may be made: nothing is owed on it, and it is connected with these settings, of which the timeout is the
-- link's.
pub record IsReady {H I C L : Type 0} (m : Meaning H I C L) (address : SocketAddr) (settings : Settings) (client : ClientState I L) : Type 0 where
  pub owes_nothing : OwesNothing m address client
  pub connected : IsTrue client.is_connected
  pub slave : client.slave ≡ settings.slave
  pub turns : client.turns ≡ settings.turns
  pub timed : (m.link.line client.link).timeout ≡ settings.timeout

-- the same of the client that is kept, where there is one
abbrev pub IsReadyIfSome : {H I C L : Type 0} → Meaning H I C L → SocketAddr → Settings → Option (ClientState I L) → Type 0
IsReadyIfSome m address settings None = Unit {0}
IsReadyIfSome m address settings (Some client) = IsReady m address settings client

-- a client lets a reply be late only where replies are told by their headers
pub record MayWait {H : Type 0} (P : Protocol H) (patience left : ℕ) : Type 0 where
  pub first : 0 < patience → TellsReplies P
  pub more : 0 < left → TellsReplies P

-- what stands between the calls of a client
pub record Stands {H I C L : Type 0} (m : Meaning H I C L) (address : SocketAddr) (settings : Settings) (patience left : ℕ) (client : Option (ClientState I L)) : Type 0 where
  pub ready : IsReadyIfSome m address settings client
  pub waits : MayWait m.protocol patience left
