-- A client of a device as it is opened: with its settings, and nothing sent yet.
use Rattle.std.specs.Prelude.{◌≡◌, ℕ, ◌*◌, min, Bool, true, false, Option, Some, None}
use Rattle.std.specs.Duration.{as_nanos, max_nanos}
use Rattle.std.specs.declared.time.Duration.{Duration}
use Rattle.std.specs.declared.net.SocketAddr.{SocketAddr}
use Rattle.modbus_client.specs.Limits.{default_turns}
use Rattle.std.specs.declared.io.ErrorKind.{ErrorKind}
use Rattle.modbus_reconnect.specs.declared.resend.Resend.{Resend}
use Rattle.modbus_reconnect.specs.declared.resend.Resend.TheVariants.{Reads}
use Rattle.modbus_reconnect.specs.State.{ReconnectingState, unconnected_client}
use Rattle.modbus_reconnect.specs.SettleState.{LineSettings, SettlingState}
use Rattle.modbus_adapter.specs.Deadline.{DeadlinesState}
use Rattle.modbus_adapter.specs.DeadlineLine.{DeadlineLineState, deadline_line_at_start}
use Rattle.modbus_adapter.specs.Echo.{EchoedState, echoed_at_start}
use Rattle.modbus_adapter.specs.Paced.{PacedState, pause_micros}
use Rattle.modbus_map.specs.declared.device.LinkKind.{LinkKind}
use Rattle.modbus_map.specs.declared.device.LinkKind.TheVariants as link
use Rattle.modbus_plant.specs.declared.connector.Refusals.{Refusals}
use Rattle.modbus_plant.specs.declared.linked_client.LinkedClient.{LinkedClient}
use Rattle.modbus_plant.specs.declared.linked_client.LinkedClient.TheVariants as client
use Rattle.modbus_plant.specs.declared.settings.Settings.{Settings}
use Rattle.modbus_plant.specs.Connectors.{refusing_never}

-- a client over TCP that has not connected yet, and asks the unit with the timeout and the retries of reads that were set
abbrev pub asking_with : {C I L : Type 0} → Settings → C → SocketAddr → ReconnectingState C I L
asking_with settings connector address = record (unconnected_client connector address settings.unit.0) {
  settings = record { slave = settings.unit.0; turns = default_turns; timeout = Some settings.timeout };
  retries = settings.retries;
  resend = Reads;
}

-- one by Modbus TCP: the timeout is also the deadline of a try
abbrev pub IsTcpClient : {I L : Type 0} → Settings → ReconnectingState (DeadlinesState Refusals) I L → Type 0
IsTcpClient settings it = it ≡ asking_with settings (record { connector = refusing_never; deadline = Some settings.timeout }) it.address

-- one by RTU frames over TCP: the same
abbrev pub IsRtuClient : {I L : Type 0} → Settings → ReconnectingState (DeadlinesState Refusals) I L → Type 0
IsRtuClient settings it = it ≡ asking_with settings (record { connector = refusing_never; deadline = Some settings.timeout }) it.address

-- what a client of a serial line is set to: a line in doubt is silent for as long as an answer is waited for
abbrev pub line_settings : Settings → LineSettings
line_settings settings = record {
  slave = settings.unit.0;
  turns = 1024;
  timeout = Some settings.timeout;
  silence = settings.silence;
  quiet = settings.timeout;
  limit = 4096;
  turnaround = None;
}

-- A client of a line over this link, of which nothing is known yet.
pub record AsksOver {I L : Type 0} (settings : Settings) (link : L) (it : SettlingState I L) : Type 0 where
  pub over : it.link ≡ link
  pub connected : it.is_connected ≡ true
  pub doubt : it.in_doubt ≡ true
  pub set : it.settings ≡ line_settings settings

-- how many nanoseconds a call on a line may take: as long as an answer may take, for each of its three parts
abbrev pub line_deadline : Settings → ℕ
line_deadline settings = min (as_nanos settings.timeout * 3) max_nanos

-- A client of a line over this link, each call of which has that deadline.
abbrev pub AsksWithin : {I L : Type 0} → Settings → L → SettlingState I (DeadlineLineState L) → Type 0
AsksWithin settings link it = (deadline : Duration) × (as_nanos deadline ≡ line_deadline settings)
    × AsksOver settings (deadline_line_at_start link (Some deadline)) it

-- one of a serial line, and of one whose adapter gives back what is sent
abbrev pub IsSerialClient : {I L : Type 0} → Settings → PacedState L → SettlingState I (DeadlineLineState (PacedState L)) → Type 0
IsSerialClient settings port it = AsksWithin settings port it

abbrev pub IsEchoedClient : {I L : Type 0} → Settings → PacedState L → SettlingState I (DeadlineLineState (EchoedState (PacedState L))) → Type 0
IsEchoedClient settings port it = AsksWithin settings (record (echoed_at_start port) { is_on = true }) it

-- a line keeps the pause of its speed between frames
abbrev pub KeepsPause : {L : Type 0} → Settings → PacedState L → Type 0
KeepsPause settings port = as_nanos port.pause ≡ pause_micros settings.baud * 1_000

-- the client of a line is one for an echo exactly where the adapter has one
abbrev pub IsOnLine : {T R I J L : Type 0} → Settings
    → LinkedClient T R (SettlingState I (DeadlineLineState (PacedState L))) (SettlingState J (DeadlineLineState (EchoedState (PacedState L)))) → Type 0
IsOnLine {L = L} settings (client.Serial it) =
    (settings.has_echo ≡ false) × (port : PacedState L) × KeepsPause settings port × IsSerialClient settings port it
IsOnLine {L = L} settings (client.Echoed it) =
    (settings.has_echo ≡ true) × (port : PacedState L) × KeepsPause settings port × IsEchoedClient settings port it
IsOnLine settings _ = ⊥

-- the client is of the type that the link wants, with these settings
abbrev pub IsClientBy : {H I J K L M P : Type 0} → LinkKind → Settings
    → LinkedClient (ReconnectingState (DeadlinesState Refusals) H L) (ReconnectingState (DeadlinesState Refusals) I M) (SettlingState J (DeadlineLineState (PacedState P))) (SettlingState K (DeadlineLineState (EchoedState (PacedState P)))) → Type 0
IsClientBy (link.Tcp host) settings (client.Tcp it) = IsTcpClient settings it
IsClientBy (link.RtuOverTcp host) settings (client.RtuOverTcp it) = IsRtuClient settings it
IsClientBy (link.Serial path) settings it = IsOnLine settings it
IsClientBy _ settings _ = ⊥

-- what the system said when the last connection failed
abbrev pub refusal_of : {H I L M S E : Type 0}
    → LinkedClient (ReconnectingState (DeadlinesState Refusals) H L) (ReconnectingState (DeadlinesState Refusals) I M) S E → Option ErrorKind
refusal_of (client.Tcp it) = it.connector.connector.last
refusal_of (client.RtuOverTcp it) = it.connector.connector.last
refusal_of _ = None

-- the retries of a client over TCP are set, and nothing else; a client of a serial line has none
abbrev pub SetsRetries : {C D H I L M S E : Type 0} → LinkedClient (ReconnectingState C H L) (ReconnectingState D I M) S E → ℕ → Resend
    → LinkedClient (ReconnectingState C H L) (ReconnectingState D I M) S E → Type 0
SetsRetries (client.Tcp old) retries resend new = new ≡ client.Tcp (record old { retries = retries; resend = resend })
SetsRetries (client.RtuOverTcp old) retries resend new = new ≡ client.RtuOverTcp (record old { retries = retries; resend = resend })
SetsRetries old retries resend new = new ≡ old
