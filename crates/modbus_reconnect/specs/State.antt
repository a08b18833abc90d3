-- What a client that connects anew keeps between its calls.
use Rattle.std.specs.Prelude.{ℕ, Option, None}
use Rattle.std.specs.declared.net.SocketAddr.{SocketAddr}
use Rattle.std.specs.declared.time.Duration.{Duration}
use Rattle.modbus_link.specs.Line.{LinkMeaning}
use Rattle.modbus_client.specs.Limits.{default_turns}
use Rattle.modbus_client.specs.Protocol.{Protocol, Heading}
use Rattle.modbus_client.specs.State.{ClientState}
use Rattle.modbus_client.specs.Connects.{ConnectorMeaning}
use Rattle.modbus_reconnect.specs.declared.resend.Resend.{Resend}
use Rattle.modbus_reconnect.specs.declared.resend.Resend.TheVariants.{Never}

-- what stands through each new connection
pub record Settings : Type 0 where
  -- the slave that requests go to
  pub slave : ℕ
  -- how many reads of a try may give bytes
  pub turns : ℕ
  pub timeout : Option Duration

pub record ReconnectingState (C I L : Type 0) : Type 0 where
  pub connector : C
  pub address : SocketAddr
  -- the client of the link that is used now; none where the next call connects
  pub client : Option (ClientState I L)
  pub settings : Settings
  -- how often a call may try again
  pub retries : ℕ
  -- which requests may be sent again
  pub resend : Resend
  -- how many tries the last call made
  pub tries : ℕ
  -- how many time-outs in a row a link is kept through, and how many more that are for the one that is used now
  pub patience : ℕ
  pub left : ℕ

-- one that has not connected yet
abbrev pub unconnected_client : {C I L : Type 0} → C → SocketAddr → ℕ → ReconnectingState C I L
unconnected_client connector address slave = record {
  connector = connector;
  address = address;
  client = None;
  settings = record { slave = slave; turns = default_turns; timeout = None };
  retries = 0;
  resend = Never;
  tries = 0;
  patience = 0;
  left = 0;
}

-- what the parts of such a client mean: its protocol, its connector, and the links that this makes
pub record Meaning (H I C L : Type 0) : Type 1 where
  pub protocol : Protocol H
  pub heading : Heading H I
  pub connector : ConnectorMeaning C L
  pub link : LinkMeaning L

abbrev pub meaning_by : {H I C L : Type 0} → Protocol H → Heading H I → ConnectorMeaning C L → LinkMeaning L → Meaning H I C L
meaning_by protocol heading connector link = record { protocol = protocol; heading = heading; connector = connector; link = link }
