-- What a client of a line keeps between its calls, and what its parts mean.
use Rattle.std.specs.Prelude.{ℕ, Bool, true, false, Option, None}
use Rattle.std.specs.declared.time.Duration.{Duration}
use Rattle.modbus_link.specs.Line.{LinkMeaning}
use Rattle.modbus_client.specs.Limits.{default_turns}
use Rattle.modbus_client.specs.Protocol.{Protocol, Heading}
use Rattle.modbus_reconnect.specs.declared.settling.Unsettled.{Unsettled}

pub record LineSettings : Type 0 where
  -- the slave that requests go to
  pub slave : ℕ
  -- how many reads of a call may give bytes
  pub turns : ℕ
  -- how long a call waits for its reply; none for any time
  pub timeout : Option Duration
  -- how long a silence of the link is
  pub silence : Duration
  -- how long a line is silent that is settled, and how many bytes of it may be dropped
  pub quiet : Duration
  pub limit : ℕ
  -- how long it is silent after a request that no slave replies to; as long as any line that is settled where none is told
  pub turnaround : Option Duration

pub record SettlingState (I L : Type 0) : Type 0 where
  pub link : L
  -- a disconnected client keeps its link, unused
  pub is_connected : Bool
  -- whether a reply may still come that was not taken
  pub in_doubt : Bool
  -- whether it is in doubt by a request alone that was sent and that no slave replies to
  pub is_turning : Bool
  -- why the last call found the line unsettled; none where it did not
  pub unsettled : Option Unsettled
  -- how many bytes the last call dropped before it sent its request
  pub dropped : ℕ
  pub settings : LineSettings
  -- what its protocol keeps between its calls
  pub ids : I

-- what the parts of such a client mean: its protocol, while bytes come and in those before a silence, its link, how many silences the link told, and how often a look found nothing
pub record LineMeaning (H I L : Type 0) : Type 1 where
  pub protocol : Protocol H
  pub silent : Protocol H
  pub heading : Heading H I
  pub link : LinkMeaning L
  pub silences : L → ℕ
  pub looks : L → ℕ

abbrev pub line_by : {H I L : Type 0} → Protocol H → Protocol H → Heading H I → LinkMeaning L → (L → ℕ) → (L → ℕ) → LineMeaning H I L
line_by protocol silent heading link silences looks = record { protocol = protocol; silent = silent; heading = heading; link = link; silences = silences; looks = looks }

-- A client as it is made, of a link of which nothing is known: it is in doubt. A line is settled by one silence.
abbrev pub unsettled_client : {H I L : Type 0} → Heading H I → L → ℕ → Duration → SettlingState I L
unsettled_client N link slave silence = record {
  link = link;
  is_connected = true;
  in_doubt = true;
  is_turning = false;
  unsettled = None;
  dropped = 0;
  settings = record { slave = slave; turns = default_turns; timeout = None; silence = silence; quiet = silence; limit = 4096; turnaround = None };
  ids = N.first;
}
