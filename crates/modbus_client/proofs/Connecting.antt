-- A client that is attached to a link, and then given a timeout, is connected.
use Rattle.std.proofs.Common.{◌≡◌, ℕ, Option, subst, rules}
use Rattle.std.specs.declared.time.Duration.{Duration}
use Rattle.modbus_link.specs.Line.{LinkMeaning}
use Rattle.modbus_client.specs.State.{ClientState, attached_client}
use Rattle.modbus_client.specs.Tcp.{tcp_heading}
use Rattle.modbus_client.specs.Ends.{Limited}
use Rattle.modbus_client.specs.Connects.{IsConnected}

attached_and_limited : {L : Type 0} (M : LinkMeaning L) (unit : ℕ) (timeout : Option Duration) (given : L) (after : ClientState ℕ L)
    → Limited M (attached_client tcp_heading given unit) timeout after → IsConnected M unit timeout given after
attached_and_limited M unit timeout given after limited = record {
  state = limited.rest;
  timed = limited.set (search rules);
  ends = limited.ends;
}

pub connected : {L : Type 0} (M : LinkMeaning L) (unit : ℕ) (timeout : Option Duration) (given : L) (before after : ClientState ℕ L)
    → before ≡ attached_client tcp_heading given unit → Limited M before timeout after → IsConnected M unit timeout given after
connected {L = L} M unit timeout given before after is limited =
    attached_and_limited M unit timeout given after (subst (λ (state : ClientState ℕ L). Limited M state timeout after) is limited)
