-- How the program ends that forwards to a line.
use Rattle.std.specs.Prelude.{◌≡◌, ◌-◌, ◌^◌, ℕ, None, Result, Ok, Err}
use Rattle.std.specs.Borrow.{MutBor}
use Rattle.std.specs.declared.net.SocketAddr.{SocketAddr}
use Rattle.modbus_link.specs.declared.outside.Failed.{Failed}
use Rattle.modbus_link.specs.Line.{LinkMeaning, meaning_of}
use Rattle.modbus_link.specs.Outside.{Output, Outside, input_through, output_through}
use Rattle.modbus_client.specs.Connects.{ConnectorMeaning}
use Rattle.modbus_client.specs.Rtu.{rtu_heading}
use Rattle.modbus_client.specs.State.{attached_client}
use Rattle.modbus_gateway.specs.Forwards.{LineState}
use Rattle.modbus_gateway.specs.Forwarded.{Forwarded}
use Rattle.modbus_app.specs.Ends.{EndsBy}
use Rattle.modbus_port.specs.Reports.{Reports}
use Rattle.modbus_app.specs.Status.{connect_line}
use Rattle.modbus_server.specs.Moment.{moment}

-- What stood on what the connector gave: the requests were forwarded to its link, by a client that was told nothing; or there was none, which
-- was told, and nothing was read or written.
abbrev pub ForwardsBy : {L : Type 0} → LinkMeaning L → Result L Failed → Outside → Outside → Output × Output → ℕ → Type 0
ForwardsBy {L} M (Ok link) old new said status =
    (end : LineState L) × EndsBy (Forwarded M (2 ^ 64 - 1) (moment (attached_client rtu_heading link 0) old.input old.output) (moment end new.input new.output)) said.0 said.1 status
ForwardsBy M (Err failed) old new said status = (status ≡ 16) × (new ≡ old) × Reports said.0 said.1 connect_line

-- One connection was made to this address, with no limit of time, and what it gave was forwarded to. A connector fails only where its count of
-- faults rose.
abbrev pub ForwardsTo : {C L : Type 0} → ConnectorMeaning C L → LinkMeaning L → C × C → SocketAddr → Outside → Outside → Output × Output → ℕ → Type 0
ForwardsTo {C} {L} K M connectors line old new said status =
    (given : Result L Failed) × K.connects connectors.0 line None given connectors.1 × ForwardsBy M given old new said status

-- a link that is lent, as a link: all is reached through one more reference
abbrev pub lent_link : {L : Type 0} → LinkMeaning L → LinkMeaning (MutBor L)
lent_link M = meaning_of (λ it. input_through it.ghost_name (M.input it.now)) (λ it. output_through it.ghost_name (M.output it.now)) (λ it. M.line it.now)

-- A client was attached to a link that is lent, and what was asked was forwarded by it.
abbrev pub ForwardsLent : {L : Type 0} → LinkMeaning L → L → Outside → Outside → Output × Output → ℕ → Type 0
ForwardsLent {L} M link old new said status =
    (lent : MutBor L) × (end : LineState (MutBor L))
    × EndsBy (Forwarded (lent_link M) (2 ^ 64 - 1) (moment (attached_client rtu_heading lent 0) old.input old.output) (moment end new.input new.output)) said.0 said.1 status
    × (lent.now ≡ link)
