-- A client that was attached to a new link with its timeout, and was then given its turns, is fresh; and a fresh client is ready.
use Rattle.std.proofs.Common.{◌≡◌, Ok, sym, ap, subst, ◌∙◌}
use Rattle.std.specs.declared.net.SocketAddr.{SocketAddr}
use Rattle.modbus_link.specs.Line.{Line, KeepsEnds}
use Rattle.modbus_client.specs.State.{ClientState, attached_client}
use Rattle.modbus_reconnect.specs.State.{Settings, Meaning}
use Rattle.modbus_reconnect.specs.Stands.{IsFresh, IsReady, made}

pub fresh : {H I C L : Type 0} (m : Meaning H I C L) (settings : Settings) (given link : L) (first client : ClientState I L)
    → m.link.line link ≡ record (m.link.line given) { timeout = settings.timeout } → KeepsEnds m.link given link
    → first ≡ attached_client m.heading link settings.slave → client ≡ record first { turns = settings.turns } → IsFresh m settings given client
fresh {I = I} {L = L} m settings given link first client timed ends e f = record {
  state = f ∙ ap (λ (state : ClientState I L). record state { turns = settings.turns }) e ∙ ap (λ (place : L). record (attached_client m.heading place settings.slave) { turns = settings.turns }) (sym on);
  timed = ap m.link.line on ∙ timed;
  ends = subst (λ (place : L). KeepsEnds m.link given place) (sym on) ends;
}
  where
    on : client.link ≡ link
    on = ap (λ (state : ClientState I L). state.link) f ∙ ap (λ (state : ClientState I L). state.link) e

pub fresh_is_ready : {H I C L : Type 0} (m : Meaning H I C L) (address : SocketAddr) (settings : Settings) (old new : C) (given : L) (client : ClientState I L)
    → m.connector.connects old address settings.timeout (Ok given) new → IsFresh m settings given client → IsReady m address settings client
fresh_is_ready {I = I} {L = L} m address settings old new given client connects f = record {
  owes_nothing = made old new settings given client connects f;
  connected = ap (λ (state : ClientState I L). state.is_connected) f.state;
  slave = ap (λ (state : ClientState I L). state.slave) f.state;
  turns = ap (λ (state : ClientState I L). state.turns) f.state;
  timed = ap (λ (line : Line). line.timeout) f.timed;
}
