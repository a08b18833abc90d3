-- A client that is kept is ready again.
use Rattle.std.proofs.Common.{◌≡◌, inl, inr, ℕ, [], Bool, true, false, true≢false, Option, None, Some, Result, Err, refl, sym, ap, subst, ◌∙◌, if◌then◌else◌}
use Rattle.std.specs.declared.net.SocketAddr.{SocketAddr}
use Rattle.std.specs.declared.time.Duration.{Duration}
use Rattle.modbus_link.specs.Line.{Line, LinkMeaning}
use Rattle.modbus_frame.specs.Meaning.{Asked}
use Rattle.modbus_frame.specs.declared.fault.ShutdownFault.{ShutdownFault}
use Rattle.modbus_client.specs.Protocol.{Protocol, Heading}
use Rattle.modbus_client.specs.Matches.{Answer}
use Rattle.modbus_client.specs.State.{ClientState}
use Rattle.modbus_client.specs.Calls.{Called}
use Rattle.modbus_client.specs.Ends.{Disconnected, Limited}
use Rattle.modbus_frame.specs.declared.fault.Error.TheVariants.{Transport}
use Rattle.modbus_frame.specs.declared.fault.TransportError.TheVariants.{ReadFault}
use Rattle.modbus_reconnect.specs.Owes.{leaves_nothing, is_kept}
use Rattle.modbus_reconnect.specs.Replies.{fitted}
use Rattle.modbus_reconnect.specs.State.{Settings, ReconnectingState, Meaning}
use Rattle.modbus_reconnect.specs.Stands.{TellsReplies, Reading, read_by, IsReady, IsReadyIfSome, called, waited, directed, limited}
use Rattle.modbus_reconnect.specs.Tries.{CallsOn}
use Rattle.modbus_reconnect.proofs.Settled.{nothing_stays}
use Rattle.modbus_reconnect.proofs.Late.{kept_why}

asks : {H I L : Type 0} (P : Protocol H) (N : Heading H I) (M : LinkMeaning L) (on after : ClientState I L) (lent asked : Asked) (answer : Answer)
    → lent ≡ asked → Called P N M on lent answer after → Called P N M on asked answer after
asks P N M on after lent asked answer e c = subst (λ (request : Asked). Called P N M on request answer after) e c

-- a client is kept after an answer that leaves nothing, and given up after another
pub keeps : {H I L : Type 0} (P : Protocol H) (N : Heading H I) (M : LinkMeaning L) (on after : ClientState I L) (lent asked : Asked) (answer : Answer)
    → lent ≡ asked → Called P N M on lent answer after → (told : Answer) → told ≡ fitted asked answer → (patient : Bool) → is_kept patient asked answer after.held ≡ true → CallsOn P N M on patient asked told (Some after)
keeps P N M on after lent asked answer e c told is patient nothing = record {
  after = after;
  found = answer;
  called = asks P N M on after lent asked answer e c;
  told = is;
  keeps = sym (ap (λ (kept : Bool). if kept then Some after else None) nothing);
  gives_up = λ something. absurd (true≢false (sym nothing ∙ something));
}

pub gives_up : {H I L : Type 0} (P : Protocol H) (N : Heading H I) (M : LinkMeaning L) (on after gone : ClientState I L) (lent asked : Asked) (answer : Answer) (result : Result (Unit {0}) ShutdownFault)
    → lent ≡ asked → Called P N M on lent answer after → (told : Answer) → told ≡ fitted asked answer → (patient : Bool) → is_kept patient asked answer after.held ≡ false → Disconnected M after result gone → CallsOn P N M on patient asked told None
gives_up P N M on after gone lent asked answer result e c told is patient something d = record {
  after = after;
  found = answer;
  called = asks P N M on after lent asked answer e c;
  told = is;
  keeps = sym (ap (λ (kept : Bool). if kept then Some after else None) something);
  gives_up = λ _. record { result = result; gone = gone; disconnected = d };
}

called_is_ready : {H I C L : Type 0} (m : Meaning H I C L) (address : SocketAddr) (settings : Settings) (reading : Reading) (on after : ClientState I L) (asked : Asked) (answer : Answer)
    → IsReady m address settings on → Called (read_by reading m.protocol) m.heading m.link on asked answer after → leaves_nothing asked answer after.held ≡ true
    → IsReady m address settings after
called_is_ready m address settings reading on after asked answer ready c leaves = record {
  owes_nothing = called on after reading asked answer ready.owes_nothing c leaves;
  connected = c.connected ready.connected ∙ nothing_stays asked answer after.held leaves;
  slave = c.keeps.slave ∙ ready.slave;
  turns = c.keeps.turns ∙ ready.turns;
  timed = ap (λ (line : Line). line.timeout) c.line ∙ ready.timed;
}

pub kept_by : {H I C L : Type 0} (m : Meaning H I C L) (address : SocketAddr) (settings : Settings) (after : ClientState I L) (nothing : Bool)
    → (nothing ≡ true → IsReady m address settings after) → IsReadyIfSome m address settings (if nothing then Some after else None)
kept_by m address settings after true ready = ready refl
kept_by m address settings after false ready = tt

-- so is one that a reply is late for, where replies are told by their headers
waited_is_ready : {H I C L : Type 0} (m : Meaning H I C L) (address : SocketAddr) (settings : Settings) (reading : Reading) (on after : ClientState I L) (asked : Asked)
    → TellsReplies m.protocol → IsReady m address settings on → Called (read_by reading m.protocol) m.heading m.link on asked (Err (Transport ReadFault)) after → after.held ≡ [] → IsReady m address settings after
waited_is_ready m address settings reading on after asked tells ready c none = record {
  owes_nothing = waited on after reading asked tells ready.owes_nothing c none;
  connected = c.connected ready.connected;
  slave = c.keeps.slave ∙ ready.slave;
  turns = c.keeps.turns ∙ ready.turns;
  timed = ap (λ (line : Line). line.timeout) c.line ∙ ready.timed;
}

-- the client that a call leaves is ready, where it leaves one, whichever way its reply was read
pub kept_is_ready : {H I C L : Type 0} (m : Meaning H I C L) (reading : Reading) (address : SocketAddr) (settings : Settings) (on : ClientState I L) (patient : Bool) (asked : Asked) (answer : Answer) (kept : Option (ClientState I L))
    → (patient ≡ true → TellsReplies m.protocol) → IsReady m address settings on → CallsOn (read_by reading m.protocol) m.heading m.link on patient asked answer kept → IsReadyIfSome m address settings kept
kept_is_ready {I = I} {L = L} m reading address settings on patient asked answer kept tells ready c =
    subst (λ (state : Option (ClientState I L)). IsReadyIfSome m address settings state) (sym c.keeps)
    (kept_by m address settings c.after _ (λ keeps. elim (kept_why patient asked c.found c.after.held keeps) [
      | inl nothing ↦ called_is_ready m address settings reading on c.after asked c.found ready c.called nothing
      | inr late ↦ waited_is_ready m address settings reading on c.after asked (tells late.0) ready (subst (λ (found : Answer). Called (read_by reading m.protocol) m.heading m.link on asked found c.after) late.1 c.called) late.2
    ]))

-- all that stays of a client whose own client was taken: what was ready is
pub moved : {H I C L : Type 0} (m : Meaning H I C L) (old new : ReconnectingState C I L) (connector : C) (client used : Option (ClientState I L))
    → new ≡ record old { connector = connector; client = client } → IsReadyIfSome m old.address old.settings used → IsReadyIfSome m new.address new.settings used
moved {I = I} {C = C} {L = L} m old new connector client used e ready =
    subst (λ (state : ReconnectingState C I L). IsReadyIfSome m state.address state.settings used) (sym e) ready

-- a client that is there is ready
pub ready_of : {H I C L : Type 0} (m : Meaning H I C L) (address : SocketAddr) (settings : Settings) (kept : Option (ClientState I L)) (client : ClientState I L)
    → kept ≡ Some client → IsReadyIfSome m address settings kept → IsReady m address settings client
ready_of {I = I} {L = L} m address settings kept client is ready =
    subst (λ (state : Option (ClientState I L)). IsReadyIfSome m address settings state) is ready

-- a client that was told another slave, other turns or another timeout is ready for it
pub slaved_is_ready : {H I C L : Type 0} (m : Meaning H I C L) (address : SocketAddr) (settings : Settings) (before client : ClientState I L) (slave : ℕ)
    → IsReady m address settings before → client ≡ record before { slave = slave } → IsReady m address (record settings { slave = slave }) client
slaved_is_ready {I = I} {L = L} m address settings before client slave ready is = record {
  owes_nothing = directed before client slave before.turns ready.owes_nothing is;
  connected = ap (λ (state : ClientState I L). state.is_connected) is ∙ ready.connected;
  slave = ap (λ (state : ClientState I L). state.slave) is;
  turns = ap (λ (state : ClientState I L). state.turns) is ∙ ready.turns;
  timed = ap (λ (state : ClientState I L). (m.link.line state.link).timeout) is ∙ ready.timed;
}

pub turned_is_ready : {H I C L : Type 0} (m : Meaning H I C L) (address : SocketAddr) (settings : Settings) (before client : ClientState I L) (turns : ℕ)
    → IsReady m address settings before → client ≡ record before { turns = turns } → IsReady m address (record settings { turns = turns }) client
turned_is_ready {I = I} {L = L} m address settings before client turns ready is = record {
  owes_nothing = directed before client before.slave turns ready.owes_nothing is;
  connected = ap (λ (state : ClientState I L). state.is_connected) is ∙ ready.connected;
  slave = ap (λ (state : ClientState I L). state.slave) is ∙ ready.slave;
  turns = ap (λ (state : ClientState I L). state.turns) is;
  timed = ap (λ (state : ClientState I L). (m.link.line state.link).timeout) is ∙ ready.timed;
}

pub limited_is_ready : {H I C L : Type 0} (m : Meaning H I C L) (address : SocketAddr) (settings : Settings) (before client : ClientState I L) (timeout : Option Duration)
    → IsReady m address settings before → Limited m.link before timeout client → IsReady m address (record settings { timeout = timeout }) client
limited_is_ready {I = I} {L = L} m address settings before client timeout ready l = record {
  owes_nothing = limited before client timeout ready.owes_nothing l;
  connected = ap (λ (state : ClientState I L). state.is_connected) l.rest ∙ ready.connected;
  slave = ap (λ (state : ClientState I L). state.slave) l.rest ∙ ready.slave;
  turns = ap (λ (state : ClientState I L). state.turns) l.rest ∙ ready.turns;
  timed = ap (λ (line : Line). line.timeout) (l.set ready.connected);
}
