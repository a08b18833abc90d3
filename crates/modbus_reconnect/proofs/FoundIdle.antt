-- A client at whose link a look found nothing is ready.
use Rattle.std.proofs.Common.{◌≡◌, ℕ, zero, suc, Bool, true, false, true≢false, List, [], ◌∷◌, length, Option, Some, None, Result, Ok, Err, refl, sym, ap, subst, ◌∙◌, if◌then◌else◌}
use Rattle.std.specs.declared.net.SocketAddr.{SocketAddr}
use Rattle.modbus_link.specs.Line.{Line, LinkMeaning}
use Rattle.modbus_client.specs.State.{ClientState}
use Rattle.modbus_reconnect.specs.declared.settling.Unsettled.{Unsettled}
use Rattle.modbus_reconnect.specs.Looks.{LooksAtLink}
use Rattle.modbus_reconnect.specs.LooksFirst.{is_idle, LooksAtClient}
use Rattle.modbus_reconnect.specs.State.{Settings, Meaning}
use Rattle.modbus_reconnect.specs.Stands.{IsFoundIdle, IsReady, IsReadyIfSome, looked}
use Rattle.modbus_reconnect.specs.Tries.{IsGivenUp}
use Rattle.modbus_reconnect.proofs.Kept.{kept_by}

no_bytes : (bytes : List ℕ) → length bytes ≡ 0 → bytes ≡ []
no_bytes [] none = refl
no_bytes (byte ∷ bytes) none = absurd (cc)

-- a look that found nothing read nothing
found_idle : {L : Type 0} (M : LinkMeaning L) (looks : L → ℕ) (before after : L) (found : Result ℕ Unsettled)
    → LooksAtLink M looks before after found → is_idle found ≡ true → IsFoundIdle M before after
found_idle M looks before after (Ok zero) l is = record {
  source = l.drops.source;
  nothing = λ told. l.drops.read told ∙ no_bytes l.drops.dropped l.drops.ends.0;
  sink = l.sink;
  line = l.line;
}
found_idle M looks before after (Ok (suc more)) l is = absurd (true≢false (sym is))
found_idle M looks before after (Err reason) l is = absurd (true≢false (sym is))

looked_is_ready : {H I C L : Type 0} (m : Meaning H I C L) (address : SocketAddr) (settings : Settings) (before client : ClientState I L)
    → IsReady m address settings before → client ≡ record before { link = client.link } → IsFoundIdle m.link before.link client.link → IsReady m address settings client
looked_is_ready {I = I} {L = L} m address settings before client ready is idle = record {
  owes_nothing = looked before client ready.owes_nothing is idle;
  connected = ap (λ (state : ClientState I L). state.is_connected) is ∙ ready.connected;
  slave = ap (λ (state : ClientState I L). state.slave) is ∙ ready.slave;
  turns = ap (λ (state : ClientState I L). state.turns) is ∙ ready.turns;
  timed = ap (λ (line : Line). line.timeout) idle.line ∙ ready.timed;
}

-- the client that a look leaves is ready, where it leaves one
pub idle_is_ready : {H I C L : Type 0} (m : Meaning H I C L) (looks : L → ℕ) (address : SocketAddr) (settings : Settings) (client : ClientState I L) (kept : Option (ClientState I L))
    → IsReady m address settings client → LooksAtClient m.link looks client kept → IsReadyIfSome m address settings kept
idle_is_ready {I = I} {L = L} m looks address settings client kept ready l =
    subst (λ (state : Option (ClientState I L)). IsReadyIfSome m address settings state) (sym l.keeps)
    (kept_by m address settings l.seen (is_idle l.found) (λ idle. looked_is_ready m address settings client l.seen ready l.rest (found_idle m.link looks client.link l.seen.link l.found l.looks_at idle)))

-- a client whose link was looked at is kept, or given up
pub looked_kept : {I L : Type 0} (M : LinkMeaning L) (looks : L → ℕ) (client seen : ClientState I L) (found : Result ℕ Unsettled)
    → LooksAtLink M looks client.link seen.link found → seen ≡ record client { link = seen.link } → is_idle found ≡ true → LooksAtClient M looks client (Some seen)
looked_kept M looks client seen found l rest idle = record {
  seen = seen;
  found = found;
  looks_at = l;
  rest = rest;
  keeps = sym (ap (λ (kept : Bool). if kept then Some seen else None) idle);
  gives_up = λ not_idle. absurd (true≢false (sym idle ∙ not_idle));
}

pub looked_given_up : {I L : Type 0} (M : LinkMeaning L) (looks : L → ℕ) (client seen : ClientState I L) (found : Result ℕ Unsettled)
    → LooksAtLink M looks client.link seen.link found → seen ≡ record client { link = seen.link } → is_idle found ≡ false → IsGivenUp M seen → LooksAtClient M looks client None
looked_given_up M looks client seen found l rest not_idle given_up = record {
  seen = seen;
  found = found;
  looks_at = l;
  rest = rest;
  keeps = sym (ap (λ (kept : Bool). if kept then Some seen else None) not_idle);
  gives_up = λ is. given_up;
}
