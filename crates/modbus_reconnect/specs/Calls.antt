-- What each call of a client does that connects anew.
use Rattle.std.specs.Prelude.{◌≡◌, ℕ, zero, suc, ◌+◌, ◌≤◌, Option, None, Some, Result, Ok, IsTrue}
use Rattle.std.specs.Option.{option_map}
use Rattle.std.specs.declared.time.Duration.{Duration}
use Rattle.modbus_frame.specs.Meaning.{Asked}
use Rattle.modbus_frame.specs.declared.fault.ShutdownFault.{ShutdownFault}
use Rattle.modbus_client.specs.Protocol.{Protocol}
use Rattle.modbus_client.specs.Raw.{read_raw}
use Rattle.modbus_client.specs.Matches.{Answer}
use Rattle.modbus_client.specs.State.{ClientState}
use Rattle.modbus_client.specs.Ends.{Disconnected, Limited}
use Rattle.modbus_reconnect.specs.Resends.{may_follow}
use Rattle.modbus_reconnect.specs.State.{ReconnectingState, Meaning}
use Rattle.modbus_reconnect.specs.Tries.{TriedBy}

-- so many tries were made, one after another, after each of which there may be another one
abbrev pub TriesInVain : {H I C L : Type 0} → Meaning H I C L → Protocol H → Asked → ℕ → ReconnectingState C I L → ReconnectingState C I L → Type 0
TriesInVain m P asked zero old new = new ≡ old
TriesInVain {I = I} {C = C} {L = L} m P asked (suc count) old new = (last : ReconnectingState C I L) × (answer : Answer)
    × TriesInVain m P asked count old last × TriedBy m P last asked answer new × IsTrue (may_follow old.resend asked answer)

-- A call makes tries until one gives an answer that none may follow, or as many as it may. It answers what the last of them did, and counts
-- them. The replies are looked for, and read, as `P` says.
pub record CallsBy {H I C L : Type 0} (m : Meaning H I C L) (P : Protocol H) (old : ReconnectingState C I L) (asked : Asked) (answer : Answer) (new : ReconnectingState C I L) : Type 0 where
  -- the tries before the last one
  pub earlier : ℕ
  pub before : ReconnectingState C I L
  pub after : ReconnectingState C I L
  pub in_vain : TriesInVain m P asked earlier old before
  pub tried : TriedBy m P before asked answer after
  pub within : earlier ≤ old.retries
  pub last : IsTrue (may_follow old.resend asked answer) → earlier ≡ old.retries
  pub counts : new ≡ record after { tries = earlier + 1 }

-- a call whose reply is read as a response; and one whose reply is given as it came
abbrev pub CallsOnce : {H I C L : Type 0} → Meaning H I C L → ReconnectingState C I L → Asked → Answer → ReconnectingState C I L → Type 0
CallsOnce m = CallsBy m m.protocol

abbrev pub CallsRawOnce : {H I C L : Type 0} → Meaning H I C L → ReconnectingState C I L → Asked → Answer → ReconnectingState C I L → Type 0
CallsRawOnce m = CallsBy m (read_raw m.protocol)

-- the client that is there is disconnected; where there is none nothing is done
abbrev pub DisconnectsIfSome : {H I C L : Type 0} → Meaning H I C L → Option (ClientState I L) → Result (Unit {0}) ShutdownFault → Type 0
DisconnectsIfSome m None result = result ≡ Ok tt
DisconnectsIfSome {I = I} {L = L} m (Some client) result = (gone : ClientState I L) × Disconnected m.link client result gone

-- After a disconnection there is no client, so the next call connects anew, and the new link is kept through as many time-outs.
pub record Disconnects {H I C L : Type 0} (m : Meaning H I C L) (old : ReconnectingState C I L) (result : Result (Unit {0}) ShutdownFault) (new : ReconnectingState C I L) : Type 0 where
  pub client : DisconnectsIfSome m old.client result
  pub rest : new ≡ record old { client = None; left = old.patience }

-- a timeout is set on the client that is there, and on its link
abbrev pub LimitsIfSome : {H I C L : Type 0} → Meaning H I C L → Option (ClientState I L) → Option Duration → Option (ClientState I L) → Type 0
LimitsIfSome m None timeout new = new ≡ None
LimitsIfSome {I = I} {L = L} m (Some client) timeout new = (limited : ClientState I L) × (new ≡ Some limited) × Limited m.link client timeout limited

-- a timeout is kept for each new link, and set on the one that is there
pub record Limits {H I C L : Type 0} (m : Meaning H I C L) (old : ReconnectingState C I L) (timeout : Option Duration) (new : ReconnectingState C I L) : Type 0 where
  pub client : LimitsIfSome m old.client timeout new.client
  pub rest : new ≡ record old { settings = record old.settings { timeout = timeout }; client = new.client }

-- the slave and the turns are kept for each new link, and are those of the client that is there
abbrev pub with_slave : {C I L : Type 0} → ℕ → ReconnectingState C I L → ReconnectingState C I L
with_slave {I = I} {L = L} slave old = record old {
  settings = record old.settings { slave = slave };
  client = option_map {T = ClientState I L} (λ client. record client { slave = slave }) old.client;
}

abbrev pub with_turns : {C I L : Type 0} → ℕ → ReconnectingState C I L → ReconnectingState C I L
with_turns {I = I} {L = L} turns old = record old {
  settings = record old.settings { turns = turns };
  client = option_map {T = ClientState I L} (λ client. record client { turns = turns }) old.client;
}
