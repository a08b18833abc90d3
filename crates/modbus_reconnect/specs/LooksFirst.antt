-- What a client over a connector does that looks before it sends: a link at which something came that was not asked for is given up.
use Rattle.std.specs.Prelude.{◌≡◌, ℕ, zero, suc, Bool, true, false, if◌then◌else◌, Option, None, Some, Result, Ok, Err}
use Rattle.modbus_link.specs.Line.{LinkMeaning}
use Rattle.modbus_frame.specs.Meaning.{Asked}
use Rattle.modbus_client.specs.Protocol.{Protocol}
use Rattle.modbus_client.specs.Raw.{read_raw}
use Rattle.modbus_client.specs.Matches.{Answer}
use Rattle.modbus_client.specs.State.{ClientState}
use Rattle.modbus_reconnect.specs.declared.settling.Unsettled.{Unsettled}
use Rattle.modbus_reconnect.specs.Looks.{LooksAtLink}
use Rattle.modbus_reconnect.specs.State.{ReconnectingState, Meaning}
use Rattle.modbus_reconnect.specs.Tries.{IsGivenUp, is_some}
use Rattle.modbus_reconnect.specs.Calls.{CallsBy}

-- a look found nothing: no byte came, the link has not ended, and no read of it failed
abbrev pub is_idle : Result ℕ Unsettled → Bool
is_idle (Ok zero) = true
is_idle (Ok (suc more)) = false
is_idle (Err reason) = false

-- The link of this client is looked at. The client is kept where nothing was found, and else given up.
pub record LooksAtClient {I L : Type 0} (M : LinkMeaning L) (looks : L → ℕ) (client : ClientState I L) (kept : Option (ClientState I L)) : Type 0 where
  pub seen : ClientState I L
  pub found : Result ℕ Unsettled
  pub looks_at : LooksAtLink M looks client.link seen.link found
  pub rest : seen ≡ record client { link = seen.link }
  pub keeps : kept ≡ (if is_idle found then Some seen else None)
  pub gives_up : is_idle found ≡ false → IsGivenUp M seen

-- with no client there is nothing to look at
abbrev pub LooksIfSome : {I L : Type 0} → LinkMeaning L → (L → ℕ) → Option (ClientState I L) → Option (ClientState I L) → Type 0
LooksIfSome M looks None kept = kept ≡ None
LooksIfSome M looks (Some client) kept = LooksAtClient M looks client kept

-- The link that is used is looked at, if there is one. All else stays, and a new link is kept through as many time-outs as at first.
pub record LooksFirst {C I L : Type 0} (M : LinkMeaning L) (looks : L → ℕ) (old new : ReconnectingState C I L) : Type 0 where
  pub client : LooksIfSome M looks old.client new.client
  pub rest : new ≡ record old { client = new.client; left = if is_some new.client then old.left else old.patience }

-- A call looks first. So its first try is made on a link at which nothing was found, or on a new one; and each later one on a new one,
-- since no link that is kept is tried again. The replies are looked for, and read, as `P` says.
pub record CallsLookedBy {H I C L : Type 0} (m : Meaning H I C L) (P : Protocol H) (looks : L → ℕ) (old : ReconnectingState C I L) (asked : Asked) (answer : Answer) (new : ReconnectingState C I L) : Type 0 where
  pub seen : ReconnectingState C I L
  pub first : LooksFirst m.link looks old seen
  pub calls : CallsBy m P seen asked answer new

-- a call whose reply is read as a response; and one whose reply is given as it came
abbrev pub CallsLooked : {H I C L : Type 0} → Meaning H I C L → (L → ℕ) → ReconnectingState C I L → Asked → Answer → ReconnectingState C I L → Type 0
CallsLooked m looks = CallsLookedBy m m.protocol looks

abbrev pub CallsRawLooked : {H I C L : Type 0} → Meaning H I C L → (L → ℕ) → ReconnectingState C I L → Asked → Answer → ReconnectingState C I L → Type 0
CallsRawLooked m looks = CallsLookedBy m (read_raw m.protocol) looks
