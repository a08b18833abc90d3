-- Devices of a line that is opened anew where it broke.
use Rattle.std.specs.Prelude.{◌≡◌, ℕ, Bool, true, false, if◌then◌else◌, Option, Some, None}
use Rattle.std.specs.Option.{is_some}
use Rattle.modbus_frame.specs.Meaning.{Asked}
use Rattle.modbus_frame.specs.declared.code.ExceptionCode.TheVariants.{GatewayPathUnavailable}
use Rattle.modbus_reconnect.specs.declared.settling.Unsettled.{Unsettled}
use Rattle.modbus_reconnect.specs.declared.settling.Unsettled.TheVariants.{StillSending, ReadFault, Ended}
use Rattle.modbus_service.specs.Answering.{Answering}
use Rattle.modbus_service.specs.Outcome.{Outcome, exception}
use Rattle.modbus_gateway.specs.declared.watcher.LineChange.{LineChange}
use Rattle.modbus_gateway.specs.Serial.{SerialState}
use Rattle.modbus_gateway.specs.Told.{line_change, TellsIf}

-- a line that its last call found so can't be read any more
abbrev pub is_unreadable : Option Unsettled → Bool
is_unreadable None = false
is_unreadable (Some StillSending) = false
is_unreadable (Some ReadFault) = true
is_unreadable (Some Ended) = true

-- A line is broken where a write to it failed, or where its last call found that it had ended or can't be read.
abbrev pub is_broken_line : {L : Type 0} → SerialState L → Bool
is_broken_line line = if line.is_connected then is_unreadable line.unsettled else true

-- what opens the line, who is told, and the line where it is open
pub record ReopenedState (O W L : Type 0) : Type 0 where
  pub opener : O
  pub watcher : W
  pub line : Option L

-- what an opening may lead to, whether a line broke, and what telling a change may lead to
pub record Reopening (O W L : Type 0) : Type 1 where
  pub opens : O → Option L → O → Type 0
  pub broken : L → Bool
  pub tells : W → LineChange → W → Type 0

-- a line that is there stays, and where there is none it is opened
abbrev pub OpensIfNone : {O L : Type 0} → (O → Option L → O → Type 0) → O → Option L → O → Option L → Type 0
OpensIfNone opens old (Some line) new left = (new ≡ old) × (left ≡ Some line)
OpensIfNone opens old None new left = opens old left new

-- A request is forwarded on the line that is there. Where there is none it is answered by 0A, and nothing is done; memory is wanting on a
-- line that is there alone.
abbrev pub GivesIfOpen : {L : Type 0} → Answering L → Option L → ℕ → Asked → Outcome → Option L → Type 0
GivesIfOpen A (Some old) unit request outcome (Some new) = A.gives old unit request outcome new
GivesIfOpen A (Some old) unit request outcome None = ⊥
GivesIfOpen A None unit request outcome new = (outcome ≡ exception GatewayPathUnavailable) × (new ≡ None)

abbrev pub WantsIfOpen : {L : Type 0} → Answering L → Option L → ℕ → Asked → Option L → Type 0
WantsIfOpen A (Some old) unit request (Some new) = A.wants old unit request new
WantsIfOpen A (Some old) unit request None = ⊥
WantsIfOpen A None unit request new = ⊥

abbrev pub if_open : {L : Type 0} → Answering L → Answering (Option L)
if_open A = record { gives = GivesIfOpen A; wants = WantsIfOpen A }

-- what is left of a line behind an exchange: nothing where it broke
abbrev pub left_of : {L : Type 0} → (L → Bool) → Option L → Option L
left_of broken None = None
left_of broken (Some line) = if broken line then None else Some line

-- A request is forwarded behind the opening of the line, where there was none, and the line is given up where it broke. That it is back is
-- told where it was not open and is now, before the request is forwarded; that it is lost where it is given up, behind it; nothing else is.
pub record ForwardsBetween {O W L : Type 0} (by : Reopening O W L) (forwards : Option L → Option L → Type 0) (old new : ReopenedState O W L) : Type 0 where
  pub line : Option L
  pub after : Option L
  pub told : W
  pub opens : OpensIfNone by.opens old.opener old.line new.opener line
  pub tells_back : TellsIf by.tells (line_change (is_some old.line) (is_some line)) old.watcher told
  pub forwarded : forwards line after
  pub left : new.line ≡ left_of by.broken after
  pub tells_lost : TellsIf by.tells (line_change (is_some after) (is_some new.line)) told new.watcher

abbrev pub reopened : {O W L : Type 0} → Reopening O W L → Answering L → Answering (ReopenedState O W L)
reopened by A = record {
  gives = λ old unit request outcome new. ForwardsBetween by (λ line after. GivesIfOpen A line unit request outcome after) old new;
  wants = λ old unit request new. ForwardsBetween by (λ line after. WantsIfOpen A line unit request after) old new;
}
