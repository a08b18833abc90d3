-- What stands at one moment of a call: a service, what is outside of the server, and a signal that it looks at.
use Rattle.std.specs.Prelude.{Bool, ℕ}
use Rattle.modbus_link.specs.Outside.{Input, Output, Outside}

-- a service, and the source and the sink outside
pub record Moment (S : Type 0) : Type 0 where
  pub service : S
  pub outside : Outside

abbrev pub moment : {S : Type 0} → S → Input → Output → Moment S
moment service input output = record { service = service; outside = record { input = input; output = output } }

-- the same with a signal to stop
pub record Watched (S X : Type 0) : Type 0 where
  pub moment : Moment S
  pub signal : X

abbrev pub watched : {S X : Type 0} → S → Input → Output → X → Watched S X
watched service input output signal = record { moment = moment service input output; signal = signal }

-- what a signal to stop means: how often it was set, and what a look at it answers and leaves
pub record SignalMeaning (X : Type 0) : Type 1 where
  pub stops : X → ℕ
  pub looks : X → Bool → X → Type 0

abbrev pub signalled : {X : Type 0} → (X → ℕ) → (X → Bool → X → Type 0) → SignalMeaning X
signalled stops looks = record { stops = stops; looks = looks }
