-- Lines whose users take turns: one whole exchange after another.
use Rattle.std.specs.Prelude.{◌≡◌, ℕ, ◌+◌, Option, Result}
use Rattle.std.specs.declared.time.Instant.{Instant}
use Rattle.modbus_link.specs.Memory.{next_count}
use Rattle.modbus_frame.specs.Meaning.{Asked}
use Rattle.modbus_frame.specs.declared.response.Response.{Response}
use Rattle.modbus_service.specs.declared.service.ServiceError.{ServiceError}
use Rattle.modbus_service.specs.Answering.{Answering, Keeps}
use Rattle.modbus_gateway.specs.Readings.{Reading}
use Rattle.modbus_gateway.specs.Timely.{TimelyState, timely}

-- So many whole exchanges led from one state of a line to another. Each began where the one before it ended, so none stands within another.
pub data Turns {S : Type 0} (A : Answering S) (start : S) : ℕ → S → Type 0 where
  untouched : Turns A start 0 start
  exchanged : (count : ℕ) (before after : S) (unit : ℕ) (request : Asked) (told : Result (Option Response) ServiceError)
      → Turns A start count before → Keeps A before unit request told after → Turns A start (count + 1) after

-- so many led from an opening of the line to this state
abbrev pub IsLed : {S : Type 0} → (S → Type 0) → Answering S → ℕ → S → Type 0
IsLed {S} opens A count now = (start : S) × opens start × Turns A start count now

-- a line, and how many turns were taken at it
pub record TurnState (S : Type 0) : Type 0 where
  pub line : TimelyState S
  pub turns : ℕ

-- One whole exchange was made, by these states before and after it, on a line in a state to which whole exchanges had led.
abbrev pub InOneTurn : {S : Type 0} → (S → Type 0) → Answering S → (S → S → Type 0) → Type 0
InOneTurn {S} opens A exchange = (count : ℕ) × (before after : S) × IsLed opens A count before × exchange before after

-- One turn for a request that was read whole at this time, which gave this answer: it was stale and nothing was done, or one exchange was made.
abbrev pub TakesTurn : {S : Type 0} → (TimelyState S → Type 0) → Answering S → Option Instant → ℕ → Asked → Result (Option Response) ServiceError → Type 0
TakesTurn opens A asked unit request told =
    InOneTurn opens (timely A) (λ before after. Keeps (timely A) before unit request told after × (after.asked ≡ asked))

-- A service of one of many connections: how many turns it took, what the clock told as its last request was read whole, and how often it
-- read the clock.
pub record ServiceState : Type 0 where
  pub made : ℕ
  pub asked : Reading
  pub readings : ℕ

-- one more request was read whole, and took its turn
pub record AsksOnce (old new : ServiceState) : Type 0 where
  pub made : new.made ≡ old.made + 1
  pub number : new.asked.number ≡ next_count old.readings
  pub readings : new.readings ≡ new.asked.number

-- For each request it reads the clock, takes one turn, and tells what that gave. Between two of them others may have taken any number.
abbrev pub served_in_turn : {S : Type 0} → (TimelyState S → Type 0) → Answering S → Answering ServiceState
served_in_turn opens A = record {
  gives = λ old unit request outcome new. AsksOnce old new
      × InOneTurn opens (timely A) (λ before after. (timely A).gives before unit request outcome after × (after.asked ≡ new.asked.at));
  wants = λ old unit request new. AsksOnce old new
      × InOneTurn opens (timely A) (λ before after. (timely A).wants before unit request after × (after.asked ≡ new.asked.at));
}
