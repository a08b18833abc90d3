-- What the seat of a pass knows. Views are data of the proofs alone: a seat has no bytes.
use Rattle.std.specs.Prelude.{ℕ, Bool, true, false, List, [], Option, None}
use Rattle.modbus_store.specs.Tables.{Tables}
use Rattle.modbus_store.specs.Legal.{Call}

-- how a shared store began: its tables, and whether it keeps a record of its calls
pub record Opening : Type 0 where
  pub tables : Tables
  pub recorded : Bool

-- Where a seat stands at the lock. Tickets count on past 2^64.
pub data CallStage : Type 0 where
  resting : CallStage
  waiting : (ticket : ℕ) → CallStage
  -- it has the turn, and knows the calls of the history
  serving : (ticket : ℕ) → (known : List Call) → CallStage

pub record View : Type 0 where
  -- a view that was joined to another is spent
  pub live : Bool
  -- the view of the first seat, which has no number yet
  pub first : Bool
  pub opening : Opening
  pub number : Option ℕ
  pub stage : CallStage
  -- the calls that it has seen, and those that it made
  pub seen : List Call
  pub mine : List Call
  -- the number last loaded of passes drawn
  pub drawn : ℕ
  -- what the two views of the last join had seen
  pub left : List Call
  pub right : List Call

-- a seat that has seen these calls and made none
abbrev pub fresh : Bool → Bool → Opening → List Call → View
fresh live first o seen = record { live = live; first = first; opening = o; number = None; stage = resting; seen = seen; mine = []; drawn = 0; left = []; right = [] }

-- the first seat
abbrev pub newcomer : Opening → View
newcomer o = fresh true true o []

-- a seat that was split off
abbrev pub split_view : View → View
split_view v = fresh true false v.opening v.seen

-- what is left of a view that was joined to another
abbrev pub spent_view : View
spent_view = fresh false false (record { tables = record { coils = []; discrete_inputs = []; holding_registers = []; input_registers = []; broadcast = false }; recorded = false }) []
