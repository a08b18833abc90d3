-- Histories of calls, and what they leave.
use Rattle.std.specs.Prelude.{◌≡◌, ◌==◌, ℕ, List, [], ◌∷◌, ◌++◌, filter}
use Rattle.modbus_frame.specs.Meaning.{Asked}
use Rattle.modbus_service.specs.Outcome.{Outcome}
use Rattle.modbus_store.specs.Tables.{Tables}
use Rattle.modbus_store.specs.Step.{store_step}

-- one call: the number of the pass that made it, the slave, what was asked, and the outcome
pub record Call : Type 0 where
  pub number : ℕ
  pub slave : ℕ
  pub asked : Asked
  pub outcome : Outcome

abbrev pub call : ℕ → ℕ → Asked → Outcome → Call
call n slave asked outcome = record { number = n; slave = slave; asked = asked; outcome = outcome }

-- what a store of one caller answers to a call, and the tables after it
abbrev pub answer_to : Tables → Call → Outcome
answer_to t c = (store_step t c.slave c.asked).0

abbrev pub tables_after : Tables → Call → Tables
tables_after t c = (store_step t c.slave c.asked).1

-- the tables after all these calls
abbrev pub replay : Tables → List Call → Tables
replay t [] = t
replay t (c ∷ cs) = replay (tables_after t c) cs

-- each call was answered as a store of one caller answers it there
abbrev pub IsLegal : Tables → List Call → Type 0
IsLegal t [] = Unit {0}
IsLegal t (c ∷ cs) = (c.outcome ≡ answer_to t c) × IsLegal (tables_after t c) cs

-- the calls that the pass of this number made
abbrev pub calls_by : ℕ → List Call → List Call
calls_by n cs = filter (λ (c : Call). c.number == n) cs

-- the history begins with these calls
abbrev pub StartsWith : List Call → List Call → Type 0
StartsWith cs front = (rest : List Call) × (cs ≡ front ++ rest)

-- a call without its outcome
pub record CallAsked : Type 0 where
  pub number : ℕ
  pub slave : ℕ
  pub asked : Asked

abbrev pub asking_of : Call → CallAsked
asking_of c = record { number = c.number; slave = c.slave; asked = c.asked }
