-- A run of what answers requests.
use Rattle.std.specs.Prelude.{◌≡◌, ℕ, List, [], ◌∷◌}
use Rattle.modbus_frame.specs.Meaning.{Asked}
use Rattle.modbus_service.specs.Outcome.{Outcome}
use Rattle.modbus_service.specs.Answering.{Answering}

-- one request that a service was asked, under the header that it came with, and its outcome
pub record Exchange (Header : Type 0) : Type 0 where
  pub header : Header
  pub request : Asked
  pub outcome : Outcome

-- the service, which is asked for the slave that a header tells, gave this outcome, and went from one state to the other
abbrev pub GivesOutcome : {Header S : Type 0} → (Header → ℕ) → Answering S → S → Exchange Header → S → Type 0
GivesOutcome slave A old x new = A.gives old (slave x.header) x.request x.outcome new

-- it goes from one state to another over these exchanges
abbrev pub Run : {Header S : Type 0} → (Header → ℕ) → Answering S → S → List (Exchange Header) → S → Type 0
Run slave A start [] end = end ≡ start
Run slave A start (x ∷ xs) end = (next : _) × GivesOutcome slave A start x next × Run slave A next xs end
