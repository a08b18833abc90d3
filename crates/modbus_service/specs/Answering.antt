-- What answers requests.
use Rattle.std.specs.Prelude.{◌≡◌, ℕ, Option, Some, None, Result, Ok, Err}
use Rattle.modbus_frame.specs.Meaning.{Asked}
use Rattle.modbus_frame.specs.declared.response.Response.{Response}
use Rattle.modbus_service.specs.declared.service.ServiceError.{ServiceError}
use Rattle.modbus_service.specs.declared.service.ServiceError.TheVariants.{Exception, NoMemory}
use Rattle.modbus_service.specs.Outcome.{Outcome, silence, reply, exception}

-- how an answerer with these states behaves
pub record Answering (S : Type 0) : Type 1 where
  -- of a state, a slave, a request, an outcome and the next state: it may give this outcome
  pub gives : S → ℕ → Asked → Outcome → S → Type 0
  -- of a state, a slave, a request and the next state: refused memory may leave it so
  pub wants : S → ℕ → Asked → S → Type 0

-- what one call does
abbrev pub Keeps : {S : Type 0} → Answering S → S → ℕ → Asked → Result (Option Response) ServiceError → S → Type 0
Keeps A old slave request (Ok None) new = A.gives old slave request silence new
Keeps A old slave request (Ok (Some response)) new = A.gives old slave request (reply response) new
Keeps A old slave request (Err (Exception code)) new = A.gives old slave request (exception code) new
Keeps A old slave request (Err NoMemory) new = A.wants old slave request new

-- An answerer of this relation that refused memory leaves as it was. Memory is wanting only where it may be taken.
abbrev pub steady : {S : Type 0} → (S → ℕ → Asked → Outcome → S → Type 0) → (S → ℕ → Asked → Type 0) → Answering S
steady answers takes_memory = record { gives = answers; wants = λ old slave request new. (new ≡ old) × takes_memory old slave request }
