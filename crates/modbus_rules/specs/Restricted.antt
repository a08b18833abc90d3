-- A service behind rules: what is refused changes nothing.
use Rattle.std.specs.Prelude.{◌≡◌, ℕ, List, [], ◌∷◌, Option, Some, None}
use Rattle.modbus_frame.specs.Meaning.{Asked}
use Rattle.modbus_frame.specs.declared.code.ExceptionCode.{ExceptionCode}
use Rattle.modbus_service.specs.Answering.{steady}
use Rattle.modbus_service.specs.Exchange.{Exchange, Run}
use Rattle.modbus_service.specs.OnlyUnit.{Giving}
use Rattle.modbus_service.specs.Outcome.{Outcome, exception}
use Rattle.modbus_rules.specs.declared.restricted.Restricted.{Restricted}
use Rattle.modbus_rules.specs.Rules.{RulesState, rules_refusal}

-- What is refused is answered by its exception, and nothing is done; what is allowed is asked of the service.
abbrev pub GivesAllowed : {S : Type 0} → Giving S → Option ExceptionCode → Giving S
GivesAllowed gives (Some code) old unit request outcome new = (outcome ≡ exception code) × (new ≡ old)
GivesAllowed gives None old unit request outcome new = gives old unit request outcome new

abbrev pub restricted_answers : {S : Type 0} → Giving S → Giving (Restricted S)
restricted_answers gives old unit request outcome new = (new.rules ≡ old.rules)
    × GivesAllowed gives (rules_refusal old.rules unit request) old.service unit request outcome new.service

-- what is allowed may take the memory that the service takes
abbrev pub TakesAllowed : Option ExceptionCode → Type 0 → Type 0
TakesAllowed (Some code) takes = ⊥
TakesAllowed None takes = takes

abbrev pub restricted_takes : {S : Type 0} → (S → ℕ → Asked → Type 0) → Restricted S → ℕ → Asked → Type 0
restricted_takes takes it unit request = TakesAllowed (rules_refusal it.rules unit request) (takes it.service unit request)

-- the exchanges of allowed requests, in order
abbrev pub with_allowed : {Header : Type 0} → Option ExceptionCode → Exchange Header → List (Exchange Header) → List (Exchange Header)
with_allowed None x xs = x ∷ xs
with_allowed (Some code) x xs = xs

abbrev pub allowed : {Header : Type 0} → RulesState → (Header → ℕ) → List (Exchange Header) → List (Exchange Header)
allowed rules unit [] = []
allowed rules unit (x ∷ xs) = with_allowed (rules_refusal rules (unit x.header) x.request) x (allowed rules unit xs)

-- each request that was refused was answered by the exception of its refusal
abbrev pub IsToldWhy : Option ExceptionCode → Outcome → Type 0
IsToldWhy None outcome = Unit {0}
IsToldWhy (Some code) outcome = outcome ≡ exception code

abbrev pub AreToldWhy : {Header : Type 0} → RulesState → (Header → ℕ) → List (Exchange Header) → Type 0
AreToldWhy rules unit [] = Unit {0}
AreToldWhy rules unit (x ∷ xs) = IsToldWhy (rules_refusal rules (unit x.header) x.request) x.outcome × AreToldWhy rules unit xs

-- A run behind rules is a run of the service over the exchanges of the allowed requests alone, in their order; all others were told why they
-- were refused. The rules stay.
abbrev pub RestrictedRuns : (Header : Type 0) → {S : Type 0} → Giving S → (S → ℕ → Asked → Type 0) → Type 0
RestrictedRuns Header {S} gives takes =
    (unit : Header → ℕ) (start last : Restricted S) (xs : List (Exchange Header))
    → Run unit (steady (restricted_answers gives) (restricted_takes takes)) start xs last
    → (last.rules ≡ start.rules) × Run unit (steady gives takes) start.service (allowed start.rules unit xs) last.service
    × AreToldWhy start.rules unit xs
