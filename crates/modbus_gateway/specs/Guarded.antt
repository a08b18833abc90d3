-- Devices behind rules: what is refused reaches nothing.
use Rattle.std.specs.Prelude.{◌≡◌, ℕ, List, [], ◌∷◌, Option, Some, None}
use Rattle.modbus_frame.specs.Meaning.{Asked}
use Rattle.modbus_frame.specs.declared.code.ExceptionCode.{ExceptionCode}
use Rattle.modbus_service.specs.Answering.{Answering}
use Rattle.modbus_service.specs.Exchange.{Exchange, Run}
use Rattle.modbus_service.specs.Outcome.{Outcome, exception}
use Rattle.modbus_rules.specs.Rules.{RulesState, refusal}

-- the rules, and what lies behind them
pub record GuardedState (S : Type 0) : Type 0 where
  pub rules : RulesState
  pub line : S

-- What is refused is answered by its exception, and nothing is done; what is allowed is forwarded.
abbrev pub GivesAllowed : {S : Type 0} → Answering S → Option ExceptionCode → S → ℕ → Asked → Outcome → S → Type 0
GivesAllowed A (Some code) old unit request outcome new = (outcome ≡ exception code) × (new ≡ old)
GivesAllowed A None old unit request outcome new = A.gives old unit request outcome new

-- memory is wanting for what is allowed alone
abbrev pub WantsAllowed : {S : Type 0} → Answering S → Option ExceptionCode → S → ℕ → Asked → S → Type 0
WantsAllowed A (Some code) old unit request new = ⊥
WantsAllowed A None old unit request new = A.wants old unit request new

abbrev pub guarded : {S : Type 0} → Answering S → Answering (GuardedState S)
guarded A = record {
  gives = λ old unit request outcome new. (new.rules ≡ old.rules) × GivesAllowed A (refusal old.rules unit request) old.line unit request outcome new.line;
  wants = λ old unit request new. (new.rules ≡ old.rules) × WantsAllowed A (refusal old.rules unit request) old.line unit request new.line;
}

-- the exchanges of allowed requests, in order
abbrev pub with_allowed : {Header : Type 0} → Option ExceptionCode → Exchange Header → List (Exchange Header) → List (Exchange Header)
with_allowed None x xs = x ∷ xs
with_allowed (Some code) x xs = xs

abbrev pub allowed : {Header : Type 0} → RulesState → (Header → ℕ) → List (Exchange Header) → List (Exchange Header)
allowed rules unit [] = []
allowed rules unit (x ∷ xs) = with_allowed (refusal rules (unit x.header) x.request) x (allowed rules unit xs)

-- each request that was refused was answered by the exception of its refusal
abbrev pub IsToldWhy : Option ExceptionCode → Outcome → Type 0
IsToldWhy None outcome = Unit {0}
IsToldWhy (Some code) outcome = outcome ≡ exception code

abbrev pub AreToldWhy : {Header : Type 0} → RulesState → (Header → ℕ) → List (Exchange Header) → Type 0
AreToldWhy rules unit [] = Unit {0}
AreToldWhy rules unit (x ∷ xs) = IsToldWhy (refusal rules (unit x.header) x.request) x.outcome × AreToldWhy rules unit xs

-- A run behind rules is a run of the line over the exchanges of the allowed requests alone, in their order; all others were told why they
-- were refused. The rules stay.
abbrev pub GuardedRuns : (Header : Type 0) → {S : Type 0} → Answering S → Type 0
GuardedRuns Header {S} A =
    (unit : Header → ℕ) (start last : GuardedState S) (xs : List (Exchange Header))
    → Run unit (guarded A) start xs last
    → (last.rules ≡ start.rules) × Run unit A start.line (allowed start.rules unit xs) last.line × AreToldWhy start.rules unit xs
