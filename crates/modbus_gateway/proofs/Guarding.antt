-- The runs of what stands behind rules.
use Rattle.std.proofs.Common.{◌≡◌, ℕ, List, [], ◌∷◌, Option, Some, None, refl, ap, subst, ◌∙◌}
use Rattle.modbus_frame.specs.declared.code.ExceptionCode.{ExceptionCode}
use Rattle.modbus_service.specs.Answering.{Answering}
use Rattle.modbus_service.specs.Exchange.{Exchange, Run}
use Rattle.modbus_rules.specs.Rules.{RulesState, refusal}
use Rattle.modbus_gateway.specs.Guarded.{GuardedState, GivesAllowed, guarded, with_allowed, allowed, IsToldWhy, AreToldWhy}

module _ {Header S : Type 0} (unit : Header → ℕ) (A : Answering S) where
  goes_on : (why : Option ExceptionCode) (old next last : S) (x : Exchange Header) (xs : List (Exchange Header))
      → GivesAllowed A why old (unit x.header) x.request x.outcome next → Run unit A next xs last → Run unit A old (with_allowed why x xs) last
  goes_on None old next last x xs gives run = (next, gives, run)
  goes_on (Some code) old next last x xs gives run = subst (λ (line : S). Run unit A line xs last) gives.1 run

  told_why : (why : Option ExceptionCode) (old next : S) (x : Exchange Header) → GivesAllowed A why old (unit x.header) x.request x.outcome next → IsToldWhy why x.outcome
  told_why None old next x gives = tt
  told_why (Some code) old next x gives = gives.0

  runs_from : (rules : RulesState) (start last : GuardedState S) (xs : List (Exchange Header)) → start.rules ≡ rules → Run unit (guarded A) start xs last
      → (last.rules ≡ rules) × Run unit A start.line (allowed rules unit xs) last.line × AreToldWhy rules unit xs
  runs_from rules start last [] is same = (ap (λ (it : GuardedState S). it.rules) same ∙ is, ap (λ (it : GuardedState S). it.line) same, tt)
  runs_from rules start last (x ∷ xs) is (next, step, rest) =
      let more = runs_from rules next last xs (step.0 ∙ is) rest in
      let gives = subst (λ (r : RulesState). GivesAllowed A (refusal r (unit x.header) x.request) start.line (unit x.header) x.request x.outcome next.line) is step.1 in (
        more.0,
        goes_on (refusal rules (unit x.header) x.request) start.line next.line last.line x (allowed rules unit xs) gives more.1,
        (told_why (refusal rules (unit x.header) x.request) start.line next.line x gives, more.2),
      )

-- what is behind rules runs over what they allow
pub guarded_runs : {Header S : Type 0} (A : Answering S) (unit : Header → ℕ) (start last : GuardedState S) (xs : List (Exchange Header)) → Run unit (guarded A) start xs last
    → (last.rules ≡ start.rules) × Run unit A start.line (allowed start.rules unit xs) last.line × AreToldWhy start.rules unit xs
guarded_runs A unit start last xs run = runs_from unit A start.rules start last xs refl run
