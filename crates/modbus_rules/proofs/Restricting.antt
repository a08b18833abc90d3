-- The runs of a service behind rules.
use Rattle.std.proofs.Common.{◌≡◌, ℕ, List, [], ◌∷◌, Option, Some, None, refl, ap, subst, ◌∙◌}
use Rattle.modbus_frame.specs.Meaning.{Asked}
use Rattle.modbus_frame.specs.declared.code.ExceptionCode.{ExceptionCode}
use Rattle.modbus_service.specs.Answering.{steady}
use Rattle.modbus_service.specs.Exchange.{Exchange, Run}
use Rattle.modbus_service.specs.OnlyUnit.{Giving}
use Rattle.modbus_rules.specs.Rules.{RulesState, rules_refusal}
use Rattle.modbus_rules.specs.declared.restricted.Restricted.{Restricted}
use Rattle.modbus_rules.specs.Restricted.{GivesAllowed, restricted_answers, restricted_takes, with_allowed, allowed, IsToldWhy, AreToldWhy}

module _ {Header S : Type 0} (unit : Header → ℕ) (gives : Giving S) (takes : S → ℕ → Asked → Type 0) where
  goes_on : (why : Option ExceptionCode) (old next last : S) (x : Exchange Header) (xs : List (Exchange Header))
      → GivesAllowed gives why old (unit x.header) x.request x.outcome next → Run unit (steady gives takes) next xs last
      → Run unit (steady gives takes) old (with_allowed why x xs) last
  goes_on None old next last x xs given run = (next, given, run)
  goes_on (Some code) old next last x xs given run = subst (λ (it : S). Run unit (steady gives takes) it xs last) given.1 run

  told_why : (why : Option ExceptionCode) (old next : S) (x : Exchange Header)
      → GivesAllowed gives why old (unit x.header) x.request x.outcome next → IsToldWhy why x.outcome
  told_why None old next x given = tt
  told_why (Some code) old next x given = given.0

  runs_from : (rules : RulesState) (start last : Restricted S) (xs : List (Exchange Header)) → start.rules ≡ rules
      → Run unit (steady (restricted_answers gives) (restricted_takes takes)) start xs last
      → (last.rules ≡ rules) × Run unit (steady gives takes) start.service (allowed rules unit xs) last.service × AreToldWhy rules unit xs
  runs_from rules start last [] is same = (ap (λ (it : Restricted S). it.rules) same ∙ is, ap (λ (it : Restricted S). it.service) same, tt)
  runs_from rules start last (x ∷ xs) is (next, step, rest) =
      let more = runs_from rules next last xs (step.0 ∙ is) rest in
      let given = subst (λ (r : RulesState). GivesAllowed gives (rules_refusal r (unit x.header) x.request) start.service (unit x.header) x.request x.outcome next.service) is step.1 in (
        more.0,
        goes_on (rules_refusal rules (unit x.header) x.request) start.service next.service last.service x (allowed rules unit xs) given more.1,
        (told_why (rules_refusal rules (unit x.header) x.request) start.service next.service x given, more.2),
      )

-- a service behind rules runs over what they allow
pub restricted_runs : {Header S : Type 0} (gives : Giving S) (takes : S → ℕ → Asked → Type 0) (unit : Header → ℕ)
    (start last : Restricted S) (xs : List (Exchange Header))
    → Run unit (steady (restricted_answers gives) (restricted_takes takes)) start xs last
    → (last.rules ≡ start.rules) × Run unit (steady gives takes) start.service (allowed start.rules unit xs) last.service
    × AreToldWhy start.rules unit xs
restricted_runs gives takes unit start last xs run = runs_from unit gives takes start.rules start last xs refl run
