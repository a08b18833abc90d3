use Rattle.std.proofs.Common.{◌≡◌, ℕ, Result, Ok, Err, ap, sym, subst}
use Rattle.modbus_poll.specs.declared.plan.PlanError.{PlanError}
use Rattle.modbus_map.specs.Planning.{IsWhyNoPlans}
use Rattle.modbus_lines.proofs.points.Points.new.Goals as goal

not_both : {A : Type 0} {value : A} {error : PlanError} → (let one : Result A PlanError = Ok value in one) ≡ Err error → ⊥
not_both same = cc

the_error : {A : Type 0} {one other : PlanError} → (let one : Result A PlanError = Err one in one) ≡ Err other → one ≡ other
the_error same = cc

pub returns-in-Ok-clause-refused : goal.returns-in-Ok-clause-refused
returns-in-Ok-clause-refused c place =
    let seen = subst (λ points. IsWhyNoPlans c.args.limits points place) (sym c.as_slice.ensures.value) in
    ((λ same. absurd (not_both same)), (λ why. absurd (not_both ((c.in-Ok.ensures.refused place).1 (seen why)))))

pub returns-in-Err-clause-refused : goal.returns-in-Err-clause-refused
returns-in-Err-clause-refused c place =
    let given = subst (λ points. IsWhyNoPlans c.args.limits points place) c.as_slice.ensures.value in
    let seen = subst (λ points. IsWhyNoPlans c.args.limits points place) (sym c.as_slice.ensures.value) in
    ((λ same. given ((c.in-Err.ensures.refused place).0 (ap Err (the_error same)))), (λ why. ap Err (the_error ((c.in-Err.ensures.refused place).1 (seen why)))))
