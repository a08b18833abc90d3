use Rattle.std.proofs.Common.{◌≡◌, inl, inr, ◌++◌, length, drop, sym, ap, subst, arith, length-append}
use Rattle.std.proofs.lemmas.Bool.{cases_lt}
use Rattle.modbus_link.specs.Outside.{IsFront}
use Rattle.modbus_echo.proofs.Within.{within_at, front_at, left_whole}
use Rattle.modbus_echo.proofs.bytes.holds.Goals as goal

pub returns-then-begins_with-clause-within : goal.returns-then-begins_with-clause-within
returns-then-begins_with-clause-within c = λ yes.
    let bytes = c.args.bytes.now in
    let part = c.args.part.now in
    within_at bytes part c.loop-start.start
    (subst (λ rest. rest ≡ part ++ drop (length part) rest) (left_whole bytes c.loop-start.start) (c.begins_with.ensures.begins c.if-begins_with.true))

pub loop-start-preserved : goal.loop-start-preserved
loop-start-preserved c = λ k low. elim (cases_lt k c.loop-start.start) [
  | inl lt ↦ c.loop-start.invariant k lt
  | inr ge ↦ (let same : k ≡ c.loop-start.start = omega (arith, low, ge) in
      subst (λ n. IsFront c.args.part.now (drop n c.args.bytes.now) → ⊥) (sym same)
      (subst (λ rest. IsFront c.args.part.now rest → ⊥) (left_whole c.args.bytes.now c.loop-start.start) (c.begins_with.ensures.differs c.if-begins_with.false)))
]

pub returns-clause-apart : goal.returns-clause-apart
returns-clause-apart c = λ none (before, after, e).
    c.loop-start.invariant (length before) (let whole = ap length e in let end = c.loop-start-test.false in omega (arith, whole, end, length-append before (c.args.part.now ++ after)))
    (front_at c.args.bytes.now c.args.part.now before after e)
