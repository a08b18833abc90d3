use Rattle.std.proofs.Common.{◌≡◌, ℕ, ◌+◌, zero, suc, inl, inr, refl, sym, ◌∙◌, rules, arith}
use Rattle.modbus_port.proofs.patient.accept_patiently.Goals as goal
use Rattle.modbus_port.proofs.patient.accept_patiently.Goals.{in-Ok+else-admit, in-Err+else-left-eq0}

one_more : (a b : ℕ) → a ≡ b → a + 1 ≡ suc b
one_more a b e = omega arith

pub accepts-init : goal.accepts-init
accepts-init g c = record { made = zero; rounds = refl; many = (refl, refl) }

pub returns-then-admit : goal.returns-then-admit
returns-then-admit g c = (c.accepts.invariant.made, _, c.accepts.left, c.accepts.invariant.many, search rules, rw c.if-admit.true at c.admit.ensures)

pub returns-then-left-eq0 : goal.returns-then-left-eq0
returns-then-left-eq0 g c = (c.accepts.invariant.made, _, c.accepts.left, c.accepts.invariant.many, inl (search rules, search rules, refl))

pub accepts-preserved : goal.accepts-preserved
accepts-preserved g c = record {
  made = suc c.accepts.invariant.made;
  rounds = one_more _ _ c.accepts.invariant.rounds;
  many = (
    _,
    c.accepts.left,
    c.accepts.invariant.many,
    elim c.match-accept.branch [
      | in-Ok+else-admit w ↦ inl (w.in-Ok.accepted, search rules, search rules, search rules)
      | in-Err+else-left-eq0 w ↦ inr (w.in-Err.failed, search rules, search rules, search rules)
    ],
  );
}

pub returns : goal.returns
returns g c = (c.accepts.invariant.made, _, c.accepts.left, c.accepts.invariant.many, inr (sym c.accepts.invariant.rounds ∙ search rules, refl))
