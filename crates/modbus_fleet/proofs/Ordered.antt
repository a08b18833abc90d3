-- Times that stand in order.
use Rattle.std.proofs.Common.{◌≡◌, ℕ, ◌≤◌, ◌==◌, ◌&&◌, true, false, List, Option, Some, None, refl, sym, ap, ◌∙◌, subst, arith, eq-eqb}
use Rattle.std.specs.Ordering.{nat_cmp, ordering_then, is_eq, is_gt}
use Rattle.std.specs.Cmp.{tied_then}
use Rattle.modbus_fleet.specs.declared.dues.Due.{Due}
use Rattle.std.specs.BTreeSet.{BTreeSet}
use Rattle.std.specs.declared.cmp.Ordering.{Ordering}
use Rattle.std.specs.declared.cmp.Ordering.TheVariants.{Less, Equal, Greater}
use Rattle.std.proofs.lemmas.Map.Keys.{le_from_not_gt}
use Rattle.modbus_fleet.specs.Dues.{due_cmp, is_time, is_due, time_of, Agrees, IsFirst, IsFirstOf}

same_number : (x y : ℕ) → is_eq (nat_cmp x y) ≡ (x == y)
same_number x y = grind (arith)

pub same_due : (x q : Due) → is_eq (due_cmp x q) ≡ is_due x.key (Some x.at) q
same_due x q = sym (tied_then (nat_cmp x.at q.at) (nat_cmp x.key q.key)) ∙ ap (λ b. b && is_eq (nat_cmp x.key q.key)) (same_number x.at q.at) ∙ ap (λ b. x.at == q.at && b) (same_number x.key q.key)

not_later : (o p : Ordering) → is_gt (ordering_then o p) ≡ false → is_gt o ≡ false
not_later Less p e = refl
not_later Equal p e = refl
not_later Greater p e = e

-- what is not behind another is no later
pub no_later : (x q : Due) → is_gt (due_cmp x q) ≡ false → x.at ≤ q.at
no_later x q e = le_from_not_gt x.at q.at (not_later (nat_cmp x.at q.at) (nat_cmp x.key q.key) e)

kept_is : (time : Option ℕ) (at : ℕ) → is_time at time ≡ true → time ≡ Some at
kept_is None at e = absurd (no e)
  where
    no : false ≡ true → ⊥
    no e = cc
kept_is (Some t) at e = ap Some (grind (arith, e))

is_kept : (time : Option ℕ) (at : ℕ) → time ≡ Some at → is_time at time ≡ true
is_kept time at e = subst (λ t. is_time at t ≡ true) (sym e) (eq-eqb at at refl)

nothing : (time : Option ℕ) → ((at : ℕ) → is_time at time ≡ false) → time ≡ None
nothing None none = refl
nothing (Some t) none = absurd (no (sym (none t) ∙ eq-eqb t t refl))
  where
    no : false ≡ true → ⊥
    no e = cc

pub first_kept : (ordered : BTreeSet Due) (times : List (Option ℕ)) (first : Option Due) → Agrees ordered times → IsFirstOf ordered first → IsFirst times first
first_kept ordered times None agrees none = λ key. nothing (time_of times key) (λ at. sym (agrees (record { at = at; key = key })) ∙ none (record { at = at; key = key }))
first_kept ordered times (Some due) agrees first = (
  kept_is (time_of times due.key) due.at (sym (agrees due) ∙ first.0),
  λ key at kept. first.1 (record { at = at; key = key }) (agrees (record { at = at; key = key }) ∙ is_kept (time_of times key) at kept),
)
