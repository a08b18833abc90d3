-- One search has one answer, whatever judges the offsets.
use Rattle.std.proofs.Common.{◌≡◌, ◌≢◌, inl, inr, ℕ, zero, suc, ◌+◌, List, refl, subst, arith, below_more, drop}
use Rattle.std.proofs.lemmas.Bool.{cases_lt}
use Rattle.modbus_rtu.specs.declared.verdict.Verdict.{Verdict}
use Rattle.modbus_rtu.specs.declared.verdict.Verdict.TheVariants.{Open, Bad, Good}
use Rattle.modbus_rtu.specs.declared.search.Next.{Next}
use Rattle.modbus_rtu.specs.declared.search.Next.TheVariants.{Frame, Waiting, TooManyRetries}
use Rattle.modbus_rtu.specs.Next.{AreBadBy, IsNextBy}
use Rattle.modbus_rtu.specs.Limits.{max_retries}

good_not_bad : {v : Verdict} {n : ℕ} → v ≡ Good n → v ≢ Bad
good_not_bad g b = cc

open_not_bad : {v : Verdict} → v ≡ Open → v ≢ Bad
open_not_bad o b = cc

module _ (judge : List ℕ → Verdict) (held : List ℕ) where
  abbrev pub Answer : Type 0
  Answer = (next : Next) × IsNextBy judge held next

  answer_from : (k n : ℕ) → n + k ≡ max_retries → AreBadBy judge held n → Answer
  answer_from zero n e bad = let all : n ≡ max_retries = omega arith in (TooManyRetries, subst (λ m. AreBadBy judge held m) all bad)
  answer_from (suc k) n e bad = by_verdict (judge (drop n held)) refl (λ b. answer_from k (n + 1) (omega arith) (below_more (λ i. judge (drop i held) ≡ Bad) n bad b))
    where
      by_verdict : (v : Verdict) → judge (drop n held) ≡ v → (judge (drop n held) ≡ Bad → Answer) → Answer
      by_verdict Open o later = (Waiting n, (omega arith, bad, o))
      by_verdict Bad b later = later b
      by_verdict (Good m) g later = (Frame n m, (omega arith, bad, g))

  pub some_answer : Answer
  some_answer = answer_from max_retries 0 refl (λ i lt. absurd (omega arith))

  same_place : (n m : ℕ) → AreBadBy judge held n → AreBadBy judge held m → judge (drop n held) ≢ Bad → judge (drop m held) ≢ Bad → n ≡ m
  same_place n m bad bad' ne ne' = elim (cases_lt n m) [
    | inl lt ↦ absurd (ne (bad' n lt))
    | inr ge ↦ elim (cases_lt m n) [
      | inl lt ↦ absurd (ne' (bad m lt))
      | inr ge' ↦ omega arith
    ]
  ]

  pub same_answer : (a b : Next) → IsNextBy judge held a → IsNextBy judge held b → a ≡ b
  same_answer (Frame s n) (Frame t m) a b = let e = same_place s t a.1 b.1 (good_not_bad a.2) (good_not_bad b.2) in cc
  same_answer (Frame s n) (Waiting t) a b = let e = same_place s t a.1 b.1 (good_not_bad a.2) (open_not_bad b.2) in cc
  same_answer (Frame s n) TooManyRetries a b = absurd (good_not_bad a.2 (b s a.0))
  same_answer (Waiting s) (Frame t m) a b = let e = same_place s t a.1 b.1 (open_not_bad a.2) (good_not_bad b.2) in cc
  same_answer (Waiting s) (Waiting t) a b = let e = same_place s t a.1 b.1 (open_not_bad a.2) (open_not_bad b.2) in cc
  same_answer (Waiting s) TooManyRetries a b = absurd (open_not_bad a.2 (b s a.0))
  same_answer TooManyRetries (Frame t m) a b = absurd (good_not_bad b.2 (a t b.0))
  same_answer TooManyRetries (Waiting t) a b = absurd (open_not_bad b.2 (a t b.0))
  same_answer TooManyRetries TooManyRetries a b = refl
