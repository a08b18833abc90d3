-- How far a read goes: what holds of its end, once some of the spans behind its first one were looked at.
use Rattle.std.proofs.Common.{◌≡◌, ℕ, ◌+◌, ◌*◌, ◌-◌, ◌<◌, ◌≤◌, Contains, true, false, List, length, get_or, take, drop, inl, inr, refl, sym, subst, ◌∙◌, ap, arith, below_more, length-drop}
use Rattle.std.specs.List.{AllPass}
use Rattle.std.proofs.lemmas.Bool.{cases_lt}
use Rattle.std.proofs.lemmas.List.{take_all, get_or-drop}
use Rattle.std.proofs.lemmas.List.Elements.{Contains-get_or}
use Rattle.modbus_poll.specs.declared.span.Span.{Span}
use Rattle.modbus_poll.specs.declared.span.Limits.{Limits}
use Rattle.modbus_poll.specs.Items.{addresses}
use Rattle.modbus_poll.specs.Spans.{span_end, is_allowed, rank}
use Rattle.modbus_poll.specs.SpanPlans.{IsOutermost, IsWithinReach, AreNamed, GoesOn}
use Rattle.modbus_poll.specs.RankOrder.{AreRanked, EndEarlier, joins}
use Rattle.modbus_poll.proofs.Tests.{allowed_some, allowed_most, allowed_end, joins_most, joins_gap, parts}

-- of two spans, the one with the lower rank begins no later
address_order : (a b : Span) → 1 ≤ b.count → rank a ≤ rank b → a.address ≤ b.address
address_order a b some le = omega arith

-- and where both begin at one address, it is no shorter
count_order : (a b : Span) → 1 ≤ b.count → rank a ≤ rank b → b.address ≤ a.address → span_end b ≤ addresses → b.count ≤ a.count
count_order a b some le begins bounded =
    let up = address_order a b some le in
    let same : a.address ≡ b.address = omega arith in
    let e : a.address * addresses ≡ b.address * addresses = ap (λ n. n * addresses) same in
    omega arith

same_span : (a b : Span) → a.address ≡ b.address → a.count ≡ b.count → a ≡ b
same_span a b e f =
    let at : ℕ → ℕ → Span = λ n c. record { address = n; count = c } in
    subst (λ c. a ≡ at b.address c) f (subst (λ n. a ≡ at n a.count) e refl)

-- A read from this address ends there, once the first of these spans were looked at.
pub record Reached (limits : Limits) (spans : List Span) (done address end : ℕ) : Type 0 where
  pub last : (span : Span) × IsWithinReach limits spans address span × (span_end span ≡ end)
  pub named : (from : ℕ) → address ≤ from → from + limits.gap < end → AreNamed spans from limits.gap
  pub passed : (k : ℕ) → k < done → (d : Span) → span_end (get_or spans k d) ≤ end
  pub later : (k : ℕ) (d : Span) → done ≤ k → k < length spans → address ≤ (get_or spans k d).address
  pub bounded : end ≤ addresses

module _ (limits : Limits) (spans : List Span) (allowed : AllPass (is_allowed limits) spans) (ranked : AreRanked spans) where
  -- a span that stands later begins no lower
  pub address_at : (i k : ℕ) (d : Span) → i ≤ k → k < length spans → (get_or spans i d).address ≤ (get_or spans k d).address
  address_at i k d le less =
      address_order (get_or spans i d) (get_or spans k d) (allowed_some limits (get_or spans k d) (allowed k d less)) (ranked i k d le less)

  rank_up : (k : ℕ) (span : Span) → ((d : Span) → get_or spans k d ≡ span) → (other : Span) (among : Contains spans other) → k ≤ among.0 → rank span ≤ rank other
  rank_up k span at other among ge =
      subst (λ x. rank span ≤ rank x) among.2 (subst (λ x. rank x ≤ rank (get_or spans among.0 other)) (at other) (ranked k among.0 other ge among.1))

  allowed_among : (other : Span) → Contains spans other → is_allowed limits other ≡ true
  allowed_among other among = subst (λ x. is_allowed limits x ≡ true) among.2 (allowed among.0 other among.1)

  -- a span that ends after each one before it lies in no other
  pub outermost_at : (k : ℕ) (span : Span) → k < length spans → ((d : Span) → get_or spans k d ≡ span)
      → ((j : ℕ) (d : Span) → j < k → span_end (get_or spans j d) < span_end span) → IsOutermost spans span
  outermost_at k span less at past = record {
    among = (k, less, at span);
    widest = λ other among begins ends. elim (cases_lt among.0 k) [
      | inl lt ↦
          let before : span_end (get_or spans among.0 other) < span_end span = past among.0 other lt in
          let e = ap span_end among.2 in
          absurd (omega arith)
      | inr ge ↦
          let up = rank_up k span at other among ge in
          let fine = allowed_among other among in
          let some = allowed_some limits other fine in
          let order = address_order span other some up in
          let shorter = count_order span other some up begins (allowed_end limits other fine) in
          same_span other span (omega arith) (omega arith)
    ];
  }

  -- after the span that it begins with
  pub reached_first : (place : ℕ) (span : Span) → place < length spans → ((d : Span) → get_or spans place d ≡ span) → EndEarlier spans place
      → span_end span ≤ addresses → Reached limits spans (place + 1) span.address (span_end span)
  reached_first place span less at earlier bounded = record {
    last = (
      span,
      record {
        outermost = outermost_at place span less at past;
        begins = omega arith;
        ends = omega (arith, allowed_most limits span (subst (λ x. is_allowed limits x ≡ true) (at span) (allowed place span less)));
      },
      refl,
    );
    named = λ from le lt. record { span = span; among = (place, less, at span); begins = omega arith; ends = omega arith };
    passed = below_more (λ k. (d : Span) → span_end (get_or spans k d) ≤ span_end span) place
        (λ k lt d. let before = past k d lt in omega (arith, before))
        (λ d. let same : span_end (get_or spans place d) ≡ span_end span = ap span_end (at d) in omega arith);
    later = λ k d ge within. subst (λ x. x.address ≤ (get_or spans k d).address) (at d)
        (address_at place k d (omega arith) within);
    bounded = bounded;
  }
    where
      past : (j : ℕ) (d : Span) → j < place → span_end (get_or spans j d) < span_end span
      past j d lt = subst (λ x. span_end (get_or spans j d) < span_end x) (at d) (earlier j d lt)

  module _ (done address end : ℕ) (r : Reached limits spans done address end) (span : Span) (less : done < length spans) (at : (d : Span) → get_or spans done d ≡ span) where
    -- a span that ends no later
    pub reached_kept : span_end span ≤ end → Reached limits spans (done + 1) address end
    reached_kept le = record {
      last = r.last;
      named = r.named;
      passed = below_more (λ k. (d : Span) → span_end (get_or spans k d) ≤ end) done r.passed
          (λ d. let same : span_end (get_or spans done d) ≡ span_end span = ap span_end (at d) in omega arith);
      later = λ k d ge within. r.later k d (omega arith) within;
      bounded = r.bounded;
    }

    -- one that joins
    pub reached_more : end < span_end span → joins limits address end span ≡ true → span_end span ≤ addresses → Reached limits spans (done + 1) address (span_end span)
    reached_more lt more bounded = record {
      last = (
        span,
        record {
          outermost = outermost_at done span less at (λ j d before. let e = r.passed j before d in omega (arith, e));
          begins = subst (λ x. address ≤ x.address) (at span) (r.later done span (omega arith) less);
          ends = joins_most limits address end span more;
        },
        refl,
      );
      named = λ from le within. elim (cases_lt (from + limits.gap) span.address) [
        | inl before ↦ elim (cases_lt (from + limits.gap) end) [
          | inl inside ↦ r.named from le inside
          | inr past ↦
              let near = joins_gap limits address end span more in
              let last = r.last in
              let ends : span_end last.0 ≡ end = last.2 in
              record { span = last.0; among = last.1.outermost.among; begins = omega arith; ends = omega arith }
        ]
        | inr begun ↦ record { span = span; among = (done, less, at span); begins = omega arith; ends = omega arith }
      ];
      passed = below_more (λ k. (d : Span) → span_end (get_or spans k d) ≤ span_end span) done
          (λ k before d. let e = r.passed k before d in omega (arith, e))
          (λ d. let same : span_end (get_or spans done d) ≡ span_end span = ap span_end (at d) in omega arith);
      later = λ k d ge within. r.later k d (omega arith) within;
      bounded = bounded;
    }

    -- one that does not join is where the read ends
    pub ended_before : joins limits address end span ≡ false → GoesOn limits spans address end
    ended_before apart = record {
      last = r.last;
      named = r.named;
      whole = λ other reach near. elim (cases_lt reach.outermost.among.0 done) [
        | inl before ↦
            let e : span_end (get_or spans reach.outermost.among.0 other) ≤ end = r.passed reach.outermost.among.0 before other in
            let same = ap span_end reach.outermost.among.2 in
            omega arith
        | inr behind ↦
            let up = rank_up done span at other reach.outermost.among behind in
            let begins = address_order span other (allowed_some limits other (allowed_among other reach.outermost.among)) up in
            let long : address + limits.most < span_end span = parts limits address end span apart (omega arith) in
            let most = reach.ends in
            let same : span_end span ≡ span_end other = ap span_end (reach.outermost.widest span (done, less, at span) begins (omega arith)) in
            absurd (omega arith)
      ];
    }

  -- after the last span
  pub ended_last : (address end : ℕ) → Reached limits spans (length spans) address end → GoesOn limits spans address end
  ended_last address end r = record {
    last = r.last;
    named = r.named;
    whole = λ other reach near.
        let e : span_end (get_or spans reach.outermost.among.0 other) ≤ end = r.passed reach.outermost.among.0 reach.outermost.among.1 other in
        let same = ap span_end reach.outermost.among.2 in
        omega arith;
  }

-- what stands from a place on
behind : (spans : List Span) (n : ℕ) → take (length spans - n) (drop n spans) ≡ drop n spans
behind spans n = take_all (length spans - n) (drop n spans) (omega (arith, length-drop n spans))

pub at_behind : (spans : List Span) (n i : ℕ) (d : Span) → get_or (take (length spans - n) (drop n spans)) i d ≡ get_or spans (n + i) d
at_behind spans n i d = ap (λ (l : List Span). get_or l i d) (behind spans n) ∙ get_or-drop n spans i d

pub length_behind : (spans : List Span) (n : ℕ) → length (take (length spans - n) (drop n spans)) ≡ length spans - n
length_behind spans n = ap length (behind spans n) ∙ length-drop n spans
