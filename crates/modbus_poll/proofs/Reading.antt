-- What holds of the reads within limits that were made for the first spans of a list in the order of their ranks.
use Rattle.std.proofs.Common.{◌≡◌, ℕ, ◌+◌, ◌<◌, ◌≤◌, All, Contains, true, false, List, [], ◌∷◌, ◌++◌, length, get_or, inl, inr, refl, sym, subst, ◌∙◌, ap, append_assoc, append-nil, arith, below_more}
use Rattle.std.specs.List.{AllPass}
use Rattle.std.specs.List.Sorted.{IsPermutation}
use Rattle.std.proofs.lemmas.Bool.{cases_lt}
use Rattle.std.proofs.lemmas.List.Sorted.{IsPermutation-sym, All-permutation, Contains-permutation}
use Rattle.std.proofs.lemmas.List.Elements.{All-push, All-contains, Contains-push}
use Rattle.std.proofs.lemmas.List.Folds.{list_any-append, list_any_none, list_any_at}
use Rattle.modbus_poll.specs.declared.span.Span.{Span}
use Rattle.modbus_poll.specs.declared.span.Limits.{Limits}
use Rattle.modbus_poll.specs.declared.read.Read.{Read}
use Rattle.modbus_poll.specs.Items.{read_end}
use Rattle.modbus_poll.specs.Spans.{span_end, is_allowed, is_within, is_read}
use Rattle.modbus_poll.specs.SpanPlans.{IsLimited, IsUnread, IsOutermost, IsWithinReach, AreNamed, GoesOn, IsNext, IsPlanWithin, FollowWithin}
use Rattle.modbus_poll.specs.RankOrder.{AreRanked, EndEarlier}
use Rattle.modbus_poll.proofs.Reaching.{address_at}
use Rattle.modbus_poll.proofs.Tests.{is_there, ends_before}

module _ (limits : Limits) (spans : List Span) where
  -- These reads were made for the first spans, and the last of them ends there.
  pub record Made (done : ℕ) (reads : List Read) (reached : ℕ) : Type 0 where
    pub follow : FollowWithin limits spans [] reads
    pub limited : All (IsLimited limits) reads
    pub covered : (k : ℕ) → k < done → (d : Span) → is_read reads (get_or spans k d) ≡ true
    pub passed : (k : ℕ) → k < done → (d : Span) → span_end (get_or spans k d) ≤ reached
    pub below : All (λ (read : Read). read_end read ≤ reached) reads
    pub last : 0 < reached → (read : Read) × Contains reads read × (read_end read ≡ reached)
    pub started : (k : ℕ) (d : Span) → done ≤ k → k < length spans → All (λ (read : Read). read.address ≤ (get_or spans k d).address) reads

  follow_push : (earlier reads : List Read) (read : Read) → FollowWithin limits spans earlier reads → IsNext limits spans (earlier ++ reads) read
      → FollowWithin limits spans earlier (reads ++ read ∷ [])
  follow_push earlier [] read follow next = (subst (λ e. IsNext limits spans e read) (append-nil earlier) next, tt)
  follow_push earlier (r ∷ rs) read follow next =
      (follow.0, follow_push (earlier ++ r ∷ []) rs read follow.1 (subst (λ e. IsNext limits spans e read) (sym (append_assoc earlier (r ∷ []) rs)) next))

  -- a span that lies in one of the reads
  covered_by : (reads : List Read) (span : Span) (read : Read) → Contains reads read → is_within span read ≡ true → is_read reads span ≡ true
  covered_by reads span read among holds = list_any_at (is_within span) reads among.0 read among.1 (subst (λ r. is_within span r ≡ true) (sym among.2) holds)

  covered_more : (reads : List Read) (span : Span) (read : Read) → is_read reads span ≡ true → is_read (reads ++ read ∷ []) span ≡ true
  covered_more reads span read e = rw (list_any-append (is_within span) reads (read ∷ [])) (rw e refl)

  pub made_none : Made 0 [] 0
  made_none = record {
    follow = tt;
    limited = λ k d less. absurd (omega arith);
    covered = λ k less d. absurd (omega arith);
    passed = λ k less d. absurd (omega arith);
    below = λ k d less. absurd (omega arith);
    last = λ less. absurd (omega arith);
    started = λ k d le less j e within. absurd (omega arith);
  }

  module _ (allowed : AllPass (is_allowed limits) spans) (ranked : AreRanked spans) (i : ℕ) (reads : List Read) (reached : ℕ) (m : Made i reads reached) (within : i < length spans)
      (span : Span) (at : (d : Span) → get_or spans i d ≡ span) where
    -- a span that the last read reaches
    pub made_kept : 1 ≤ span.count → span_end span ≤ reached → Made (i + 1) reads reached
    made_kept some ends = record {
      follow = m.follow;
      limited = m.limited;
      covered = below_more (λ k. (d : Span) → is_read reads (get_or spans k d) ≡ true) i m.covered here;
      passed = below_more (λ k. (d : Span) → span_end (get_or spans k d) ≤ reached) i m.passed
          (λ d. subst (λ x. span_end x ≤ reached) (sym (at d)) ends);
      below = m.below;
      last = m.last;
      started = λ k d le less. m.started k d (omega arith) less;
    }
      where
        here : (d : Span) → is_read reads (get_or spans i d) ≡ true
        here d =
            let last = m.last (omega arith) in
            let begins : last.0.address ≤ (get_or spans i d).address = All-contains (λ (read : Read). read.address ≤ (get_or spans i d).address) reads last.0 (m.started i d (omega arith) within) last.1 in
            let same : span_end (get_or spans i d) ≡ span_end span = ap span_end (at d) in
            let ends_there = last.2 in
            covered_by reads (get_or spans i d) last.0 last.1 (is_there (get_or spans i d) last.0 begins (omega arith))

    -- each span before one that passes the reads ends earlier
    pub end_earlier : reached < span_end span → EndEarlier spans i
    end_earlier over k d less =
        let before = m.passed k less d in
        let same : span_end (get_or spans i d) ≡ span_end span = ap span_end (at d) in
        omega arith

    -- The read that begins with it.
    module _ (over : reached < span_end span) (read : Read) (begins : read.address ≡ span.address) (holds : span_end span ≤ read_end read)
        (goes_on : GoesOn limits spans read.address (read_end read)) where
      -- a span that lies in no earlier read begins no lower
      left_after : (other : Span) → IsUnread spans reads other → read.address ≤ other.address
      left_after other left = elim (cases_lt left.among.0 i) [
        | inl lt ↦
            let e : is_read reads other ≡ true = subst (λ x. is_read reads x ≡ true) left.among.2 (m.covered left.among.0 lt other) in
            let f : true ≡ false = sym e ∙ left.left in
            absurd (cc)
        | inr ge ↦
            let up : (get_or spans i other).address ≤ (get_or spans left.among.0 other).address =
            address_at limits spans allowed ranked i left.among.0 other ge left.among.1 in
            let one : (get_or spans i other).address ≡ span.address = ap (λ (x : Span). x.address) (at other) in
            let two : (get_or spans left.among.0 other).address ≡ other.address = ap (λ (x : Span). x.address) left.among.2 in
            omega arith
      ]

      in_none : is_read reads span ≡ false
      in_none = list_any_none (is_within span) reads (λ k d less. ends_before span (get_or reads k d) (let e : read_end (get_or reads k d) ≤ reached = m.below k d less in omega arith))

      next_read : IsNext limits spans reads read
      next_read = record {
        begins = (span, record { among = (i, within, at span); left = in_none }, sym begins);
        least = left_after;
        goes_on = goes_on;
      }

      pub made_more : IsLimited limits read → Made (i + 1) (reads ++ read ∷ []) (read_end read)
      made_more limited = record {
        follow = follow_push [] reads read m.follow next_read;
        limited = All-push (IsLimited limits) reads read m.limited limited;
        covered = below_more (λ k. (d : Span) → is_read (reads ++ read ∷ []) (get_or spans k d) ≡ true) i
            (λ k less d. covered_more reads (get_or spans k d) read (m.covered k less d))
            (λ d. covered_by (reads ++ read ∷ []) (get_or spans i d) read (Contains-push reads read)
            (subst (λ x. is_within x read ≡ true) (sym (at d)) (is_there span read (omega arith) holds)));
        passed = below_more (λ k. (d : Span) → span_end (get_or spans k d) ≤ read_end read) i
            (λ k less d. let e : span_end (get_or spans k d) ≤ reached = m.passed k less d in omega arith)
            (λ d. subst (λ x. span_end x ≤ read_end read) (sym (at d)) holds);
        below = All-push (λ (r : Read). read_end r ≤ read_end read) reads read
            (λ k d less. let e : read_end (get_or reads k d) ≤ reached = m.below k d less in omega arith) (omega arith);
        last = λ _. (read, Contains-push reads read, refl);
        started = λ k d le less. All-push (λ (r : Read). r.address ≤ (get_or spans k d).address) reads read (m.started k d (omega arith) less) (
            let up : (get_or spans i d).address ≤ (get_or spans k d).address = address_at limits spans allowed ranked i k d (omega arith) less in
            let one : (get_or spans i d).address ≡ span.address = ap (λ (x : Span). x.address) (at d) in
            omega arith);
      }

  -- each span lies in one of the reads, once all were looked at
  pub all_made : (reads : List Read) (reached : ℕ) → Made (length spans) reads reached → IsPlanWithin limits spans reads × FollowWithin limits spans [] reads
  all_made reads reached m = (record { limited = m.limited; covers = λ k d less. m.covered k less d }, m.follow)

-- A plan for spans in one order is one for them in another.
module _ (limits : Limits) (spans others : List Span) (moved : IsPermutation spans others) where
  there : (span : Span) → Contains others span → Contains spans span
  there span among = Contains-permutation others spans span (IsPermutation-sym spans others moved) among

  back : (span : Span) → Contains spans span → Contains others span
  back span among = Contains-permutation spans others span moved among

  outer : (span : Span) → IsOutermost others span → IsOutermost spans span
  outer span o = record { among = there span o.among; widest = λ other among begins ends. o.widest other (back other among) begins ends }

  outer_back : (span : Span) → IsOutermost spans span → IsOutermost others span
  outer_back span o = record { among = back span o.among; widest = λ other among begins ends. o.widest other (there other among) begins ends }

  goes : (address end : ℕ) → GoesOn limits others address end → GoesOn limits spans address end
  goes address end g = record {
    last = (
      g.last.0,
      record { outermost = outer g.last.0 g.last.1.outermost; begins = g.last.1.begins; ends = g.last.1.ends },
      g.last.2,
    );
    named = λ from le within.
        let named = g.named from le within in
        record { span = named.span; among = there named.span named.among; begins = named.begins; ends = named.ends };
    whole = λ span reach near. g.whole span (record { outermost = outer_back span reach.outermost; begins = reach.begins; ends = reach.ends }) near;
  }

  next : (earlier : List Read) (read : Read) → IsNext limits others earlier read → IsNext limits spans earlier read
  next earlier read n = record {
    begins = (n.begins.0, record { among = there n.begins.0 n.begins.1.among; left = n.begins.1.left }, n.begins.2);
    least = λ span left. n.least span (record { among = back span left.among; left = left.left });
    goes_on = goes read.address (read_end read) n.goes_on;
  }

  pub follow_moved : (earlier reads : List Read) → FollowWithin limits others earlier reads → FollowWithin limits spans earlier reads
  follow_moved earlier [] f = tt
  follow_moved earlier (read ∷ later) f = (next earlier read f.0, follow_moved (earlier ++ read ∷ []) later f.1)

  pub plan_moved : (reads : List Read) → IsPlanWithin limits others reads → IsPlanWithin limits spans reads
  plan_moved reads p = record {
    limited = p.limited;
    covers = All-permutation (λ span. is_read reads span ≡ true) others spans (IsPermutation-sym spans others moved) p.covers;
  }
