-- The first element that passes a test, and the first read in which a span lies.
use Rattle.std.proofs.Common.{◌≡◌, ℕ, zero, suc, ◌+◌, ◌<◌, ◌≤◌, Bool, true, false, cond, not, ◌||◌, List, [], ◌∷◌, length, get_or, Some, None, inl, inr, ltb, refl, sym, ap, ◌∙◌, arith}
use Rattle.std.specs.List.{position, position_or_len, list_any, AllWithin, AllPass}
use Rattle.std.specs.Option.{is_some}
use Rattle.std.proofs.lemmas.Bool.{cases_lt, ltb-true}
use Rattle.std.proofs.lemmas.Bool.Decides.{nat_tests}
use Rattle.modbus_poll.specs.declared.span.Span.{Span}
use Rattle.modbus_poll.specs.declared.read.Read.{Read}
use Rattle.modbus_poll.specs.Items.{read_end}
use Rattle.modbus_poll.specs.Spans.{span_end, is_within}
use Rattle.modbus_poll.specs.ReadOrder.{AreRising}
use Rattle.modbus_poll.proofs.Tests.{ends_before, begins_after, begins_late}

module _ {X : Type 0} (p : X → Bool) where
  -- where it is, by what holds of the elements before it and of it
  pub place_of : (xs : List X) (i : ℕ) → i ≤ length xs → ((k : ℕ) (d : X) → k < i → p (get_or xs k d) ≡ false)
      → ((d : X) → i < length xs → p (get_or xs i d) ≡ true) → position_or_len p xs ≡ i
  place_of [] i le before here = omega arith
  place_of (x ∷ xs) zero le before here = rw (here x (omega arith)) refl
  place_of (x ∷ xs) (suc i) le before here =
      rw (before zero x (omega arith)) (
      let rest = place_of xs i (omega arith) (λ k d less. before (suc k) d (omega arith)) (λ d less. here d (omega arith)) in
      omega (arith, rest))

  pub first_at : (xs : List X) (i : ℕ) → i < length xs → ((k : ℕ) (d : X) → k < i → p (get_or xs k d) ≡ false)
      → ((d : X) → p (get_or xs i d) ≡ true) → position p xs ≡ Some i
  first_at xs i less before here =
      let e = place_of xs i (omega arith) before (λ d _. here d) in
      rw e (let lt : ltb i (length xs) ≡ true = grind (arith, nat_tests) in rw lt refl)

  pub first_nowhere : (xs : List X) → ((k : ℕ) (d : X) → k < length xs → p (get_or xs k d) ≡ false) → position p xs ≡ None
  first_nowhere xs before =
      let e = place_of xs (length xs) (omega arith) before (λ d less. absurd (omega arith)) in
      rw e (let lt : ltb (length xs) (length xs) ≡ false = grind (arith, nat_tests) in rw lt refl)

has_place_step : (b : Bool) (n m : ℕ) (r : Bool) → ltb n m ≡ r → ltb (cond (not b) (1 + n) 0) (suc m) ≡ (b || r)
has_place_step true n m r e = grind (arith, nat_tests)
has_place_step false n m r e = grind (arith, nat_tests, e)

has_place : {X : Type 0} (p : X → Bool) (xs : List X) → ltb (position_or_len p xs) (length xs) ≡ list_any p xs
has_place p [] = refl
has_place p (x ∷ xs) = has_place_step (p x) (position_or_len p xs) (length xs) (list_any p xs) (has_place p xs)

some_if : (b : Bool) (i : ℕ) → is_some (cond b (Some i) None) ≡ b
some_if true i = refl
some_if false i = refl

-- there is a place exactly where some element passes
pub some_place : {X : Type 0} (p : X → Bool) (xs : List X) → is_some (position p xs) ≡ list_any p xs
some_place p xs = some_if (ltb (position_or_len p xs) (length xs)) (position_or_len p xs) ∙ has_place p xs

passes_of : {X : Type 0} (p : X → Bool) (x : X) → not (p x) ≡ false → p x ≡ true
passes_of p x e = grind arith

-- where there is none that fails, each passes
pub all_pass : {X : Type 0} (p : X → Bool) (xs : List X) → position (λ x. not (p x)) xs ≡ None → AllPass p xs
all_pass p xs none =
    let any : list_any (λ x. not (p x)) xs ≡ false = sym (some_place (λ x. not (p x)) xs) ∙ ap is_some none in
    λ k d less. passes_of p (get_or xs k d) (at_none xs k d less any)
  where
    at_none : (xs : List _) (k : ℕ) (d : _) → k < length xs → list_any (λ x. not (p x)) xs ≡ false → not (p (get_or xs k d)) ≡ false
    at_none [] k d less any = absurd (omega arith)
    at_none (x ∷ xs) zero d less any = grind arith
    at_none (x ∷ xs) (suc k) d less any = at_none xs k d (omega arith) (grind arith)

module _ (span : Span) (reads : List Read) (place : ℕ) (before : AllWithin (λ (read : Read). ltb (read_end read) (span_end span) ≡ true) reads 0 place) where
  misses : (k : ℕ) (d : Read) → k < place → is_within span (get_or reads k d) ≡ false
  misses k d less = ends_before span (get_or reads k d) (ltb-true _ _ (before k d (omega arith) less))

  -- every read ends before the span does
  pub none_past : length reads ≤ place → position (is_within span) reads ≡ None
  none_past le = first_nowhere (is_within span) reads (λ k d less. misses k d (omega arith))

  -- the first read that does not
  pub found_there : place < length reads → ((d : Read) → is_within span (get_or reads place d) ≡ true) → position (is_within span) reads ≡ Some place
  found_there less holds = first_at (is_within span) reads place less misses holds

  -- it begins after the span does, and so do those after it
  pub none_there : AreRising reads → place < length reads → ((d : Read) → span_end span ≤ read_end (get_or reads place d))
      → ((d : Read) → is_within span (get_or reads place d) ≡ false) → position (is_within span) reads ≡ None
  none_there rising less ends apart = first_nowhere (is_within span) reads (λ k d within. elim (cases_lt k place) [
    | inl lt ↦ misses k d lt
    | inr ge ↦
        let late : span.address < (get_or reads place d).address = begins_late span (get_or reads place d) (ends d) (apart d) in
        let up : (get_or reads place d).address ≤ (get_or reads k d).address = rising.0 place k d ge within in
        begins_after span (get_or reads k d) (omega arith)
  ])
