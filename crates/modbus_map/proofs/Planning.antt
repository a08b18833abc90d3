-- Points that a plan can have.
use Rattle.std.proofs.Common.{◌≡◌, ℕ, suc, ◌+◌, Bool, true, false, true≢false, cond, not, ◌&&◌, ◌||◌, List, [], ◌∷◌, length, map, Option, Some, None, ltb, refl, sym, ap, ◌∙◌, arith}
use Rattle.std.specs.List.{position, position_or_len, list_any}
use Rattle.std.specs.Option.{is_some}
use Rattle.std.proofs.lemmas.Bool.Decides.{nat_tests}
use Rattle.modbus_poll.specs.declared.span.Span.{Span}
use Rattle.modbus_poll.specs.declared.span.Limits.{Limits}
use Rattle.modbus_poll.specs.Spans.{is_allowed}
use Rattle.modbus_map.specs.declared.kind.Table.{Table}
use Rattle.modbus_map.specs.declared.kind.Table.TheVariants.{Coils, DiscreteInputs, InputRegisters, HoldingRegisters}
use Rattle.modbus_map.specs.declared.point.Point.{Point}
use Rattle.modbus_map.specs.Gathering.{span_of, is_in, spans_in}
use Rattle.modbus_map.specs.Planning.{limits_in, is_over, is_out_of_reach, first_over, first_out_of_reach}

has_place_step : (b : Bool) (n m : ℕ) (r : Bool) → ltb n m ≡ r → ltb (cond (not b) (1 + n) 0) (suc m) ≡ (b || r)
has_place_step true n m r e = grind (arith, nat_tests)
has_place_step false n m r e = grind (arith, nat_tests, e)

has_place : {X : Type 0} (p : X → Bool) (xs : List X) → ltb (position_or_len p xs) (length xs) ≡ list_any p xs
has_place p [] = refl
has_place p (x ∷ xs) = has_place_step (p x) (position_or_len p xs) (length xs) (list_any p xs) (has_place p xs)

some_if : (b : Bool) (i : ℕ) → is_some (cond b (Some i) None) ≡ b
some_if true i = refl
some_if false i = refl

-- there is a place exactly where some element passes
some_place : {X : Type 0} (p : X → Bool) (xs : List X) → is_some (position p xs) ≡ list_any p xs
some_place p xs = some_if (ltb (position_or_len p xs) (length xs)) (position_or_len p xs) ∙ has_place p xs

none_of : (place : Option ℕ) → is_some place ≡ false → place ≡ None
none_of None e = refl
none_of (Some i) e = absurd (true≢false e)

pub nowhere : (place : Option ℕ) (k : ℕ) → place ≡ None → place ≡ Some k → ⊥
nowhere place k none some = true≢false (ap is_some (sym some ∙ none))

no_place : {X : Type 0} (p : X → Bool) (xs : List X) → list_any p xs ≡ false → position p xs ≡ None
no_place p xs none = none_of (position p xs) (some_place p xs ∙ none)

none_any : {X : Type 0} (p : X → Bool) (xs : List X) → position p xs ≡ None → list_any p xs ≡ false
none_any p xs none = sym (some_place p xs) ∙ ap is_some none

module _ (limits : Limits) (table : Table) where
  abbrev over : Span → Bool
  over span = not (is_allowed limits span)

  any_step : (b : Bool) (point : Point) (rest : List Point) (r : Bool) → list_any over (map span_of rest) ≡ r
      → list_any over (map span_of (cond b (point ∷ rest) rest)) ≡ ((b && over (span_of point)) || r)
  any_step true point rest r e = ap (λ (other : Bool). over (span_of point) || other) e
  any_step false point rest r e = e

  any_span : (points : List Point) → list_any over (spans_in table points) ≡ list_any (is_over limits table) points
  any_span [] = refl
  any_span (point ∷ points) = any_step (is_in table point.table) point _ (list_any (is_over limits table) points) (any_span points)

  -- where no point of a table is over its limits, no span is
  pub no_span : (points : List Point) → first_over limits table points ≡ None → position (λ span. not (is_allowed limits span)) (spans_in table points) ≡ None
  no_span points none = no_place over (spans_in table points) (any_span points ∙ none_any (is_over limits table) points none)

module _ (limits : Limits) where
  same_table : (table own : Table) (span : Span) → not (is_allowed (limits_in limits own) span) ≡ false → (is_in table own && not (is_allowed (limits_in limits table) span)) ≡ false
  same_table Coils Coils span e = e
  same_table Coils DiscreteInputs span e = refl
  same_table Coils InputRegisters span e = refl
  same_table Coils HoldingRegisters span e = refl
  same_table DiscreteInputs Coils span e = refl
  same_table DiscreteInputs DiscreteInputs span e = e
  same_table DiscreteInputs InputRegisters span e = refl
  same_table DiscreteInputs HoldingRegisters span e = refl
  same_table InputRegisters Coils span e = refl
  same_table InputRegisters DiscreteInputs span e = refl
  same_table InputRegisters InputRegisters span e = e
  same_table InputRegisters HoldingRegisters span e = refl
  same_table HoldingRegisters Coils span e = refl
  same_table HoldingRegisters DiscreteInputs span e = refl
  same_table HoldingRegisters InputRegisters span e = refl
  same_table HoldingRegisters HoldingRegisters span e = e

  any_over : (table : Table) (points : List Point) → list_any (is_out_of_reach limits) points ≡ false → list_any (is_over (limits_in limits table) table) points ≡ false
  any_over table [] none = refl
  any_over table (point ∷ points) none =
      let first : is_out_of_reach limits point ≡ false = grind arith in
      let others : list_any (is_out_of_reach limits) points ≡ false = grind arith in
      rw (same_table table point.table (span_of point) first) (any_over table points others)

  -- where each point is in reach, none of a table is over the limits of that table
  pub none_over : (table : Table) (points : List Point) → first_out_of_reach limits points ≡ None → first_over (limits_in limits table) table points ≡ None
  none_over table points none = no_place (is_over (limits_in limits table) table) points (any_over table points (none_any (is_out_of_reach limits) points none))
