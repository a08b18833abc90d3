-- The words that say what masters may do.
use Rattle.std.specs.Prelude.{◌≡◌, ◌++◌, ℕ, ◌==◌, nat_lt, nat_le, Bool, true, false, not, ◌&&◌, List, [], ◌∷◌, length, Option, Some, None, if◌then◌else◌}
use Rattle.std.specs.List.{position_or_len, before_first, after_first}
use Rattle.modbus_poll.specs.Notation.{number_within}
use Rattle.modbus_rules.specs.declared.rules.UnitSpan.{UnitSpan}
use Rattle.modbus_rules.specs.declared.rules.WriteSpan.{WriteSpan}
use Rattle.modbus_rules.specs.Rules.{RulesState}

-- a text has this byte
abbrev pub has : ℕ → List ℕ → Bool
has byte text = nat_lt (position_or_len (λ b. b == byte) text) (length text)

-- the texts of a first and a last number, with a hyphen between them, or one text that is both
abbrev pub ends_of : List ℕ → List ℕ × List ℕ
ends_of word = if has 45 word then (before_first (λ b. b == 45) word, after_first (λ b. b == 45) word) else (word, word)

-- a first and a last number, in this order
abbrev pub in_order : Option ℕ → Option ℕ → Option (ℕ × ℕ)
in_order (Some first) (Some last) = if nat_le first last then Some (first, last) else None
in_order (Some first) None = None
in_order None last = None

abbrev pub span_named : ℕ → List ℕ → Option (ℕ × ℕ)
span_named most word = in_order (number_within 5 0 most (ends_of word).0) (number_within 5 0 most (ends_of word).1)

-- the units that a word names
abbrev pub as_units : Option (ℕ × ℕ) → Option UnitSpan
as_units None = None
as_units (Some span) = Some (record { first = span.0; last = span.1 })

abbrev pub units_named : List ℕ → Option UnitSpan
units_named word = as_units (span_named 255 word)

-- what may be written by a word: units, a colon, and addresses
abbrev pub as_writes : Option UnitSpan → Option (ℕ × ℕ) → Option WriteSpan
as_writes (Some units) (Some span) = Some (record { units = units; first = span.0; last = span.1 })
as_writes (Some units) None = None
as_writes None span = None

abbrev pub writes_named : List ℕ → Option WriteSpan
writes_named word =
    if has 58 word then as_writes (units_named (before_first (λ b. b == 58) word)) (span_named 65535 (after_first (λ b. b == 58) word)) else None

-- what a word names is added behind the others; a word that names nothing adds nothing
abbrev pub AddsNamed : {A : Type 0} → Option A → List A → Bool → List A → Type 0
AddsNamed (Some span) old is_named new = (is_named ≡ true) × (new ≡ old ++ span ∷ [])
AddsNamed None old is_named new = (is_named ≡ false) × (new ≡ old)

-- nothing and something may be written
abbrev pub contradicts : List WriteSpan → Bool → Bool
contradicts [] is_read_only = false
contradicts (span ∷ spans) is_read_only = is_read_only

-- Each unit may be asked where none was named; everything may be written where nothing was said of writes.
abbrev pub units_said : List UnitSpan → Option (List UnitSpan)
units_said [] = None
units_said (span ∷ spans) = Some (span ∷ spans)

abbrev pub writes_said : List WriteSpan → Bool → Option (List WriteSpan)
writes_said [] is_read_only = if is_read_only then Some [] else None
writes_said (span ∷ spans) is_read_only = Some (span ∷ spans)

abbrev pub rules_said : List UnitSpan → List WriteSpan → Bool → RulesState
rules_said units writes is_read_only = record { units = units_said units; writes = writes_said writes is_read_only }
