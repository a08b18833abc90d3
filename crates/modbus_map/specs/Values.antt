-- What the words of a point are worth (Modbus Application Protocol V1.1b3, section 4.2).
use Rattle.std.specs.Prelude.{ℕ, ◌/◌, ◌%◌, ◌==◌, nat_lt, List, [], ◌∷◌, flat_map, ℤ, pos, ⊤}
use Rattle.std.specs.Int.{w16, w32, w64, cast_signed, bit_at}
use Rattle.modbus_map.specs.declared.kind.ByteOrder.{ByteOrder}
use Rattle.modbus_map.specs.declared.kind.Kind.{Kind}
use Rattle.modbus_map.specs.declared.kind.Kind.TheVariants as kind
use Rattle.modbus_map.specs.declared.scale.Scale.{Scale}
use Rattle.modbus_map.specs.declared.point.Encoding.{Encoding}
use Rattle.modbus_map.specs.declared.value.PointValue.{PointValue}
use Rattle.modbus_map.specs.declared.value.PointValue.TheVariants.{State, Number, Single, Double, Text}
use Rattle.modbus_map.specs.Orders.{word_in, number_in}
use Rattle.modbus_map.specs.Scales.{worth}

-- the two bytes of a word, the high one first
abbrev pub bytes_of_word : ℕ → List ℕ
bytes_of_word word = word / 256 ∷ word % 256 ∷ []

-- the bytes of a text, two for each word
abbrev pub bytes_of : ByteOrder → List ℕ → List ℕ
bytes_of order words = flat_map (λ word. bytes_of_word (word_in order word)) words

-- the integer that a number of its words stands for: itself, or in two's complement of its width
abbrev pub integer_as : Kind → ℕ → ℤ
integer_as kind.I16 bits = cast_signed w16 bits
integer_as kind.I32 bits = cast_signed w32 bits
integer_as kind.I64 bits = cast_signed w64 bits
integer_as _ bits = pos bits

-- What lies in these words: a state, where they are not 0; a state, by one bit of the number; what its integer is worth
-- by its scale; the bits of a float; the bytes of a text.
abbrev pub value_as : Kind → ByteOrder → Scale → List ℕ → PointValue
value_as kind.Bool order scale words = State (nat_lt 0 (number_in order words))
value_as (kind.Bit place) order scale words = State (bit_at (number_in order words) place == 1)
value_as kind.U16 order scale words = Number (worth scale (integer_as kind.U16 (number_in order words)))
value_as kind.I16 order scale words = Number (worth scale (integer_as kind.I16 (number_in order words)))
value_as kind.U32 order scale words = Number (worth scale (integer_as kind.U32 (number_in order words)))
value_as kind.I32 order scale words = Number (worth scale (integer_as kind.I32 (number_in order words)))
value_as kind.U64 order scale words = Number (worth scale (integer_as kind.U64 (number_in order words)))
value_as kind.I64 order scale words = Number (worth scale (integer_as kind.I64 (number_in order words)))
value_as kind.F32 order scale words = Single (number_in order words)
value_as kind.F64 order scale words = Double (number_in order words)
value_as (kind.Text count) order scale words = Text (bytes_of order words)

-- the value of words that are read so
abbrev pub value : Encoding → List ℕ → PointValue
value encoding words = value_as encoding.kind encoding.order encoding.scale words

-- the kind of a text, whose bytes want memory
abbrev pub IsText : Kind → Type 0
IsText (kind.Text count) = ⊤
IsText _ = ⊥
