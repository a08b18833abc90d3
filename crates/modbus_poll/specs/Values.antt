-- The values of items (Modbus Application Protocol V1.1b3, section 4.2).
use Rattle.std.specs.Prelude.{ℕ, ◌+◌, ◌*◌, ◌^◌, List, [], ◌∷◌, reverse, ⊤}
use Rattle.std.specs.Int.{w16, w32, w64, cast_signed}
use Rattle.modbus_pdu.specs.Word.{words}
use Rattle.modbus_poll.specs.declared.item.Order.{Order}
use Rattle.modbus_poll.specs.declared.item.Order.TheVariants.{HighFirst, LowFirst}
use Rattle.modbus_poll.specs.declared.item.Kind.{Kind}
use Rattle.modbus_poll.specs.declared.item.Kind.TheVariants as kind
use Rattle.modbus_poll.specs.declared.value.Value.{Value}
use Rattle.modbus_poll.specs.declared.value.Value.TheVariants.{Unsigned, Signed, Text}

-- the number of words of 16 bits, the least significant one first
abbrev pub from_low : List ℕ → ℕ
from_low [] = 0
from_low (low ∷ higher) = low + 2 ^ 16 * from_low higher

-- the number of words, with this one first
abbrev pub number_in : Order → List ℕ → ℕ
number_in LowFirst found = from_low found
number_in HighFirst found = from_low (reverse found)

-- What lies in these words: the number, where it is signed in two's complement of its width, or the bytes of a text, two for each
-- word, the high one first.
abbrev pub value : Kind → List ℕ → Value
value kind.U16 found = Unsigned (number_in HighFirst found)
value kind.I16 found = Signed (cast_signed w16 (number_in HighFirst found))
value (kind.U32 order) found = Unsigned (number_in order found)
value (kind.I32 order) found = Signed (cast_signed w32 (number_in order found))
value (kind.U64 order) found = Unsigned (number_in order found)
value (kind.I64 order) found = Signed (cast_signed w64 (number_in order found))
value (kind.Text count) found = Text (words found)

-- the kind of a text, whose bytes want memory
abbrev pub IsText : Kind → Type 0
IsText (kind.Text count) = ⊤
IsText _ = ⊥
