-- The number that words stand for, by the order of their bytes (Modbus Application Protocol V1.1b3, section 4.2, has the first of the four).
use Rattle.std.specs.Prelude.{ℕ, ◌+◌, ◌*◌, ◌/◌, ◌%◌, ◌^◌, List, [], ◌∷◌, reverse}
use Rattle.modbus_map.specs.declared.kind.ByteOrder.{ByteOrder}
use Rattle.modbus_map.specs.declared.kind.ByteOrder.TheVariants.{Abcd, Cdab, Badc, Dcba}

-- a word with its two bytes the other way round
abbrev pub swapped : ℕ → ℕ
swapped word = word % 256 * 256 + word / 256

-- what a word is where its high byte comes first, and where its low byte does
abbrev pub word_in : ByteOrder → ℕ → ℕ
word_in Abcd word = word
word_in Cdab word = word
word_in Badc word = swapped word
word_in Dcba word = swapped word

-- the words with the least significant one first
abbrev pub low_first : ByteOrder → List ℕ → List ℕ
low_first Abcd words = reverse words
low_first Cdab words = words
low_first Badc words = reverse words
low_first Dcba words = words

-- the number of digits in base 2 ^ 16, each read in its order, the least significant first
abbrev pub from_low : ByteOrder → List ℕ → ℕ
from_low order [] = 0
from_low order (word ∷ higher) = word_in order word + 2 ^ 16 * from_low order higher

-- the number of words in this order
abbrev pub number_in : ByteOrder → List ℕ → ℕ
number_in order words = from_low order (low_first order words)
