-- The fields of a PDU: words and packed coils, at the places of a list of bytes and as bytes.
use Rattle.std.specs.Prelude.{ℕ, zero, suc, ◌+◌, ◌*◌, ◌/◌, ◌%◌, ◌^◌, Bool, true, false, List, length, map, slice_index, slice_index_or, ◌==◌, Result, Ok, Err, if◌then◌else◌}
use Rattle.std.specs.List.{range_with_len}
use Rattle.modbus_frame.specs.declared.fault.Reason.{Reason}
use Rattle.modbus_frame.specs.declared.fault.Reason.TheVariants.{InvalidCoil}

-- the two bytes at a place as a number, the high one first (V1.1b3, 4.2)
abbrev pub word_at : List ℕ → ℕ → ℕ
word_at bytes place = slice_index bytes place * 256 + slice_index bytes (place + 1)

-- the first words of bytes
abbrev pub words_of : List ℕ → ℕ → List ℕ
words_of bytes count = map (λ i. word_at bytes (2 * i)) (range_with_len 0 count)

-- coil i is bit i % 8 of byte i / 8 (V1.1b3, 6.1)
abbrev pub coil_at : List ℕ → ℕ → Bool
coil_at bytes i = slice_index bytes (i / 8) / 2 ^ (i % 8) % 2 == 1

-- the first coils of bytes
abbrev pub coils_of : List ℕ → ℕ → List Bool
coils_of bytes count = map (coil_at bytes) (range_with_len 0 count)

-- the number of a bit
abbrev pub bit_of : Bool → ℕ
bit_of true = 1
bit_of false = 0

-- so many coils from a place on as a number, the first in its lowest bit; past the end they are off
unfoldable pub bits_at : List Bool → ℕ → ℕ → ℕ
bits_at coils place zero = 0
bits_at coils place (suc n) = bits_at coils place n + bit_of (slice_index_or coils (place + n) false) * 2 ^ n

-- how many bytes so many coils take: an eighth, rounded up (V1.1b3, 6.11)
abbrev pub packed_size : ℕ → ℕ
packed_size count = (count + 7) / 8

-- the coils as bytes: byte k holds the eight coils from 8 k on, unused bits are 0 (V1.1b3, 6.11)
unfoldable pub packed_bytes : List Bool → List ℕ
packed_bytes coils = map (λ k. bits_at coils (8 * k) 8) (range_with_len 0 (packed_size (length coils)))

-- the word that stands for a coil: FF00 is on, 0000 is off (V1.1b3, 6.5)
abbrev pub coil_word : Bool → ℕ
coil_word true = 0xFF00
coil_word false = 0

-- the coil that a word stands for, and every other word is refused (V1.1b3, 6.5)
abbrev pub coil_of : ℕ → Result Bool Reason
coil_of word = if word == coil_word true then Ok true else if word == coil_word false then Ok false else Err (InvalidCoil word)
