-- What the table of the checksum holds.
use Rattle.std.proofs.Common.{◌≡◌, ℕ, zero, suc, ◌+◌, ◌*◌, ◌<◌, List, [], get_or, map, refl, ap, ◌∙◌, arith}
use Rattle.std.specs.List.{range_with_len}
use Rattle.std.proofs.lemmas.List.FromFn.{get_or-map-range_with_len}
use Rattle.modbus_rtu.specs.declared.crc_table.TheConstants.{BYTE_SHIFTS}
use Rattle.modbus_rtu.specs.Checksum.{shifted_out, shifts}

-- the entries for so many bit steps
abbrev steps_of : ℕ → List ℕ
steps_of bits = map (shifts bits) (range_with_len 0 256)

abbrev pub row : ℕ → List ℕ
row k = get_or BYTE_SHIFTS k []

eight : row 0 ≡ steps_of 8
unfolding shifted_out shifts
eight = refl

sixteen : row 1 ≡ steps_of 16
unfolding shifted_out shifts
sixteen = refl

twenty_four : row 2 ≡ steps_of 24
unfolding shifted_out shifts
twenty_four = refl

thirty_two : row 3 ≡ steps_of 32
unfolding shifted_out shifts
thirty_two = refl

entry_of : (entries : List ℕ) (bits : ℕ) → entries ≡ steps_of bits → (low at : ℕ) → low < 256 → at ≡ low → get_or entries at 0 ≡ shifts bits low
entry_of entries bits is low at small e = ap (λ row. get_or row at 0) is ∙ get_or-map-range_with_len (shifts bits) 0 256 at low 0 (omega arith) (omega arith)

pub entry : (low at : ℕ) → low < 256 → at ≡ low → get_or (row 0) at 0 ≡ shifts 8 low
entry = entry_of (row 0) 8 eight

pub entry_of_two : (low at : ℕ) → low < 256 → at ≡ low → get_or (row 1) at 0 ≡ shifts 16 low
entry_of_two = entry_of (row 1) 16 sixteen

pub entry_of_three : (low at : ℕ) → low < 256 → at ≡ low → get_or (row 2) at 0 ≡ shifts 24 low
entry_of_three = entry_of (row 2) 24 twenty_four

pub entry_of_four : (low at : ℕ) → low < 256 → at ≡ low → get_or (row 3) at 0 ≡ shifts 32 low
entry_of_four = entry_of (row 3) 32 thirty_two

pub entry_at : (k low : ℕ) → k < 4 → low < 256 → get_or (row k) low 0 ≡ shifts (8 * (k + 1)) low
entry_at zero low few small = entry low low small refl
entry_at (suc zero) low few small = entry_of_two low low small refl
entry_at (suc (suc zero)) low few small = entry_of_three low low small refl
entry_at (suc (suc (suc zero))) low few small = entry_of_four low low small refl
entry_at (suc (suc (suc (suc k)))) low few small = absurd (omega arith)
