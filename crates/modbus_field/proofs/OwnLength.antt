-- Which functions have a length of their own in a burst.
use Rattle.std.proofs.Common.{◌≡◌, ◌≢◌, ℕ, ◌+◌, ◌<◌, ◌≤◌, List, ◌∷◌, Some, None, Ok, refl, arith}
use Rattle.std.proofs.lemmas.Bool.Decides.{nat_tests}
use Rattle.modbus_frame.specs.FunctionCodes.{diagnostics, read_file_record, write_file_record}
use Rattle.modbus_pdu.specs.Limits.{max_pdu, two_words_pdu}
use Rattle.modbus_field.specs.BurstLength.{own_head}

pub counted_read : (slave count : ℕ) (rest : List ℕ) → count + 2 ≤ max_pdu → own_head (slave ∷ read_file_record ∷ count ∷ rest) ≡ Some (Ok (Some (2 + count)))
unfolding own_head
counted_read slave count rest fits = grind (arith, nat_tests, fits)

pub counted_write : (slave count : ℕ) (rest : List ℕ) → count + 2 ≤ max_pdu → own_head (slave ∷ write_file_record ∷ count ∷ rest) ≡ Some (Ok (Some (2 + count)))
unfolding own_head
counted_write slave count rest fits = grind (arith, nat_tests, fits)

pub fixed : (slave sub : ℕ) (rest : List ℕ) → 0 < sub → own_head (slave ∷ diagnostics ∷ 0 ∷ sub ∷ rest) ≡ Some (Ok (Some two_words_pdu))
unfolding own_head
fixed slave sub rest some = grind (arith, nat_tests, some)

pub echo : (slave : ℕ) (rest : List ℕ) → own_head (slave ∷ diagnostics ∷ 0 ∷ 0 ∷ rest) ≡ None
unfolding own_head
echo slave rest = refl

pub no_other : (slave code : ℕ) (rest : List ℕ) → code ≢ read_file_record → code ≢ write_file_record → code ≢ diagnostics → own_head (slave ∷ code ∷ rest) ≡ None
unfolding own_head
no_other slave code rest a b c = grind (arith, nat_tests, a, b, c)
