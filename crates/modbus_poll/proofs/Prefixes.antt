-- Words that begin with no letter of a table.
use Rattle.std.proofs.Common.{◌≡◌, ◌≢◌, ℕ, List, [], ◌∷◌, refl, ap, arith}
use Rattle.std.proofs.lemmas.Bool.Decides.{nat_tests}
use Rattle.modbus_poll.specs.declared.notation.Table.TheVariants.{Holding}
use Rattle.modbus_poll.specs.Notation.{table_of, rest_of}

other_byte : (c byte : ℕ) (rest : List ℕ) → ((tail : List ℕ) → byte ∷ rest ≢ c ∷ tail) → byte ≢ c
other_byte c byte rest none e = none rest (ap (λ (b : ℕ). b ∷ rest) e)

pub holding_table : (word : List ℕ) → ((tail : List ℕ) → word ≢ 105 ∷ tail) → Holding ≡ table_of word
holding_table [] none = refl
holding_table (byte ∷ rest) none =
    let other : byte ≢ 105 = other_byte 105 byte rest none in
    grind (arith, nat_tests)

pub whole_rest : (word : List ℕ) → ((tail : List ℕ) → word ≢ 105 ∷ tail) → ((tail : List ℕ) → word ≢ 104 ∷ tail) → word ≡ rest_of word
whole_rest [] none_i none_h = refl
whole_rest (byte ∷ rest) none_i none_h =
    let other_i : byte ≢ 105 = other_byte 105 byte rest none_i in
    let other_h : byte ≢ 104 = other_byte 104 byte rest none_h in
    grind (arith, nat_tests)
