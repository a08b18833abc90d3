-- A byte behind bytes of which the zeros at the end are dropped.
use Rattle.std.proofs.Common.{◌≡◌, ◌≢◌, ℕ, ◌+◌, ◌<◌, List, [], ◌∷◌, ◌++◌, length, get_or, take, refl, sym, ap, ◌∙◌, arith}
use Rattle.std.proofs.lemmas.List.{take_more}
use Rattle.std.proofs.lemmas.Bool.Decides.{nat_tests}
use Rattle.modbus_map.specs.Text.{trimmed, trimmed_after}

-- a zero is dropped
pub trimmed_zero : (bytes : List ℕ) → trimmed (bytes ++ 0 ∷ []) ≡ trimmed bytes
trimmed_zero [] = refl
trimmed_zero (byte ∷ rest) = ap (trimmed_after byte) (trimmed_zero rest)

before_some : (byte last : ℕ) (rest : List ℕ) → trimmed_after byte (rest ++ last ∷ []) ≡ byte ∷ (rest ++ last ∷ [])
before_some byte last [] = refl
before_some byte last (next ∷ rest) = refl

-- behind another byte none is
pub trimmed_other : (bytes : List ℕ) (last : ℕ) → last ≢ 0 → trimmed (bytes ++ last ∷ []) ≡ bytes ++ last ∷ []
trimmed_other [] last other = grind (arith, nat_tests)
trimmed_other (byte ∷ rest) last other = ap (trimmed_after byte) (trimmed_other rest last other) ∙ before_some byte last rest

-- one more byte, which is no zero
pub more_other : (bytes : List ℕ) (i : ℕ) → i < length bytes → get_or bytes i 0 ≢ 0 → take (i + 1) bytes ≡ trimmed (take (i + 1) bytes)
more_other bytes i less other = rw (take_more bytes i 0 less) (sym (trimmed_other (take i bytes) (get_or bytes i 0) other))

-- one more zero
pub more_zero : (bytes : List ℕ) (i end : ℕ) → i < length bytes → get_or bytes i 0 ≡ 0 → take end bytes ≡ trimmed (take i bytes) → take end bytes ≡ trimmed (take (i + 1) bytes)
more_zero bytes i end less zero kept = rw (take_more bytes i 0 less) (rw zero (kept ∙ sym (trimmed_zero (take i bytes))))
