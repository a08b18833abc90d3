-- The words of a number, one after another.
use Rattle.std.proofs.Common.{◌≡◌, ℕ, suc, ◌+◌, ◌-◌, ◌*◌, ◌/◌, ◌%◌, ◌^◌, ◌<◌, List, [], ◌∷◌, ◌++◌, length, refl, ap, ◌∙◌, arith}
use Rattle.std.proofs.lemmas.Nat.{pow-add, shr_below}
use Rattle.modbus_map.specs.declared.kind.ByteOrder.{ByteOrder}
use Rattle.modbus_map.specs.declared.kind.ByteOrder.TheVariants.{Abcd, Cdab, Badc, Dcba}
use Rattle.modbus_map.specs.Orders.{swapped, word_in, from_low}

swapped_twice : (word : ℕ) → word < 65536 → swapped (swapped word) ≡ word
swapped_twice word small = omega arith

-- a word that is put in its order is read in it
pub word_back : (order : ByteOrder) (word : ℕ) → word < 65536 → word_in order (word_in order word) ≡ word
word_back Abcd word small = refl
word_back Cdab word small = refl
word_back Badc word small = swapped_twice word small
word_back Dcba word small = swapped_twice word small

wider : (k : ℕ) → 2 ^ (16 * suc k) ≡ 65536 * 2 ^ (16 * k)
wider k =
    let same : 16 * suc k ≡ 16 + 16 * k = omega arith in
    ap (λ (n : ℕ). 2 ^ n) same ∙ pow-add 2 16 (16 * k)

from_low_push : (order : ByteOrder) (words : List ℕ) (word : ℕ)
    → from_low order (words ++ word ∷ []) ≡ from_low order words + 2 ^ (16 * length words) * word_in order word
from_low_push order [] word = let z : 2 ^ (16 * 0) ≡ 1 = refl in omega arith
from_low_push order (first ∷ words) word =
    let more : from_low order (words ++ word ∷ []) ≡ from_low order words + 2 ^ (16 * length words) * word_in order word = from_low_push order words word in
    let w : 2 ^ (16 * suc (length words)) ≡ 65536 * 2 ^ (16 * length words) = wider (length words) in
    rw (more, w) (omega arith)

-- one word more
pub one_more : (order : ByteOrder) (words : List ℕ) (place rest number word : ℕ) → length words ≡ place
    → word ≡ word_in order (rest % 65536)
    → from_low order words + 2 ^ (16 * place) * rest ≡ number
    → from_low order (words ++ word ∷ []) + 2 ^ (16 * (place + 1)) * (rest / 65536) ≡ number
one_more order words place rest number word long made e =
    let back : word_in order word ≡ rest % 65536 = ap (word_in order) made ∙ word_back order (rest % 65536) (omega arith) in
    let pushed : from_low order (words ++ word ∷ []) ≡ from_low order words + 2 ^ (16 * place) * (rest % 65536) =
    from_low_push order words word ∙ ap (λ (k : ℕ). from_low order words + 2 ^ (16 * k) * word_in order word) long
    ∙ ap (λ (w : ℕ). from_low order words + 2 ^ (16 * place) * w) back in
    let same : place + 1 ≡ suc place = omega arith in
    let w : 2 ^ (16 * suc place) ≡ 65536 * 2 ^ (16 * place) = wider place in
    let split : rest ≡ 65536 * (rest / 65536) + rest % 65536 = omega arith in
    let parts : 2 ^ (16 * place) * rest ≡ 2 ^ (16 * place) * (65536 * (rest / 65536) + rest % 65536) = ap (λ (n : ℕ). 2 ^ (16 * place) * n) split in
    rw (pushed, same, w) (omega (arith, parts, e))

pub one_less : (count place rest : ℕ) → place < count → rest < 2 ^ (16 * (count - place)) → rest / 65536 < 2 ^ (16 * (count - (place + 1)))
one_less count place rest less below =
    let same : 16 * (count - place) ≡ 16 * (count - (place + 1)) + 16 = omega arith in
    shr_below rest (16 * (count - (place + 1))) 16 (rw (← same) below)
