-- The words of a text, one after another.
use Rattle.std.proofs.Common.{◌≡◌, ℕ, zero, suc, ◌+◌, ◌-◌, ◌*◌, ◌/◌, ◌%◌, ◌<◌, ◌≤◌, List, [], ◌∷◌, ◌++◌, length, get_or, take, replicate, refl, sym, ap, ◌∙◌, arith}
use Rattle.std.proofs.lemmas.List.{take_more, length-append, length-replicate, append_assoc}
use Rattle.std.proofs.lemmas.Grind.{common_steps}
use Rattle.modbus_map.specs.declared.kind.ByteOrder.{ByteOrder}
use Rattle.modbus_map.specs.Orders.{word_in}
use Rattle.modbus_map.specs.Values.{bytes_of, bytes_of_word}
use Rattle.modbus_map.specs.Writing.{filled}
use Rattle.modbus_map.proofs.WordsOf.{word_back}

zeros : (n i : ℕ) → get_or {A = ℕ} (replicate n 0) i 0 ≡ zero
zeros zero zero = refl
zeros zero (suc i) = refl
zeros (suc n) zero = refl
zeros (suc n) (suc i) = zeros n i

-- a byte of a text with zeros behind it
behind : (bytes : List ℕ) (n i : ℕ) → get_or (bytes ++ replicate n 0) i 0 ≡ get_or bytes i 0
behind [] n zero = zeros n zero
behind [] n (suc i) = zeros n (suc i)
behind (byte ∷ bytes) n zero = refl
behind (byte ∷ bytes) n (suc i) = behind bytes n i

length_filled : (count : ℕ) (bytes : List ℕ) → length bytes ≤ 2 * count → length (filled count bytes) ≡ 2 * count
length_filled count bytes fits =
    length-append bytes (replicate (2 * count - length bytes) 0) ∙ ap (λ (n : ℕ). length bytes + n) (length-replicate (2 * count - length bytes) 0) ∙ omega arith

bytes_push : (order : ByteOrder) (words : List ℕ) (word : ℕ) → bytes_of order (words ++ word ∷ []) ≡ bytes_of order words ++ bytes_of_word (word_in order word)
bytes_push order words word = grind (arith, common_steps)

two_more : (bytes : List ℕ) (i : ℕ) → i + 1 < length bytes → take (i + 2) bytes ≡ take i bytes ++ get_or bytes i 0 ∷ get_or bytes (i + 1) 0 ∷ []
two_more bytes i less =
    let same : i + 2 ≡ i + 1 + 1 = omega arith in
    ap (λ (n : ℕ). take n bytes) same ∙ take_more bytes (i + 1) 0 less
    ∙ ap (λ (front : List ℕ). front ++ get_or bytes (i + 1) 0 ∷ []) (take_more bytes i 0 (omega arith))
    ∙ append_assoc (take i bytes) (get_or bytes i 0 ∷ []) (get_or bytes (i + 1) 0 ∷ [])

-- one word more
pub word_more : (order : ByteOrder) (words bytes : List ℕ) (count place a b word : ℕ) → place < count → length bytes ≤ 2 * count
    → a ≡ get_or bytes (2 * place) 0 → b ≡ get_or bytes (2 * place + 1) 0 → a < 256 → b < 256 → word ≡ word_in order (a * 256 + b)
    → bytes_of order words ≡ take (2 * place) (filled count bytes)
    → bytes_of order (words ++ word ∷ []) ≡ take (2 * (place + 1)) (filled count bytes)
word_more order words bytes count place a b word less fits ea eb small_a small_b made e =
    let back : word_in order word ≡ a * 256 + b = ap (word_in order) made ∙ word_back order (a * 256 + b) (omega arith) in
    let high : (a * 256 + b) / 256 ≡ a = omega arith in
    let low : (a * 256 + b) % 256 ≡ b = omega arith in
    let long : length (filled count bytes) ≡ 2 * count = length_filled count bytes fits in
    let next : take (2 * place + 2) (filled count bytes) ≡ take (2 * place) (filled count bytes) ++ get_or (filled count bytes) (2 * place) 0 ∷ get_or (filled count bytes) (2 * place + 1) 0 ∷ [] =
    two_more (filled count bytes) (2 * place) (omega arith) in
    let same : 2 * (place + 1) ≡ 2 * place + 2 = omega arith in
    bytes_push order words word
    ∙ ap (λ (w : ℕ). bytes_of order words ++ bytes_of_word w) back
    ∙ ap (λ (h : ℕ). bytes_of order words ++ h ∷ (a * 256 + b) % 256 ∷ []) high
    ∙ ap (λ (l : ℕ). bytes_of order words ++ a ∷ l ∷ []) low
    ∙ ap (λ (front : List ℕ). front ++ a ∷ b ∷ []) e
    ∙ ap (λ (h : ℕ). take (2 * place) (filled count bytes) ++ h ∷ b ∷ []) (ea ∙ sym (behind bytes (2 * count - length bytes) (2 * place)))
    ∙ ap (λ (l : ℕ). take (2 * place) (filled count bytes) ++ get_or (filled count bytes) (2 * place) 0 ∷ l ∷ []) (eb ∙ sym (behind bytes (2 * count - length bytes) (2 * place + 1)))
    ∙ sym next ∙ ap (λ (n : ℕ). take n (filled count bytes)) (sym same)

-- and all of them
pub all : (bytes : List ℕ) (count : ℕ) → length bytes ≤ 2 * count → take (2 * count) (filled count bytes) ≡ filled count bytes
all bytes count fits = let long : length (filled count bytes) ≡ 2 * count = length_filled count bytes fits in grind (arith, common_steps)
