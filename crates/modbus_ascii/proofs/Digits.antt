-- The digits of a text, and the bytes of a frame.
use Rattle.std.proofs.Common.{◌≡◌, ℕ, ◌+◌, ◌*◌, ◌/◌, ◌%◌, ◌<◌, ◌≤◌, ◌==◌, nat_le, Bool, true, false, ◌&&◌, if◌then◌else◌, List, [], ◌∷◌, ◌++◌, map, length, Option, Some, None, refl, ap, ◌∙◌, arith, length-append, append-nil, append_assoc}
use Rattle.std.specs.Prelude.{sum}
use Rattle.std.specs.List.{list_all}
use Rattle.std.specs.Option.{option_to_list}
use Rattle.std.proofs.lemmas.List.{length-map}
use Rattle.std.proofs.lemmas.List.Folds.{list_all-append}
use Rattle.modbus_ascii.specs.Limits.{shortest_body, max_body, shortest_text, longest_text}
use Rattle.modbus_ascii.specs.Frames.{is_hex_digit, digit_value, bytes_of_digits, is_frame, slave_and_pdu, frame_of}
use Rattle.modbus_ascii.specs.Decoder.{Reading, digits_of, AreDigits, IsUseless, made_frame, ended}

-- the bytes of a text are those whose digits it has
pub bytes_of-digits : (bytes text : List ℕ) → map digit_value text ≡ digits_of bytes → bytes_of_digits text ≡ bytes
unfolding bytes_of_digits
bytes_of-digits [] [] e = refl
bytes_of-digits [] (c ∷ text) e = cc
bytes_of-digits (b ∷ bytes) [] e = cc
bytes_of-digits (b ∷ bytes) (c ∷ []) e = cc
bytes_of-digits (b ∷ bytes) (c ∷ d ∷ text) e =
    let high : digit_value c ≡ b / 16 = cc in
    let low : digit_value d ≡ b % 16 = cc in
    let rest : map digit_value text ≡ digits_of bytes = cc in
    let ih = bytes_of-digits bytes text rest in
    let whole : 16 * (b / 16) + b % 16 ≡ b = omega arith in
    rw (high, low, whole, ih) refl

pub length-digits_of : (bytes : List ℕ) → length (digits_of bytes) ≡ 2 * length bytes
length-digits_of [] = refl
length-digits_of (b ∷ bytes) = omega (arith, length-digits_of bytes)

-- a text has two digits for each byte, and the one that waits
pub length-text : (bytes : List ℕ) (half : Option ℕ) (text : List ℕ) → AreDigits bytes half text
    → length text ≡ 2 * length bytes + length (option_to_list half)
length-text bytes half text d =
    omega (arith, length-map text digit_value, ap length d.values, length-append (digits_of bytes) (option_to_list half), length-digits_of bytes)

-- the test of a frame, of digits whose bytes are these
made : (text bytes : List ℕ) → list_all is_hex_digit text ≡ true → length text ≡ 2 * length bytes → length bytes ≤ max_body → bytes_of_digits text ≡ bytes
    → is_frame text ≡ (nat_le shortest_body (length bytes) && sum bytes % 256 == 0)
made text bytes digits size most is = rw (digits, size, is) (by_size (length bytes) (sum bytes % 256 == 0) most)
  where
    by_size : (n : ℕ) (adds : Bool) → n ≤ max_body → (nat_le shortest_text (2 * n) && nat_le (2 * n) longest_text && 2 * n % 2 == 0 && true && adds) ≡ (nat_le shortest_body n && adds)
    by_size n adds most = grind arith

unmade : (text : List ℕ) (n : ℕ) → length text ≡ 2 * n + 1 → is_frame text ≡ false
unmade text n size = rw size (by_size (list_all is_hex_digit text) (sum (bytes_of_digits text) % 256 == 0))
  where
    by_size : (digits adds : Bool) → (nat_le shortest_text (2 * n + 1) && nat_le (2 * n + 1) longest_text && (2 * n + 1) % 2 == 0 && digits && adds) ≡ false
    by_size digits adds = grind arith

made_or_not : (reading : Reading) (c : Bool) → (if c then slave_and_pdu reading.bytes ∷ [] else []) ≡ ended (true && c) reading
made_or_not reading true = refl
made_or_not reading false = refl

-- the frame of a text that was read
pub frame_of-digits : (reading : Reading) (text : List ℕ) → AreDigits reading.bytes reading.half text → length reading.bytes ≤ max_body
    → frame_of text ≡ ended (made_frame reading) reading
unfolding frame_of
frame_of-digits reading text d most = by_half reading.half d.values (length-text reading.bytes reading.half text d)
  where
    by_half : (half : Option ℕ) → map digit_value text ≡ digits_of reading.bytes ++ option_to_list half
        → length text ≡ 2 * length reading.bytes + length (option_to_list half)
        → (if is_frame text then slave_and_pdu (bytes_of_digits text) ∷ [] else [])
        ≡ ended (length (option_to_list half) == 0 && nat_le shortest_body (length reading.bytes) && sum reading.bytes % 256 == 0) reading
    by_half None values size =
        let is : bytes_of_digits text ≡ reading.bytes = bytes_of-digits reading.bytes text (values ∙ append-nil (digits_of reading.bytes)) in
        let test = made text reading.bytes d.digits (omega arith) most is in
        rw (test, is) (made_or_not reading (nat_le shortest_body (length reading.bytes) && sum reading.bytes % 256 == 0))
    by_half (Some high) values size =
        let test : is_frame text ≡ false = unmade text (length reading.bytes) size in
        rw test refl

-- ---- texts of no frame

never : (a b : Bool) → ((a && (false && true)) && b) ≡ false
never true b = refl
never false b = refl

nothing : (a b : Bool) → (a && false && b) ≡ false
nothing true b = refl
nothing false b = refl

beyond : (a b c d : Bool) → (a && false && b && c && d) ≡ false
beyond true b c d = refl
beyond false b c d = refl

pub useless-more : (text more : List ℕ) → IsUseless text → IsUseless (text ++ more)
useless-more text more u = λ later. rw append_assoc (u (more ++ later))

pub useless-other : (text : List ℕ) (c : ℕ) → is_hex_digit c ≡ false → IsUseless (text ++ c ∷ [])
unfolding frame_of
useless-other text c e = λ more. rw (undigit more) refl
  where
    undigit : (more : List ℕ) → is_frame ((text ++ c ∷ []) ++ more) ≡ false
    undigit more =
        let none : list_all is_hex_digit ((text ++ c ∷ []) ++ more) ≡ false =
        rw (list_all-append is_hex_digit (text ++ c ∷ []) more, list_all-append is_hex_digit text (c ∷ []), e) (never (list_all is_hex_digit text) (list_all is_hex_digit more)) in
        rw none (nothing (nat_le shortest_text (length ((text ++ c ∷ []) ++ more)) && nat_le (length ((text ++ c ∷ []) ++ more)) longest_text && length ((text ++ c ∷ []) ++ more) % 2 == 0) (sum (bytes_of_digits ((text ++ c ∷ []) ++ more)) % 256 == 0))

pub useless-long : (text : List ℕ) → longest_text < length text → IsUseless text
unfolding frame_of
useless-long text long = λ more. rw (too_long more) refl
  where
    too_long : (more : List ℕ) → is_frame (text ++ more) ≡ false
    too_long more =
        let above : nat_le (length (text ++ more)) longest_text ≡ false = grind (arith, length-append text more) in
        rw above (beyond (nat_le shortest_text (length (text ++ more))) (length (text ++ more) % 2 == 0) (list_all is_hex_digit (text ++ more)) (sum (bytes_of_digits (text ++ more)) % 256 == 0))
