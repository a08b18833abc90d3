-- Eight bit steps of the checksum at once.
use Rattle.std.proofs.Common.{◌≡◌, ℕ, zero, suc, ◌+◌, ◌*◌, ◌/◌, ◌%◌, ◌^◌, ◌<◌, cond, eqb, true, false, Bool, bit_xor, refl, sym, ap, ◌∙◌, arith, add-zero, zero-add, mul_assoc}
use Rattle.std.specs.Int.Bits.{xor_assoc, xor_zero_r}
use Rattle.std.proofs.Math.Nat.{pow-succ'}
use Rattle.std.proofs.lemmas.Nat.{xor_comm, xor_shr, xor_mod, xor_block}
use Rattle.modbus_rtu.specs.Checksum.{shifted_out, shifts, with_byte}

-- a number above the lowest bit comes out of one bit step as it is
over_by : (test : Bool) (h half : ℕ) → cond test (bit_xor (bit_xor h half) 0xA001) (bit_xor h half) ≡ bit_xor h (cond test (bit_xor half 0xA001) half)
over_by true h half = xor_assoc h half 0xA001
over_by false h half = refl

half_over : (h low : ℕ) → bit_xor (h * 2) low / 2 ≡ bit_xor h (low / 2)
half_over h low = xor_shr (h * 2) low 1 ∙ ap (λ k. bit_xor k (low / 2)) (omega arith)

bit_over : (h low : ℕ) → bit_xor (h * 2) low % 2 ≡ low % 2
bit_over h low = let none : h * 2 % 2 ≡ 0 = omega arith in xor_mod (h * 2) low 1 ∙ ap (λ k. bit_xor k (low % 2)) none

one_over : (h low : ℕ) → shifted_out (bit_xor (h * 2) low) ≡ bit_xor h (shifted_out low)
unfolding shifted_out
one_over h low = rw (half_over h low, bit_over h low) (over_by (eqb (low % 2) 1) h (low / 2))

shifts_over : (n h low : ℕ) → shifts n (bit_xor (h * 2 ^ n) low) ≡ bit_xor h (shifts n low)
unfolding shifts
shifts_over zero h low = ap (λ k. bit_xor k low) (omega arith)
shifts_over (suc n) h low =
    let e : h * 2 ^ suc n ≡ h * 2 * 2 ^ n = ap (λ p. h * p) (pow-succ' 2 n) ∙ sym (mul_assoc h 2 (2 ^ n)) in
    ap (λ k. shifted_out (shifts n (bit_xor k low))) e ∙ ap shifted_out (shifts_over n (h * 2) low) ∙ one_over h (shifts n low)

-- a number is its high part, and its low byte
apart : (x : ℕ) → x ≡ bit_xor (x / 256 * 2 ^ 8) (x % 256)
apart x =
    let whole : x ≡ x / 256 * 256 + x % 256 = omega arith in
    let block = xor_block 8 (x / 256) 0 0 (x % 256) (omega arith) (omega arith) in
    whole ∙ sym (simp (add-zero, zero-add, xor_zero_r) at block)

byte_shifts : (x : ℕ) → shifts 8 x ≡ bit_xor (x / 256) (shifts 8 (x % 256))
byte_shifts x = ap (shifts 8) (apart x) ∙ shifts_over 8 (x / 256) (x % 256)

pub byte_step : (register byte : ℕ) → byte < 2 ^ 8 → with_byte register byte ≡ bit_xor (register / 256) (shifts 8 (bit_xor register byte % 256))
unfolding with_byte
byte_step register byte small =
    let none : byte / 256 ≡ 0 = omega arith in
    let high : bit_xor register byte / 256 ≡ register / 256 = xor_shr register byte 8 ∙ ap (bit_xor (register / 256)) none ∙ xor_zero_r (register / 256) in
    byte_shifts (bit_xor register byte) ∙ ap (λ h. bit_xor h (shifts 8 (bit_xor register byte % 256))) high

-- a bit step of two numbers is that of each
step_of_two : (p q h k : ℕ) → p < 2 → q < 2
    → cond (eqb (bit_xor p q) 1) (bit_xor (bit_xor h k) 0xA001) (bit_xor h k) ≡ bit_xor (cond (eqb p 1) (bit_xor h 0xA001) h) (cond (eqb q 1) (bit_xor k 0xA001) k)
step_of_two zero zero h k f g = refl
step_of_two zero (suc zero) h k f g = xor_assoc h k 0xA001
step_of_two (suc zero) zero h k f g = xor_assoc h k 0xA001 ∙ ap (bit_xor h) (xor_comm k 0xA001) ∙ sym (xor_assoc h 0xA001 k)
step_of_two (suc zero) (suc zero) h k f g =
    let none : bit_xor 0xA001 0xA001 ≡ 0 = refl in
    let both : bit_xor 0xA001 (bit_xor k 0xA001) ≡ k =
    ap (bit_xor 0xA001) (xor_comm k 0xA001) ∙ sym (xor_assoc 0xA001 0xA001 k) ∙ ap (λ m. bit_xor m k) none ∙ xor_comm 0 k ∙ xor_zero_r k in
    sym (xor_assoc h 0xA001 (bit_xor k 0xA001) ∙ ap (bit_xor h) both)
step_of_two (suc (suc p)) q h k f g = absurd (omega arith)
step_of_two p (suc (suc q)) h k f g = absurd (omega arith)

out_of_two : (a b : ℕ) → shifted_out (bit_xor a b) ≡ bit_xor (shifted_out a) (shifted_out b)
unfolding shifted_out
out_of_two a b = rw (xor_shr a b 1, xor_mod a b 1) (step_of_two (a % 2) (b % 2) (a / 2) (b / 2) (omega arith) (omega arith))

-- bit steps of two numbers are those of each
shifts_of_two : (n a b : ℕ) → shifts n (bit_xor a b) ≡ bit_xor (shifts n a) (shifts n b)
unfolding shifts
shifts_of_two zero a b = refl
shifts_of_two (suc n) a b = ap shifted_out (shifts_of_two n a b) ∙ out_of_two (shifts n a) (shifts n b)

shifts_after : (m n x : ℕ) → shifts (m + n) x ≡ shifts m (shifts n x)
unfolding shifts
shifts_after zero n x = ap (λ k. shifts k x) (zero-add n)
shifts_after (suc m) n x =
    let e : suc m + n ≡ suc (m + n) = omega arith in
    ap (λ k. shifts k x) e ∙ ap shifted_out (shifts_after m n x)

-- bit steps of a number are those of its low byte, and eight fewer of what is above it
low_byte_shifts : (n x : ℕ) → shifts (n + 8) x ≡ bit_xor (shifts n (x / 256)) (shifts (n + 8) (x % 256))
low_byte_shifts n x =
    shifts_after n 8 x ∙ ap (shifts n) (byte_shifts x) ∙ shifts_of_two n (x / 256) (shifts 8 (x % 256))
    ∙ ap (bit_xor (shifts n (x / 256))) (sym (shifts_after n 8 (x % 256)))

-- two bytes are taken as the number that they are, the low one first
two_bytes : (register a b : ℕ) → a < 2 ^ 8 → with_byte (with_byte register a) b ≡ shifts 16 (bit_xor register (b * 256 + a))
unfolding with_byte
two_bytes register a b small =
    let block = xor_block 8 b 0 0 a (omega arith) (omega arith) in
    let word : b * 256 + a ≡ bit_xor (b * 2 ^ 8) a = sym (simp (add-zero, zero-add, xor_zero_r) at block) in
    let over : bit_xor (shifts 8 (bit_xor register a)) b ≡ shifts 8 (bit_xor (b * 2 ^ 8) (bit_xor register a)) =
    xor_comm (shifts 8 (bit_xor register a)) b ∙ sym (shifts_over 8 b (bit_xor register a)) in
    let whole : bit_xor (b * 2 ^ 8) (bit_xor register a) ≡ bit_xor register (b * 256 + a) =
    sym (xor_assoc (b * 2 ^ 8) register a) ∙ ap (λ m. bit_xor m a) (xor_comm (b * 2 ^ 8) register) ∙ xor_assoc register (b * 2 ^ 8) a ∙ ap (bit_xor register) (sym word) in
    ap (shifts 8) (over ∙ ap (shifts 8) whole) ∙ sym (shifts_after 8 8 (bit_xor register (b * 256 + a)))

pub two_byte_step : (register a b : ℕ) → a < 2 ^ 8 → with_byte (with_byte register a) b
    ≡ bit_xor (shifts 8 (bit_xor register (b * 256 + a) / 256)) (shifts 16 (bit_xor register (b * 256 + a) % 256))
two_byte_step register a b small = two_bytes register a b small ∙ low_byte_shifts 8 (bit_xor register (b * 256 + a))

pub four_byte_step : (register a b c d : ℕ) → a < 2 ^ 8 → c < 2 ^ 8 → with_byte (with_byte (with_byte (with_byte register a) b) c) d
    ≡ bit_xor (bit_xor (shifts 24 (bit_xor register (b * 256 + a) / 256)) (shifts 32 (bit_xor register (b * 256 + a) % 256))) (bit_xor (shifts 8 d) (shifts 16 c))
four_byte_step register a b c d small low =
    let x = bit_xor register (b * 256 + a) in
    let high : (d * 256 + c) / 256 ≡ d = omega arith in
    let rest : (d * 256 + c) % 256 ≡ c = omega arith in
    ap (λ r. with_byte (with_byte r c) d) (two_bytes register a b small)
    ∙ two_bytes (shifts 16 x) c d low
    ∙ shifts_of_two 16 (shifts 16 x) (d * 256 + c)
    ∙ ap (λ m. bit_xor m (shifts 16 (d * 256 + c))) (sym (shifts_after 16 16 x) ∙ low_byte_shifts 24 x)
    ∙ ap (bit_xor (bit_xor (shifts 24 (x / 256)) (shifts 32 (x % 256)))) (low_byte_shifts 8 (d * 256 + c) ∙ ap (λ m. bit_xor (shifts 8 m) (shifts 16 ((d * 256 + c) % 256))) high ∙ ap (λ m. bit_xor (shifts 8 d) (shifts 16 m)) rest)
