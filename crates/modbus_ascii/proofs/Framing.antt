-- The characters of a frame.
use Rattle.std.proofs.Common.{◌≡◌, ℕ, ◌+◌, ◌*◌, ◌/◌, ◌%◌, ◌<◌, List, [], ◌∷◌, ◌++◌, length, Result, Err, arith, length-append, append_assoc}
use Rattle.std.proofs.lemmas.Grind.{flat_map-append}
use Rattle.modbus_frame.specs.declared.fault.EncodeError.{EncodeError}
use Rattle.modbus_frame.specs.declared.fault.EncodeError.TheVariants.{NoMemory}
use Rattle.modbus_pdu.specs.Encodes.{Encodes}
use Rattle.modbus_ascii.specs.Checksum.{lrc}
use Rattle.modbus_ascii.specs.Encoder.{digit, text_of, body, frame}
use Rattle.modbus_ascii.specs.Limits.{carriage_return, line_feed, colon, max_frame}

pub text_of-append : (xs ys : List ℕ) → text_of (xs ++ ys) ≡ text_of xs ++ text_of ys
unfolding text_of
text_of-append xs ys = flat_map-append (λ (byte : ℕ). digit (byte / 16) ∷ digit (byte % 16) ∷ []) xs ys

pub length-text_of : (xs : List ℕ) → length (text_of xs) ≡ 2 * length xs
unfolding text_of
length-text_of [] = omega arith
length-text_of (x ∷ xs) = omega (arith, length-text_of xs)

pub length-frame : (slave : ℕ) (pdu : List ℕ) → length (frame slave pdu) ≡ 2 * (length pdu + 2) + 3
unfolding frame
length-frame slave pdu =
    let sum = lrc (slave ∷ pdu) in
    omega (arith, length-append (colon ∷ text_of (body slave pdu)) (carriage_return ∷ line_feed ∷ []), length-text_of (body slave pdu), length-append (slave ∷ pdu) (sum ∷ []))

-- the pieces in which a frame is written
pub frame-pieces : (old one two three four bytes : List ℕ) (sum : ℕ) → one ≡ old ++ colon ∷ [] → two ≡ one ++ text_of bytes → three ≡ two ++ text_of (sum ∷ [])
    → four ≡ three ++ carriage_return ∷ line_feed ∷ [] → four ≡ old ++ (colon ∷ text_of (bytes ++ sum ∷ []) ++ carriage_return ∷ line_feed ∷ [])
frame-pieces old one two three four bytes sum a b c d =
    rw (d, c, b, a, text_of-append bytes (sum ∷ [])) (simp append_assoc)

-- a reply's buffer has room for each frame
pub frame_room : (slave spare : ℕ) (pdu old new : List ℕ) (result : Result (Unit {0}) EncodeError) → Encodes (frame slave pdu) pdu old result new
    → (result ≡ Err NoMemory → spare < length (frame slave pdu)) → result ≡ Err NoMemory → spare < max_frame
frame_room slave spare pdu old new (Err NoMemory) encodes less e = omega (arith, less e, length-frame slave pdu, encodes.cause)
frame_room slave spare pdu old new _ encodes less e = cc
