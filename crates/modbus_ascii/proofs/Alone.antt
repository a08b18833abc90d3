-- Frames one after another deliver exactly what is in them.
use Rattle.std.proofs.Common.{◌≡◌, ◌≢◌, ℕ, ◌+◌, ◌-◌, ◌/◌, ◌%◌, ◌<◌, ◌==◌, nat_le, true, false, List, [], ◌∷◌, ◌++◌, map, length, take, drop, None, refl, sym, ap, ◌∙◌, arith, length-append, append-nil, append_assoc}
use Rattle.std.specs.Prelude.{sum}
use Rattle.std.specs.List.{AllByRecursion, list_all, fold}
use Rattle.std.proofs.lemmas.Bool.{and_parts}
use Rattle.std.proofs.lemmas.List.{take_at}
use Rattle.modbus_pdu.specs.Laws.{IsByte}
use Rattle.modbus_pdu.specs.SlavePdu.{SlavePdu, IsFramed}
use Rattle.modbus_pdu.specs.Message.{message}
use Rattle.modbus_ascii.specs.Limits.{colon, carriage_return, line_feed, shortest_body}
use Rattle.modbus_ascii.specs.Checksum.{lrc}
use Rattle.modbus_ascii.specs.Text.{begins_end, from_end, is_open, open_end}
use Rattle.modbus_ascii.specs.Frames.{is_hex_digit, digit_value, frame_of, frames}
use Rattle.modbus_ascii.specs.Decoder.{Reading, digits_of, AreDigits, made_frame, ended}
use Rattle.modbus_ascii.specs.declared.decoder.Phase.TheVariants.{Digits}
use Rattle.modbus_ascii.specs.Encoder.{digit, text_of, body, frame}
use Rattle.modbus_ascii.specs.WholeReading.{stream_of}
use Rattle.modbus_ascii.specs.Stands.{kept_of}
use Rattle.modbus_ascii.proofs.Ends.{but_last, opened, given, open_end-more, frames-more}
use Rattle.modbus_ascii.proofs.Digits.{frame_of-digits}
use Rattle.modbus_ascii.proofs.Decoding.{but_last-push, opened-ended, given-ended, given-quiet, no-feed, on-quiet}
use Rattle.modbus_ascii.proofs.Going.{length-kept, frames-closed}
use Rattle.modbus_ascii.proofs.Holding.{open_end-colon, all-open-quiet, front-quiet}

digit-is : (n : ℕ) → n < 16 → is_hex_digit (digit n) ≡ true
digit-is n h = grind arith

digit-means : (n : ℕ) → n < 16 → digit_value (digit n) ≡ n
digit-means n h = grind arith

-- the text of bytes is digits, which are theirs
text-digits : (bytes : List ℕ) → AllByRecursion IsByte bytes → list_all is_hex_digit (text_of bytes) ≡ true
unfolding text_of
text-digits [] all = refl
text-digits (b ∷ bytes) all =
    let high = digit-is (b / 16) (omega (arith, all.0)) in
    let low = digit-is (b % 16) (omega arith) in
    rw (high, low) (text-digits bytes all.1)

text-values : (bytes : List ℕ) → AllByRecursion IsByte bytes → map digit_value (text_of bytes) ≡ digits_of bytes
unfolding text_of
text-values [] all = refl
text-values (b ∷ bytes) all =
    let high = digit-means (b / 16) (omega (arith, all.0)) in
    let low = digit-means (b % 16) (omega arith) in
    rw (high, low) (ap (λ r. b / 16 ∷ b % 16 ∷ r) (text-values bytes all.1))

-- digits have no end
no-end : (c : ℕ) (text : List ℕ) → is_hex_digit c ≡ true → begins_end (c ∷ text) ≡ false
no-end c [] d = grind arith
no-end c (x ∷ text) d = grind arith

digits-open : (text : List ℕ) → list_all is_hex_digit text ≡ true → is_open text ≡ true
unfolding from_end
digits-open [] d = refl
digits-open (c ∷ text) d =
    let each = and_parts (is_hex_digit c) (list_all is_hex_digit text) d in
    rw (no-end c text each.0) (digits-open text each.1)

-- ---- one frame

body-bytes : (slave : ℕ) (pdu : List ℕ) → IsByte slave → AllByRecursion IsByte pdu → AllByRecursion IsByte (body slave pdu)
body-bytes slave pdu one all = (one, after pdu all)
  where
    check : IsByte (lrc (slave ∷ pdu))
    check = omega arith

    after : (rest : List ℕ) → AllByRecursion IsByte rest → AllByRecursion IsByte (rest ++ lrc (slave ∷ pdu) ∷ [])
    after [] all = (check, tt)
    after (x ∷ rest) all = (all.0, after rest all.1)

fold-push : (a : ℕ) (xs : List ℕ) (x : ℕ) → fold (λ (m n : ℕ). m + n) a (xs ++ x ∷ []) ≡ fold (λ (m n : ℕ). m + n) a xs + x
fold-push a [] x = refl
fold-push a (y ∷ xs) x = fold-push (a + y) xs x

-- the bytes of a frame add up to 0
adds-up : (slave : ℕ) (pdu : List ℕ) → sum (body slave pdu) % 256 ≡ 0
adds-up slave pdu =
    let all : sum (body slave pdu) ≡ sum (slave ∷ pdu) + lrc (slave ∷ pdu) = fold-push 0 (slave ∷ pdu) (lrc (slave ∷ pdu)) in
    to_zero (sum (slave ∷ pdu)) (sum (body slave pdu)) all
  where
    to_zero : (s all : ℕ) → all ≡ s + (256 - s % 256) % 256 → all % 256 ≡ 0
    to_zero s all e = omega arith

abbrev reading_of : List ℕ → Reading
reading_of bytes = record { phase = Digits; bytes = bytes; half = None }

text-of-frame : (slave : ℕ) (pdu : List ℕ) → IsFramed (message slave pdu) → frame_of (text_of (body slave pdu)) ≡ message slave pdu ∷ []
text-of-frame slave pdu f =
    let bytes = body slave pdu in
    let all = body-bytes slave pdu f.slave f.bytes in
    let size : length bytes ≡ length pdu + 2 = omega (arith, length-append (slave ∷ pdu) (lrc (slave ∷ pdu) ∷ [])) in
    let d : AreDigits bytes None (text_of bytes) = record { digits = text-digits bytes all; values = text-values bytes all ∙ sym (append-nil (digits_of bytes)) } in
    let made = frame_of-digits (reading_of bytes) (text_of bytes) d (omega (arith, size, f.fits)) in
    let enough : nat_le shortest_body (length bytes) ≡ true = grind (arith, size, f.some) in
    let zero_ : (sum bytes % 256 == 0) ≡ true = rw (adds-up slave pdu) refl in
    let yes' : made_frame (reading_of bytes) ≡ true = rw (enough, zero_) refl in
    let inner : take (length bytes - 2) (drop 1 bytes) ≡ pdu = take_at pdu (lrc (slave ∷ pdu) ∷ []) (length bytes - 2) (omega (arith, size)) in
    made ∙ ap (λ m. ended m (reading_of bytes)) yes' ∙ ap (λ p. message slave p ∷ []) inner

-- the bytes of a frame but the last
abbrev before_feed : ℕ → List ℕ → List ℕ
before_feed slave pdu = colon ∷ text_of (body slave pdu) ++ carriage_return ∷ []

-- they are all open, and deliver nothing
before-feed-open : (slave : ℕ) (pdu : List ℕ) → IsFramed (message slave pdu)
    → (open_end (before_feed slave pdu) ≡ before_feed slave pdu) × (frames (before_feed slave pdu) ≡ [])
before-feed-open slave pdu f =
    let text = text_of (body slave pdu) in
    let begun = colon ∷ text in
    let digits = text-digits (body slave pdu) (body-bytes slave pdu f.slave f.bytes) in
    let now : open_end begun ≡ begun = open_end-colon text (digits-open text digits) in
    let quiet : frames begun ≡ [] = all-open-quiet begun now in
    let other : carriage_return ≢ colon = λ e. omega (arith, e) in
    let same : carriage_return ≢ line_feed = λ e. omega (arith, e) in
    let returned = begun ++ carriage_return ∷ [] in
    let after : open_end returned ≡ returned = open_end-more begun carriage_return ∙ ap (λ p. opened p carriage_return) now ∙ on-quiet text carriage_return other same in
    let nothing : frames returned ≡ [] =
    frames-more begun carriage_return ∙ ap (λ g. frames begun ++ g) (given-quiet (open_end begun) carriage_return (no-feed (open_end begun) carriage_return same))
    ∙ append-nil (frames begun) ∙ quiet in
    (after, nothing)

frame-ends : (slave : ℕ) (pdu : List ℕ) → frame slave pdu ≡ before_feed slave pdu ++ line_feed ∷ []
unfolding frame
frame-ends slave pdu = sym (append_assoc (colon ∷ text_of (body slave pdu)) (carriage_return ∷ []) (line_feed ∷ []))

alone : (slave : ℕ) (pdu : List ℕ) → IsFramed (message slave pdu) → (frames (frame slave pdu) ≡ message slave pdu ∷ []) × (open_end (frame slave pdu) ≡ [])
alone slave pdu f =
    let text = text_of (body slave pdu) in
    let returned = before_feed slave pdu in
    let (after, nothing) = before-feed-open slave pdu f in
    let whole = frame-ends slave pdu in
    let delivers : frames (returned ++ line_feed ∷ []) ≡ message slave pdu ∷ [] =
    frames-more returned line_feed ∙ ap (λ f. f ++ given (open_end returned) line_feed) nothing ∙ ap (λ p. given p line_feed) after ∙ given-ended text
    ∙ text-of-frame slave pdu f in
    let closes : open_end (returned ++ line_feed ∷ []) ≡ [] = open_end-more returned line_feed ∙ ap (λ p. opened p line_feed) after ∙ opened-ended text in
    (ap frames whole ∙ delivers, ap open_end whole ∙ closes)

but_last-append : (bytes : List ℕ) (x : ℕ) (rest : List ℕ) → but_last (bytes ++ x ∷ rest) ≡ bytes ++ but_last (x ∷ rest)
but_last-append [] x rest = refl
but_last-append (b ∷ []) x rest = refl
but_last-append (b ∷ c ∷ bytes) x rest = ap (λ l. b ∷ l) (but_last-append (c ∷ bytes) x rest)

-- a front of a frame that is not the whole of it delivers nothing
pub front-alone : (slave : ℕ) (pdu bytes rest : List ℕ) → IsFramed (message slave pdu) → frame slave pdu ≡ bytes ++ rest → rest ≢ [] → frames bytes ≡ []
front-alone slave pdu bytes [] f is some = absurd (some refl)
front-alone slave pdu bytes (x ∷ rest) f is some =
    let returned = before_feed slave pdu in
    let parts : returned ≡ bytes ++ but_last (x ∷ rest) =
    sym (but_last-push returned line_feed) ∙ ap but_last (sym (frame-ends slave pdu) ∙ is) ∙ but_last-append bytes x rest in
    front-quiet bytes (but_last (x ∷ rest)) (ap frames (sym parts) ∙ (before-feed-open slave pdu f).1)

none-held : (now : List ℕ) → kept_of now ≡ [] → now ≡ []
none-held [] e = refl
none-held (x ∷ now) e = absurd (omega (arith, ap length e, length-kept (x ∷ now)))

-- frames one after another deliver exactly these, with no `:` open at their end
pub stream-delivers : (messages : List SlavePdu) → AllByRecursion IsFramed messages → (frames (stream_of messages) ≡ messages) × (open_end (stream_of messages) ≡ [])
unfolding frames open_end
stream-delivers [] all = (refl, refl)
stream-delivers (m ∷ messages) all =
    let one = alone m.header m.pdu all.0 in
    let rest = stream-delivers messages all.1 in
    let both = frames-closed (frame m.header m.pdu) (stream_of messages) one.1 in (
      both.0 ∙ ap (λ f. f ++ frames (stream_of messages)) one.0 ∙ ap (λ l. m ∷ l) rest.0,
      none-held (open_end (frame m.header m.pdu ++ stream_of messages)) (both.1 ∙ ap kept_of rest.1),
    )
