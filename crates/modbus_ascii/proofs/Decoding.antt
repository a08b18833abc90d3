-- How a decoder goes on by a byte.
use Rattle.std.proofs.Common.{◌≡◌, ◌≢◌, ℕ, ◌+◌, ◌*◌, ◌/◌, ◌%◌, ◌<◌, ◌≤◌, ◌==◌, Bool, true, false, ◌&&◌, ◌⊎◌, inl, inr, List, [], ◌∷◌, ◌++◌, map, length, Option, Some, None, refl, sym, ap, ◌∙◌, subst, arith, length-append, append-nil, append_assoc}
use Rattle.std.specs.List.{list_all}
use Rattle.std.proofs.lemmas.Bool.{and_parts}
use Rattle.std.proofs.lemmas.List.{map-append}
use Rattle.std.proofs.lemmas.List.Folds.{list_all-append}
use Rattle.std.proofs.lemmas.Grind.{flat_map-append}
use Rattle.modbus_pdu.specs.SlavePdu.{SlavePdu}
use Rattle.modbus_ascii.specs.declared.decoder.Phase.{Phase}
use Rattle.modbus_ascii.specs.declared.decoder.Phase.TheVariants.{Closed, Digits, Returned, Skipped, SkippedReturn}
use Rattle.modbus_ascii.specs.Limits.{colon, carriage_return, line_feed, max_body, longest_text}
use Rattle.modbus_ascii.specs.Text.{open_end, last}
use Rattle.modbus_ascii.specs.Frames.{is_hex_digit, digit_value, frame_of, frames}
use Rattle.modbus_ascii.specs.Decoder.{Reading, digits_of, IsUseless, KeepsInPhase, KeepsBytes, DecodesText, made_frame, ended}
use Rattle.modbus_ascii.proofs.Ends.{but_last, opened, given, suc-zero, open_end-more, frames-more}
use Rattle.modbus_ascii.proofs.Digits.{length-text, frame_of-digits, useless-more, useless-other, useless-long}

pub last-push : (xs : List ℕ) (b : ℕ) → last (xs ++ b ∷ []) ≡ b
last-push [] b = refl
last-push (x ∷ []) b = refl
last-push (x ∷ y ∷ ys) b = last-push (y ∷ ys) b

pub but_last-push : (xs : List ℕ) (b : ℕ) → but_last (xs ++ b ∷ []) ≡ xs
but_last-push [] b = refl
but_last-push (x ∷ []) b = refl
but_last-push (x ∷ y ∷ ys) b = ap (λ t. x ∷ t) (but_last-push (y ∷ ys) b)

other : (a b : ℕ) → a ≢ b → (a == b) ≡ false
other a b h = grind arith

-- whether this byte and the last one are CR and LF
abbrev ends_at : List ℕ → ℕ → Bool
ends_at now b = last now == carriage_return && b == line_feed

pub no-feed : (now : List ℕ) (b : ℕ) → b ≢ line_feed → ends_at now b ≡ false
no-feed now b h = rw (other b line_feed h) (never (last now == carriage_return))
  where
    never : (c : Bool) → (c && false) ≡ false
    never true = refl
    never false = refl

no-return : (now : List ℕ) (b : ℕ) → last now ≢ carriage_return → ends_at now b ≡ false
no-return now b h = rw (other (last now) carriage_return h) refl

-- ---- what is open after a byte

opened-closed : (b : ℕ) → b ≢ colon → opened [] b ≡ []
opened-closed b h = rw (other b colon h) refl

opened-text : (text : List ℕ) (b : ℕ) → b ≢ colon → ends_at (colon ∷ text) b ≡ false → opened (colon ∷ text) b ≡ colon ∷ text ++ b ∷ []
opened-text text b h mark = rw (other b colon h, suc-zero (length text), mark) refl

pub opened-ended : (text : List ℕ) → opened (colon ∷ text ++ carriage_return ∷ []) line_feed ≡ []
opened-ended text = rw (suc-zero (length (text ++ carriage_return ∷ [])), last-push (colon ∷ text) carriage_return) refl

pub given-quiet : (now : List ℕ) (b : ℕ) → ends_at now b ≡ false → given now b ≡ []
given-quiet now b mark = rw mark refl

pub given-ended : (text : List ℕ) → given (colon ∷ text ++ carriage_return ∷ []) line_feed ≡ frame_of text
given-ended text = rw (last-push (colon ∷ text) carriage_return, but_last-push (colon ∷ text) carriage_return) refl

-- ---- what a decoder keeps

-- a digit is no CR, and neither is the last character of a `:` and digits
last-digit : (x : ℕ) (text : List ℕ) → x ≢ carriage_return → list_all is_hex_digit text ≡ true → last (x ∷ text) ≢ carriage_return
last-digit x [] h d = h
last-digit x (c ∷ text) h d =
    let parts = and_parts (is_hex_digit c) (list_all is_hex_digit text) d in
    last-digit c text (λ e. cc (parts.0, ap is_hex_digit e)) parts.1

colon-first : (text : List ℕ) → list_all is_hex_digit text ≡ true → last (colon ∷ text) ≢ carriage_return
colon-first text d = last-digit colon text (λ e. omega (arith, e)) d

-- digits, and a CR behind them
on-digits : (text : List ℕ) (b : ℕ) → b ≢ colon → list_all is_hex_digit text ≡ true → opened (colon ∷ text) b ≡ colon ∷ text ++ b ∷ []
on-digits text b h d = opened-text text b h (no-return (colon ∷ text) b (colon-first text d))

pub on-quiet : (text : List ℕ) (b : ℕ) → b ≢ colon → b ≢ line_feed → opened (colon ∷ text) b ≡ colon ∷ text ++ b ∷ []
on-quiet text b h feed = opened-text text b h (no-feed (colon ∷ text) b feed)

-- a text that is of no frame goes on
skip-on : (bytes : List ℕ) (half : Option ℕ) (text : List ℕ) (b : ℕ) → b ≢ carriage_return → IsUseless (text ++ b ∷ []) → opened (colon ∷ text) b ≡ colon ∷ text ++ b ∷ []
    → KeepsInPhase Skipped bytes half (opened (colon ∷ text) b)
skip-on bytes half text b h u is = (text ++ b ∷ [], is, u, rw (is, last-push (colon ∷ text) b) h)

abbrev pub returned : Phase → Phase
returned Closed = Closed
returned Digits = Returned
returned Returned = SkippedReturn
returned Skipped = SkippedReturn
returned SkippedReturn = SkippedReturn

pub keeps-return : (phase : Phase) (bytes : List ℕ) (half : Option ℕ) (now : List ℕ) → KeepsInPhase phase bytes half now → KeepsInPhase (returned phase) bytes half (opened now carriage_return)
keeps-return Closed bytes half now k = rw k refl
keeps-return Digits bytes half now (text, is, d) = (text, rw is (on-quiet text carriage_return (λ e. omega (arith, e)) (λ e. omega (arith, e))), d)
keeps-return Returned bytes half now (text, is, d) =
    (text ++ carriage_return ∷ [], rw is (on-quiet (text ++ carriage_return ∷ []) carriage_return (λ e. omega (arith, e)) (λ e. omega (arith, e))), useless-other text carriage_return refl)
keeps-return Skipped bytes half now (text, is, u, not) = (text, rw is (on-quiet text carriage_return (λ e. omega (arith, e)) (λ e. omega (arith, e))), u)
keeps-return SkippedReturn bytes half now (text, is, u) =
    (text ++ carriage_return ∷ [], rw is (on-quiet (text ++ carriage_return ∷ []) carriage_return (λ e. omega (arith, e)) (λ e. omega (arith, e))), useless-more text (carriage_return ∷ []) u)

abbrev pub skipped : Phase → Phase
skipped Closed = Closed
skipped _ = Skipped

-- a character that is no digit, or that follows a text of no frame
pub keeps-character : (phase : Phase) (bytes : List ℕ) (half : Option ℕ) (now : List ℕ) (c : ℕ) → c ≢ colon → c ≢ carriage_return → c ≢ line_feed
    → (phase ≡ Digits → is_hex_digit c ≡ false) → KeepsInPhase phase bytes half now → KeepsInPhase (skipped phase) bytes half (opened now c)
keeps-character Closed bytes half now c h r f other k = rw k (opened-closed c h)
keeps-character Digits bytes half now c h r f other (text, is, d) =
    rw is (skip-on bytes half text c r (useless-other text c (other refl)) (on-quiet text c h f))
keeps-character Returned bytes half now c h r f other (text, is, d) =
    rw is (skip-on bytes half (text ++ carriage_return ∷ []) c r (useless-more (text ++ carriage_return ∷ []) (c ∷ []) (useless-other text carriage_return refl)) (on-quiet (text ++ carriage_return ∷ []) c h f))
keeps-character Skipped bytes half now c h r f other (text, is, u, not) = rw is (skip-on bytes half text c r (useless-more text (c ∷ []) u) (on-quiet text c h f))
keeps-character SkippedReturn bytes half now c h r f other (text, is, u) =
    rw is (skip-on bytes half (text ++ carriage_return ∷ []) c r (useless-more (text ++ carriage_return ∷ []) (c ∷ []) (useless-more text (carriage_return ∷ []) u)) (on-quiet (text ++ carriage_return ∷ []) c h f))

abbrev pub ended_phase : Phase → Phase
ended_phase Closed = Closed
ended_phase Digits = Skipped
ended_phase Returned = Closed
ended_phase Skipped = Skipped
ended_phase SkippedReturn = Closed

no-colon : line_feed ≢ colon
no-colon e = omega (arith, e)

no-cr : line_feed ≢ carriage_return
no-cr e = omega (arith, e)

pub keeps-feed : (phase : Phase) (bytes : List ℕ) (half : Option ℕ) (now : List ℕ) → KeepsInPhase phase bytes half now → KeepsInPhase (ended_phase phase) bytes half (opened now line_feed)
keeps-feed Closed bytes half now k = rw k refl
keeps-feed Digits bytes half now (text, is, d) =
    rw is (skip-on bytes half text line_feed no-cr (useless-other text line_feed refl) (on-digits text line_feed no-colon d.digits))
keeps-feed Returned bytes half now (text, is, d) = rw is (opened-ended text)
keeps-feed Skipped bytes half now (text, is, u, not) =
    let mark : last (colon ∷ text) ≢ carriage_return = rw is at not in
    rw is (skip-on bytes half text line_feed no-cr (useless-more text (line_feed ∷ []) u) (opened-text text line_feed no-colon (no-return (colon ∷ text) line_feed mark)))
keeps-feed SkippedReturn bytes half now (text, is, u) = rw is (opened-ended text)

-- the frame that a LF ends
abbrev pub fed_frame : Phase → Reading → List SlavePdu
fed_frame Returned reading = ended (made_frame reading) reading
fed_frame _ reading = []

pub gives-feed : (phase : Phase) (reading : Reading) (now : List ℕ) → length reading.bytes ≤ max_body → KeepsInPhase phase reading.bytes reading.half now
    → given now line_feed ≡ fed_frame phase reading
gives-feed Closed reading now most k = rw k refl
gives-feed Digits reading now most (text, is, d) = rw is (given-quiet (colon ∷ text) line_feed (no-return (colon ∷ text) line_feed (colon-first text d.digits)))
gives-feed Returned reading now most (text, is, d) = rw is (given-ended text ∙ frame_of-digits reading text d most)
gives-feed Skipped reading now most (text, is, u, not) = given-quiet now line_feed (no-return now line_feed not)
gives-feed SkippedReturn reading now most (text, is, u) = rw is (given-ended text ∙ sym (ap frame_of (append-nil text)) ∙ u [])

-- ---- digits

digit-all : (text : List ℕ) (c : ℕ) → list_all is_hex_digit text ≡ true → is_hex_digit c ≡ true → list_all is_hex_digit (text ++ c ∷ []) ≡ true
digit-all text c d e = rw (list_all-append is_hex_digit text (c ∷ []), d, e) refl

digit-value : (text : List ℕ) (c : ℕ) → map digit_value (text ++ c ∷ []) ≡ map digit_value text ++ digit_value c ∷ []
digit-value text c = map-append digit_value text (c ∷ [])

no-mark : (c : ℕ) → is_hex_digit c ≡ true → c ≢ colon
no-mark c d = λ e. cc (d, ap is_hex_digit e)

pub keeps-pair : (bytes : List ℕ) (high c : ℕ) (now : List ℕ) → is_hex_digit c ≡ true → digit_value c < 16 → KeepsInPhase Digits bytes (Some high) now
    → KeepsInPhase Digits (bytes ++ (16 * high + digit_value c) ∷ []) None (opened now c)
keeps-pair bytes high c now e below (text, is, d) =
    let over : (16 * high + digit_value c) / 16 ≡ high = omega arith in
    let under : (16 * high + digit_value c) % 16 ≡ digit_value c = omega arith in
    let made : digits_of (bytes ++ (16 * high + digit_value c) ∷ []) ≡ digits_of bytes ++ high ∷ digit_value c ∷ [] =
    flat_map-append (λ (byte : ℕ). byte / 16 ∷ byte % 16 ∷ []) bytes ((16 * high + digit_value c) ∷ []) ∙ rw (over, under) refl in
    let values : map digit_value (text ++ c ∷ []) ≡ digits_of (bytes ++ (16 * high + digit_value c) ∷ []) ++ [] =
    digit-value text c ∙ ap (λ v. v ++ digit_value c ∷ []) d.values ∙ append_assoc (digits_of bytes) (high ∷ []) (digit_value c ∷ []) ∙ sym made ∙ sym (append-nil _) in
    (text ++ c ∷ [], rw is (on-digits text c (no-mark c e) d.digits), record { digits = digit-all text c d.digits e; values = values })

pub keeps-half : (bytes : List ℕ) (c : ℕ) (now : List ℕ) → is_hex_digit c ≡ true → KeepsInPhase Digits bytes None now → KeepsInPhase Digits bytes (Some (digit_value c)) (opened now c)
keeps-half bytes c now e (text, is, d) =
    let values : map digit_value (text ++ c ∷ []) ≡ digits_of bytes ++ digit_value c ∷ [] =
    digit-value text c ∙ ap (λ v. v ++ digit_value c ∷ []) (d.values ∙ append-nil (digits_of bytes)) in
    (text ++ c ∷ [], rw is (on-digits text c (no-mark c e) d.digits), record { digits = digit-all text c d.digits e; values = values })

pub keeps-full : (bytes : List ℕ) (c : ℕ) (now : List ℕ) → is_hex_digit c ≡ true → max_body ≤ length bytes → KeepsInPhase Digits bytes None now → KeepsInPhase Skipped bytes None (opened now c)
keeps-full bytes c now e full (text, is, d) =
    let long : longest_text < length (text ++ c ∷ []) = omega (arith, length-append text (c ∷ []), length-text bytes None text d) in
    rw is (skip-on bytes None text c (λ r. cc (e, ap is_hex_digit r)) (useless-long (text ++ c ∷ []) long) (on-digits text c (no-mark c e) d.digits))

-- ---- over all bytes that were fed

pub decodes : (fed : List ℕ) (b : ℕ) (reading : Reading) → KeepsBytes reading (opened (open_end fed) b) → DecodesText (fed ++ b ∷ []) reading
decodes fed b reading k = rw (open_end-more fed b) k

pub frames-quiet : (fed : List ℕ) (b : ℕ) → b ≢ line_feed → frames (fed ++ b ∷ []) ≡ frames fed ++ []
frames-quiet fed b h = frames-more fed b ∙ ap (λ g. frames fed ++ g) (given-quiet (open_end fed) b (no-feed (open_end fed) b h))

pub begin-step : (fed : List ℕ) (bytes : List ℕ) → bytes ≡ [] → KeepsInPhase Digits bytes None (open_end (fed ++ colon ∷ []))
begin-step fed bytes none = ([], open_end-more fed colon, rw none (record { digits = refl; values = refl }))

abbrev pub view : Phase → List ℕ → Option ℕ → Reading
view phase bytes half = record { phase = phase; bytes = bytes; half = half }

-- what a decoder keeps that is seen so, in its phase
pub kept : (fed : List ℕ) (p phase : Phase) (bytes : List ℕ) (half : Option ℕ) (now : Reading) → view p bytes half ≡ now → p ≡ phase → DecodesText fed now
    → KeepsInPhase phase bytes half (open_end fed)
kept fed p phase bytes half now v is k =
    let P : Reading → Type 0 = λ r. DecodesText fed r in
    let Q : Phase → Type 0 = λ x. KeepsInPhase x bytes half (open_end fed) in
    subst Q is (subst P (sym v) k)

-- and the other way round, after more bytes
pub keeping : (fed : List ℕ) (p phase : Phase) (bytes : List ℕ) (half : Option ℕ) (now : Reading) → view p bytes half ≡ now → p ≡ phase
    → KeepsInPhase phase bytes half (open_end fed) → DecodesText fed now
keeping fed p phase bytes half now v is k =
    let P : Reading → Type 0 = λ r. DecodesText fed r in
    let Q : Phase → Type 0 = λ x. KeepsInPhase x bytes half (open_end fed) in
    subst P v (subst Q (sym is) k)

pub pair-step : (fed : List ℕ) (bytes more : List ℕ) (high c value : ℕ) → more ≡ bytes ++ (16 * high + value) ∷ [] → is_hex_digit c ≡ true → value ≡ digit_value c → value < 16
    → KeepsInPhase Digits bytes (Some high) (open_end fed) → KeepsInPhase Digits more None (open_end (fed ++ c ∷ []))
pair-step fed bytes more high c value made d v below k =
    rw (made, v, open_end-more fed c) (keeps-pair bytes high c (open_end fed) d (omega arith) k)

pub half-step : (fed : List ℕ) (bytes : List ℕ) (c value : ℕ) → is_hex_digit c ≡ true → value ≡ digit_value c → KeepsInPhase Digits bytes None (open_end fed)
    → KeepsInPhase Digits bytes (Some value) (open_end (fed ++ c ∷ []))
half-step fed bytes c value d v k = rw (v, open_end-more fed c) (keeps-half bytes c (open_end fed) d k)

pub full-step : (fed : List ℕ) (bytes : List ℕ) (c : ℕ) → max_body ≤ length bytes → is_hex_digit c ≡ true → KeepsInPhase Digits bytes None (open_end fed)
    → KeepsInPhase Skipped bytes None (open_end (fed ++ c ∷ []))
full-step fed bytes c full d k = rw (open_end-more fed c) (keeps-full bytes c (open_end fed) d full k)

pub return-step : (fed : List ℕ) (phase : Phase) (bytes : List ℕ) (half : Option ℕ) → KeepsInPhase phase bytes half (open_end fed)
    → KeepsInPhase (returned phase) bytes half (open_end (fed ++ carriage_return ∷ []))
return-step fed phase bytes half k = rw (open_end-more fed carriage_return) (keeps-return phase bytes half (open_end fed) k)

pub character-step : (fed : List ℕ) (phase : Phase) (bytes : List ℕ) (half : Option ℕ) (c : ℕ) → c ≢ colon → c ≢ carriage_return → c ≢ line_feed
    → (phase ≡ Digits → is_hex_digit c ≡ false) → KeepsInPhase phase bytes half (open_end fed) → KeepsInPhase (skipped phase) bytes half (open_end (fed ++ c ∷ []))
character-step fed phase bytes half c h r f other k = rw (open_end-more fed c) (keeps-character phase bytes half (open_end fed) c h r f other k)

pub feed-step : (fed : List ℕ) (phase : Phase) (bytes : List ℕ) (half : Option ℕ) → KeepsInPhase phase bytes half (open_end fed)
    → KeepsInPhase (ended_phase phase) bytes half (open_end (fed ++ line_feed ∷ []))
feed-step fed phase bytes half k = rw (open_end-more fed line_feed) (keeps-feed phase bytes half (open_end fed) k)

pub feed-gives : (fed : List ℕ) (phase : Phase) (reading : Reading) → length reading.bytes ≤ max_body → KeepsInPhase phase reading.bytes reading.half (open_end fed)
    → frames (fed ++ line_feed ∷ []) ≡ frames fed ++ fed_frame phase reading
feed-gives fed phase reading most k = frames-more fed line_feed ∙ ap (λ g. frames fed ++ g) (gives-feed phase reading (open_end fed) most k)

-- two phases that go on alike, and three
abbrev pub OneOf : Phase → Phase → Phase → Phase → Type 0
OneOf p a b c = (p ≡ a) ⊎ ((p ≡ b) ⊎ (p ≡ c))

pub returns-skipping : (fed : List ℕ) (p : Phase) (bytes : List ℕ) (half : Option ℕ) (now : Reading) → view p bytes half ≡ now → OneOf p Returned Skipped SkippedReturn
    → DecodesText fed now → KeepsInPhase SkippedReturn bytes half (open_end (fed ++ carriage_return ∷ []))
returns-skipping fed p bytes half now v is k =
    elim is [
      | inl a ↦ return-step fed Returned bytes half (kept fed p Returned bytes half now v a k)
      | inr rest ↦
          elim rest [
            | inl b ↦ return-step fed Skipped bytes half (kept fed p Skipped bytes half now v b k)
            | inr d ↦ return-step fed SkippedReturn bytes half (kept fed p SkippedReturn bytes half now v d k)
          ]
    ]

pub goes-skipping : (fed : List ℕ) (p : Phase) (bytes : List ℕ) (half : Option ℕ) (now : Reading) (c : ℕ) → c ≢ colon → c ≢ carriage_return → c ≢ line_feed
    → view p bytes half ≡ now → OneOf p Returned Skipped SkippedReturn → DecodesText fed now → KeepsInPhase Skipped bytes half (open_end (fed ++ c ∷ []))
goes-skipping fed p bytes half now c h r f v is k =
    elim is [
      | inl a ↦ character-step fed Returned bytes half c h r f (λ e. cc e) (kept fed p Returned bytes half now v a k)
      | inr rest ↦
          elim rest [
            | inl b ↦ character-step fed Skipped bytes half c h r f (λ e. cc e) (kept fed p Skipped bytes half now v b k)
            | inr d ↦ character-step fed SkippedReturn bytes half c h r f (λ e. cc e) (kept fed p SkippedReturn bytes half now v d k)
          ]
    ]

pub feeds-skipping : (fed : List ℕ) (p : Phase) (bytes : List ℕ) (half : Option ℕ) (now : Reading) → view p bytes half ≡ now → (p ≡ Digits) ⊎ (p ≡ Skipped)
    → DecodesText fed now → KeepsInPhase Skipped bytes half (open_end (fed ++ line_feed ∷ []))
feeds-skipping fed p bytes half now v is k =
    elim is [
      | inl a ↦ feed-step fed Digits bytes half (kept fed p Digits bytes half now v a k)
      | inr b ↦ feed-step fed Skipped bytes half (kept fed p Skipped bytes half now v b k)
    ]

pub skipping-gives : (fed : List ℕ) (p : Phase) (bytes : List ℕ) (half : Option ℕ) (now : Reading) → view p bytes half ≡ now → (p ≡ Digits) ⊎ (p ≡ Skipped)
    → length bytes ≤ max_body → DecodesText fed now → frames (fed ++ line_feed ∷ []) ≡ frames fed ++ []
skipping-gives fed p bytes half now v is most k =
    elim is [
      | inl a ↦ feed-gives fed Digits (view p bytes half) most (kept fed p Digits bytes half now v a k)
      | inr b ↦ feed-gives fed Skipped (view p bytes half) most (kept fed p Skipped bytes half now v b k)
    ]

-- a decoder with no `:` open keeps as it is until one comes
pub stays-closed : (fed : List ℕ) (b : ℕ) (p : Phase) (bytes : List ℕ) (half : Option ℕ) (now : Reading) → view p bytes half ≡ now → p ≡ Closed → b ≢ colon
    → DecodesText fed now → DecodesText (fed ++ b ∷ []) now
stays-closed fed b p bytes half now v is h k =
    let none : open_end fed ≡ [] = kept fed p Closed bytes half now v is k in
    keeping (fed ++ b ∷ []) p Closed bytes half now v is (open_end-more fed b ∙ rw none (opened-closed b h))

pub kept-digits : (fed : List ℕ) (p : Phase) (bytes : List ℕ) (half waits : Option ℕ) (now : Reading) → view p bytes half ≡ now → p ≡ Digits → half ≡ waits
    → DecodesText fed now → KeepsInPhase Digits bytes waits (open_end fed)
kept-digits fed p bytes half waits now v is same k =
    let Q : Option ℕ → Type 0 = λ x. KeepsInPhase Digits bytes x (open_end fed) in
    subst Q same (kept fed p Digits bytes half now v is k)

pub digits-again : (fed : List ℕ) (p : Phase) (bytes : List ℕ) (half : Option ℕ) → p ≡ Digits → KeepsInPhase Digits bytes half (open_end fed) → KeepsInPhase p bytes half (open_end fed)
digits-again fed p bytes half is k =
    let Q : Phase → Type 0 = λ x. KeepsInPhase x bytes half (open_end fed) in
    subst Q (sym is) k

pub untrue : (b : Bool) → (b ≡ true → false ≡ true) → b ≡ false
untrue true h = sym (h refl)
untrue false h = refl
