-- How the decoder of a connection goes through what is held.
use Rattle.std.proofs.Common.{◌≡◌, ◌≢◌, ℕ, ◌+◌, ◌-◌, ◌<◌, ◌≤◌, ◌==◌, min, Bool, true, false, ◌&&◌, if◌then◌else◌, ◌⊎◌, inl, inr, List, [], ◌∷◌, ◌++◌, length, take, drop, get_or, slice_get, Option, Some, None, refl, sym, ap, ◌∙◌, subst, arith, length-append, append_assoc}
use Rattle.std.specs.Option.{option_to_list}
use Rattle.std.proofs.lemmas.Bool.{cases_lt}
use Rattle.std.proofs.lemmas.List.{take_more}
use Rattle.std.proofs.lemmas.Option.{get_or_from_slice_get, slice_get-get_or, slice_get_past}
use Rattle.modbus_pdu.specs.SlavePdu.{SlavePdu}
use Rattle.modbus_ascii.specs.declared.decoder.Phase.{Phase}
use Rattle.modbus_ascii.specs.declared.decoder.Phase.TheVariants.{Closed, Digits, Returned, Skipped, SkippedReturn}
use Rattle.modbus_ascii.specs.Limits.{colon, carriage_return, line_feed, max_body, most_open, longest_text}
use Rattle.modbus_ascii.specs.Text.{from_end, open_end, last}
use Rattle.modbus_ascii.specs.Frames.{frame_of, frames_delivered, frames, slave_and_pdu}
use Rattle.modbus_ascii.specs.Decoder.{Reading, AreDigits, KeepsInPhase, KeepsBytes, DecodesText, ended}
use Rattle.modbus_ascii.specs.Stands.{kept_of, held_open}
use Rattle.modbus_ascii.proofs.Ends.{but_last, opened, given, open_end-more, frames-more}
use Rattle.modbus_ascii.proofs.Digits.{length-text, useless-long}
use Rattle.modbus_ascii.proofs.Decoding.{last-push}
use Rattle.modbus_ascii.proofs.Going.{Like, length-kept, like-cases, like-last}
use Rattle.modbus_ascii.proofs.Holding.{OpenKind, open_end-kind}

-- digits that fit, and one that waits
abbrev pub HasRoom : List ℕ → Option ℕ → Type 0
HasRoom bytes half = length bytes + length (option_to_list half) ≤ max_body

digits-short : (bytes : List ℕ) (half : Option ℕ) (text : List ℕ) → HasRoom bytes half → AreDigits bytes half text → length text ≤ longest_text
digits-short bytes half text room d = omega (arith, length-text bytes half text d)

-- a list that ends at a byte is those before it and the byte
before-last : (x : ℕ) (xs : List ℕ) → x ∷ xs ≡ but_last (x ∷ xs) ++ last (x ∷ xs) ∷ []
before-last x [] = refl
before-last x (y ∷ ys) = ap (λ l. x ∷ l) (before-last y ys)

length-front : (x : ℕ) (xs : List ℕ) → length (but_last (x ∷ xs)) ≡ length xs
length-front x [] = refl
length-front x (y ∷ ys) = omega (arith, length-front y ys)

returned : (text : List ℕ) → most_open ≤ length (colon ∷ text) → last (colon ∷ text) ≡ carriage_return
    → (front : List ℕ) × (text ≡ front ++ carriage_return ∷ []) × (length front + 1 ≡ length text)
returned [] many mark = absurd (omega (arith, many))
returned (y ∷ ys) many mark = (but_last (y ∷ ys), before-last y ys ∙ ap (λ c. but_last (y ∷ ys) ++ c ∷ []) mark, omega (arith, length-front y ys))

-- a decoder keeps the same of two open ends of which the same is held
keeps-like : (phase : Phase) (bytes : List ℕ) (half : Option ℕ) (a b : List ℕ) → HasRoom bytes half → most_open ≤ length a → most_open ≤ length b → last a ≡ last b
    → OpenKind b → KeepsInPhase phase bytes half a → KeepsInPhase phase bytes half b
keeps-like phase bytes half a b room long longer same (inl none) k = absurd (omega (arith, ap length none))
keeps-like Closed bytes half a b room long longer same kind k = absurd (omega (arith, ap length k))
keeps-like Digits bytes half a b room long longer same kind (text, is, d) = absurd (omega (arith, digits-short bytes half text room d, ap length is))
keeps-like Returned bytes half a b room long longer same kind (text, is, d) =
    absurd (omega (arith, digits-short bytes half text room d, ap length is, length-append (colon ∷ text) (carriage_return ∷ [])))
keeps-like Skipped bytes half a b room long longer same (inr (text, is, h)) (other, was, u, not) =
    (text, is, useless-long text (omega (arith, ap length is)), λ e. not (same ∙ e))
keeps-like SkippedReturn bytes half a b room long longer same (inr (text, is, h)) (other, was, u) =
    let mark : last (colon ∷ text) ≡ carriage_return = sym (ap last is) ∙ sym same ∙ ap last was ∙ last-push (colon ∷ other) carriage_return in
    let many : most_open ≤ length (colon ∷ text) = omega (arith, ap length is) in
    let back = returned text many mark in
    (back.0, is ∙ ap (λ t. colon ∷ t) back.1, useless-long back.0 (omega (arith, back.2, many)))

-- what a decoder was fed may be seen as other bytes of which the same is open
pub decodes-like : (seen other : List ℕ) (reading : Reading) → HasRoom reading.bytes reading.half → Like (open_end seen) (open_end other) → DecodesText seen reading → DecodesText other reading
decodes-like seen other reading room e k = by_cases (like-cases (open_end seen) (open_end other) e)
  where
    by_cases : (open_end seen ≡ open_end other) ⊎ ((most_open ≤ length (open_end seen)) × (most_open ≤ length (open_end other))) → DecodesText other reading
    by_cases (inl same) = let P : List ℕ → Type 0 = λ now. KeepsBytes reading now in subst P same k
    by_cases (inr (long, longer)) =
        keeps-like reading.phase reading.bytes reading.half (open_end seen) (open_end other) room long longer
        (like-last (open_end seen) (open_end other) e (omega (arith, long))) (open_end-kind other) k

-- ---- a byte more

pub open-one : (seen : List ℕ) → length (held_open (seen ++ colon ∷ [])) ≡ 1
open-one seen = rw (open_end-more seen colon) refl

-- a byte other than a `:` joins what is open, or leaves nothing open
pub open-more : (seen : List ℕ) (b : ℕ) → b ≢ colon → open_end (seen ++ b ∷ []) ≢ [] → open_end (seen ++ b ∷ []) ≡ open_end seen ++ b ∷ []
open-more seen b other some =
    let more = open_end-more seen b in
    let not_mark : (b == colon) ≡ false = grind arith in
    let opened_ : opened (open_end seen) b ≡ (if length (open_end seen) == 0 then [] else if last (open_end seen) == carriage_return && b == line_feed then [] else open_end seen ++ b ∷ []) =
    rw not_mark refl in
    more ∙ opened_ ∙ by_marks (length (open_end seen) == 0) (last (open_end seen) == carriage_return && b == line_feed) (λ e. some (more ∙ opened_ ∙ e))
  where
    by_marks : (n m : Bool) → ((if n then [] else if m then [] else open_end seen ++ b ∷ []) ≡ [] → ⊥) → (if n then [] else if m then [] else open_end seen ++ b ∷ []) ≡ open_end seen ++ b ∷ []
    by_marks true m none = absurd (none refl)
    by_marks false true none = absurd (none refl)
    by_marks false false none = refl

-- how many bytes of the open end are held, after a byte
pub open-count : (seen : List ℕ) (b : ℕ) → b ≢ colon → open_end (seen ++ b ∷ []) ≢ [] → length (held_open (seen ++ b ∷ [])) ≡ min (length (held_open seen) + 1) most_open
open-count seen b other some =
    let now = open_end seen in
    let more = open-more seen b other some in
    let kept : length (kept_of now) ≡ length now - (length now - most_open) = length-kept now in
    let grown : length (kept_of (now ++ b ∷ [])) ≡ length (now ++ b ∷ []) - (length (now ++ b ∷ []) - most_open) = length-kept (now ++ b ∷ []) in
    let size : length (now ++ b ∷ []) ≡ length now + 1 = length-append now (b ∷ []) in
    ap (λ n. length (kept_of n)) more ∙ omega (arith, kept, grown, size)

pub open-none : (seen : List ℕ) → open_end seen ≡ [] → length (held_open seen) ≡ 0
open-none seen none = ap (λ n. length (kept_of n)) none

-- a byte that ends a frame closes the `:`
pub frame-closes : (seen : List ℕ) (b : ℕ) (frame : SlavePdu) → frames (seen ++ b ∷ []) ≡ frames seen ++ frame ∷ [] → open_end (seen ++ b ∷ []) ≡ []
frame-closes seen b frame e =
    let size : length (given (open_end seen) b) ≡ 1 = omega (arith, ap length (sym (frames-more seen b) ∙ e), length-append (frames seen) (given (open_end seen) b), length-append (frames seen) (frame ∷ [])) in
    open_end-more seen b ∙ by_marks (last (open_end seen) == carriage_return) (b == line_feed) (b == colon) (length (open_end seen) == 0) apart size
  where
    apart : (b == line_feed) ≡ true → (b == colon) ≡ false
    apart h = grind arith

    by_marks : (r f c n : Bool) → (f ≡ true → c ≡ false) → length (if r && f then frame_of (drop 1 (but_last (open_end seen))) else []) ≡ 1
        → (if c then colon ∷ [] else if n then [] else if r && f then [] else open_end seen ++ b ∷ []) ≡ []
    by_marks true true true n h one = cc (h refl)
    by_marks true true false true h one = refl
    by_marks true true false false h one = refl
    by_marks true false c n h one = absurd (omega (arith, one))
    by_marks false f c n h one = absurd (omega (arith, one))

-- ---- a decoder, and how far it is

pub colon-open : length (held_open (colon ∷ [])) ≡ 1
unfolding open_end from_end
colon-open = refl

pub colon-quiet : frames (colon ∷ []) ≡ []
unfolding frames frames_delivered from_end
colon-quiet = refl

pub nothing-open : length (held_open []) ≡ 0
unfolding open_end
nothing-open = refl

pub nothing-quiet : frames [] ≡ []
unfolding frames
nothing-quiet = refl

-- a byte ends a frame or not
pub found-more : (seen : List ℕ) (b : ℕ) (found was : Bool) (old new : Reading) → was ≡ false → frames seen ≡ ended was old → frames (seen ++ b ∷ []) ≡ frames seen ++ ended found new
    → frames (seen ++ b ∷ []) ≡ ended found new
found-more seen b found was old new none before more =
    let quiet : frames seen ≡ [] = before ∙ ap (λ w. ended w old) none in
    more ∙ ap (λ f. f ++ ended found new) quiet

pub closed-more : (seen : List ℕ) (b : ℕ) (found : Bool) (new : Reading) → frames (seen ++ b ∷ []) ≡ frames seen ++ ended found new → found ≡ true → open_end (seen ++ b ∷ []) ≡ []
closed-more seen b found new more is = frame-closes seen b (slave_and_pdu new.bytes) (more ∙ ap (λ w. frames seen ++ ended w new) is)

apart : (x : ℕ) (o : Option ℕ) → o ≡ Some x → o ≡ None → ⊥
apart x o p q = cc

-- a byte that is held lies within
pub held-below : (held : List ℕ) (k byte : ℕ) → Some byte ≡ slice_get held k → k < length held
held-below held k byte e =
    elim (cases_lt k (length held)) [
      | inl below ↦ below
      | inr above ↦ absurd (apart byte (slice_get held k) (sym e) (slice_get_past held k above))
    ]

pub held-all : (held : List ℕ) (k : ℕ) → None ≡ slice_get held k → length held ≤ k
held-all held k e =
    elim (cases_lt k (length held)) [
      | inl below ↦ absurd (apart (get_or held k 0) (slice_get held k) (slice_get-get_or held k 0 below) (sym e))
      | inr above ↦ above
    ]

-- a held byte more
pub seen-more : (front held : List ℕ) (k byte : ℕ) → Some byte ≡ slice_get held k → front ++ take (k + 1) held ≡ (front ++ take k held) ++ byte ∷ []
seen-more front held k byte e =
    let is : get_or held k 0 ≡ byte = get_or_from_slice_get held k byte 0 (sym e) in
    let more : take (k + 1) held ≡ take k held ++ byte ∷ [] = take_more held k 0 (held-below held k byte e) ∙ ap (λ b. take k held ++ b ∷ []) is in
    ap (λ t. front ++ t) more ∙ sym (append_assoc front (take k held) (byte ∷ []))
