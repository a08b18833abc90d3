-- How a byte more changes what is open and what was delivered.
use Rattle.std.proofs.Common.{◌≡◌, ℕ, suc, ◌==◌, Bool, true, false, ◌&&◌, ◌||◌, if◌then◌else◌, ◌⊎◌, inl, inr, List, [], ◌∷◌, ◌++◌, length, drop, slice_index, refl, sym, ap, ◌∙◌, arith, append-nil, append_assoc}
use Rattle.std.proofs.lemmas.Bool.{eqb-true}
use Rattle.modbus_pdu.specs.SlavePdu.{SlavePdu}
use Rattle.modbus_ascii.specs.Limits.{colon, carriage_return, line_feed}
use Rattle.modbus_ascii.specs.Text.{begins_end, text, from_end, is_open, open_end, last}
use Rattle.modbus_ascii.specs.Frames.{frame_of, frames_delivered, frames}

-- the bytes but the last
abbrev pub but_last : List ℕ → List ℕ
but_last [] = []
but_last (x ∷ []) = []
but_last (x ∷ y ∷ ys) = x ∷ but_last (y ∷ ys)

-- whether a byte ends an open text
abbrev pub is_ending : List ℕ → ℕ → Bool
is_ending xs b = b == colon || (last xs == carriage_return && b == line_feed)

-- a list with an element is not empty
some-bytes : (x : ℕ) (xs : List ℕ) → (length (x ∷ xs) == 0) ≡ true → ⊥
some-bytes x xs e = omega (arith, eqb-true (length (x ∷ xs)) 0 e)

pub suc-zero : (n : ℕ) → (suc n == 0) ≡ false
suc-zero n = grind arith

-- a text that has an end keeps it
ended-more : (xs : List ℕ) (b : ℕ) → is_open xs ≡ false → from_end (xs ++ b ∷ []) ≡ from_end xs ++ b ∷ []
unfolding from_end
ended-more [] b e = cc
ended-more (x ∷ []) b e = grind arith
ended-more (x ∷ y ∷ ys) b e = step (begins_end (x ∷ y ∷ ys)) (ended-more (y ∷ ys) b) e
  where
    step : (c : Bool) → (is_open (y ∷ ys) ≡ false → from_end (y ∷ ys ++ b ∷ []) ≡ from_end (y ∷ ys) ++ b ∷ [])
        → (length (if c then x ∷ y ∷ ys else from_end (y ∷ ys)) == 0) ≡ false
        → (if c then x ∷ y ∷ ys ++ b ∷ [] else from_end (y ∷ ys ++ b ∷ [])) ≡ (if c then x ∷ y ∷ ys else from_end (y ∷ ys)) ++ b ∷ []
    step true ih e = refl
    step false ih e = ih e

ended-text : (xs : List ℕ) (b : ℕ) → is_open xs ≡ false → text (xs ++ b ∷ []) ≡ text xs
unfolding from_end text
ended-text [] b e = cc
ended-text (x ∷ []) b e = grind arith
ended-text (x ∷ y ∷ ys) b e = step (begins_end (x ∷ y ∷ ys)) (ended-text (y ∷ ys) b) e
  where
    step : (c : Bool) → (is_open (y ∷ ys) ≡ false → text (y ∷ ys ++ b ∷ []) ≡ text (y ∷ ys))
        → (length (if c then x ∷ y ∷ ys else from_end (y ∷ ys)) == 0) ≡ false
        → (if c then [] else x ∷ text (y ∷ ys ++ b ∷ [])) ≡ (if c then [] else x ∷ text (y ∷ ys))
    step true ih e = refl
    step false ih e = ap (λ t. x ∷ t) (ih e)

-- a text that is open goes on, or ends with the byte
open-more : (xs : List ℕ) (b : ℕ) → is_open xs ≡ true → is_open (xs ++ b ∷ []) ≡ (if is_ending xs b then false else true)
unfolding from_end
open-more [] b e = grind arith
open-more (x ∷ []) b e = grind arith
open-more (x ∷ y ∷ ys) b e = step (begins_end (x ∷ y ∷ ys)) (open-more (y ∷ ys) b) e
  where
    step : (c : Bool) → (is_open (y ∷ ys) ≡ true → is_open (y ∷ ys ++ b ∷ []) ≡ (if is_ending (y ∷ ys) b then false else true))
        → (length (if c then x ∷ y ∷ ys else from_end (y ∷ ys)) == 0) ≡ true
        → (length (if c then x ∷ y ∷ ys ++ b ∷ [] else from_end (y ∷ ys ++ b ∷ [])) == 0) ≡ (if is_ending (y ∷ ys) b then false else true)
    step true ih e = absurd (some-bytes x (y ∷ ys) e)
    step false ih e = ih e

-- the text is all bytes where it is open
open-text : (xs : List ℕ) → is_open xs ≡ true → text xs ≡ xs
unfolding from_end text
open-text [] e = refl
open-text (x ∷ xs) e = step (begins_end (x ∷ xs)) (open-text xs) e
  where
    step : (c : Bool) → (is_open xs ≡ true → text xs ≡ xs) → (length (if c then x ∷ xs else from_end xs) == 0) ≡ true
        → (if c then [] else x ∷ text xs) ≡ x ∷ xs
    step true ih e = absurd (some-bytes x xs e)
    step false ih e = ap (λ t. x ∷ t) (ih e)

-- a text that ends at CR and LF is delivered, and one that ends at a `:` is not
abbrev now_delivered : List ℕ → ℕ → List SlavePdu
now_delivered xs b = if last xs == carriage_return && b == line_feed then frame_of (but_last xs) else []

ends-delivered : (xs : List ℕ) (b : ℕ) → is_open xs ≡ true → (slice_index (from_end (xs ++ b ∷ [])) 0 == carriage_return) ≡ (last xs == carriage_return && b == line_feed)
unfolding from_end
ends-delivered [] b e = grind arith
ends-delivered (x ∷ []) b e = grind arith
ends-delivered (x ∷ y ∷ ys) b e = step (begins_end (x ∷ y ∷ ys)) (ends-delivered (y ∷ ys) b) e
  where
    step : (c : Bool) → (is_open (y ∷ ys) ≡ true → (slice_index (from_end (y ∷ ys ++ b ∷ [])) 0 == carriage_return) ≡ (last (y ∷ ys) == carriage_return && b == line_feed))
        → (length (if c then x ∷ y ∷ ys else from_end (y ∷ ys)) == 0) ≡ true
        → (slice_index (if c then x ∷ y ∷ ys ++ b ∷ [] else from_end (y ∷ ys ++ b ∷ [])) 0 == carriage_return) ≡ (last (y ∷ ys) == carriage_return && b == line_feed)
    step true ih e = absurd (some-bytes x (y ∷ ys) e)
    step false ih e = ih e

text-delivered : (xs : List ℕ) (b : ℕ) → is_open xs ≡ true → (last xs == carriage_return && b == line_feed) ≡ true → text (xs ++ b ∷ []) ≡ but_last xs
unfolding from_end text
text-delivered [] b e h = cc
text-delivered (x ∷ []) b e h = grind arith
text-delivered (x ∷ y ∷ ys) b e h = step (begins_end (x ∷ y ∷ ys)) (λ o. text-delivered (y ∷ ys) b o h) e
  where
    step : (c : Bool) → (is_open (y ∷ ys) ≡ true → text (y ∷ ys ++ b ∷ []) ≡ but_last (y ∷ ys))
        → (length (if c then x ∷ y ∷ ys else from_end (y ∷ ys)) == 0) ≡ true
        → (if c then [] else x ∷ text (y ∷ ys ++ b ∷ [])) ≡ x ∷ but_last (y ∷ ys)
    step true ih e = absurd (some-bytes x (y ∷ ys) e)
    step false ih e = ap (λ t. x ∷ t) (ih e)

-- what a `:` delivers with a byte more
pub delivered-ended : (xs : List ℕ) (b : ℕ) → is_open xs ≡ false → frames_delivered (xs ++ b ∷ []) ≡ frames_delivered xs
unfolding frames_delivered
delivered-ended xs b e =
    let rest = ended-more xs b e in
    let same = ended-text xs b e in
    let first : slice_index (from_end xs ++ b ∷ []) 0 ≡ slice_index (from_end xs) 0 = first_of (from_end xs) e in
    rw (rest, same, first) refl
  where
    first_of : (ys : List ℕ) → (length ys == 0) ≡ false → slice_index (ys ++ b ∷ []) 0 ≡ slice_index ys 0
    first_of [] e = cc
    first_of (y ∷ ys) e = refl

pub delivered-open : (xs : List ℕ) (b : ℕ) → is_open xs ≡ true → frames_delivered (xs ++ b ∷ []) ≡ now_delivered xs b
unfolding frames_delivered
delivered-open xs b e =
    rw (ends-delivered xs b e) (by_mark (last xs == carriage_return && b == line_feed) (text-delivered xs b e))
  where
    by_mark : (c : Bool) → (c ≡ true → text (xs ++ b ∷ []) ≡ but_last xs) → (if c then frame_of (text (xs ++ b ∷ [])) else []) ≡ (if c then frame_of (but_last xs) else [])
    by_mark true h = ap frame_of (h refl)
    by_mark false h = refl

pub delivered-none : (xs : List ℕ) → is_open xs ≡ true → frames_delivered xs ≡ []
unfolding frames_delivered from_end
delivered-none xs e = by_rest (from_end xs) e
  where
    by_rest : (ys : List ℕ) → (length ys == 0) ≡ true → (if slice_index ys 0 == carriage_return then frame_of (text xs) else []) ≡ []
    by_rest [] e = refl
    by_rest (y ∷ ys) e = absurd (some-bytes y ys e)

-- ---- the open end and the frames with a byte more

-- what is open after a byte, where this was open
abbrev pub opened : List ℕ → ℕ → List ℕ
opened now b = if b == colon then colon ∷ [] else if length now == 0 then [] else if last now == carriage_return && b == line_feed then [] else now ++ b ∷ []

-- the frame that a byte delivers, where this was open: that of the text between the `:` and the CR
abbrev pub given : List ℕ → ℕ → List SlavePdu
given now b = if last now == carriage_return && b == line_feed then frame_of (drop 1 (but_last now)) else []

truth : (c : Bool) → (c ≡ true) ⊎ (c ≡ false)
truth true = inl refl
truth false = inr refl

-- an end stands where a `:` does
marks : (x : ℕ) (ys : List ℕ) → (x == colon) ≡ true → begins_end (x ∷ ys) ≡ true
marks x [] h = h
marks x (y ∷ ys) h = rw h refl

-- a text that is open has no `:` in it
pub no-colon : (x : ℕ) (xs : List ℕ) → is_open (x ∷ xs) ≡ true → ((x == colon) ≡ false) × (is_open xs ≡ true)
unfolding from_end
no-colon x xs e = by_marks (x == colon) (begins_end (x ∷ xs)) (marks x xs) e
  where
    by_marks : (c ends : Bool) → (c ≡ true → ends ≡ true) → (length (if ends then x ∷ xs else from_end xs) == 0) ≡ true
        → (c ≡ false) × (is_open xs ≡ true)
    by_marks c true h e = absurd (some-bytes x xs e)
    by_marks false false h e = (refl, e)
    by_marks true false h e = cc (h refl)

pub open-none : (xs : List ℕ) → is_open xs ≡ true → open_end xs ≡ []
unfolding open_end
open-none [] e = refl
open-none (x ∷ xs) e = let f = no-colon x xs e in rw f.0 (open-none xs f.1)

pub open-quiet : (xs : List ℕ) → is_open xs ≡ true → frames xs ≡ []
unfolding frames
open-quiet [] e = refl
open-quiet (x ∷ xs) e = let f = no-colon x xs e in rw f.0 (open-quiet xs f.1)

colon-last : (x : ℕ) (xs : List ℕ) → x ≡ colon → (last (x ∷ xs) == carriage_return) ≡ (last xs == carriage_return)
colon-last x [] e = rw e refl
colon-last x (y ∷ ys) e = refl

ended-open : (xs : List ℕ) (b : ℕ) → is_open xs ≡ false → is_open (xs ++ b ∷ []) ≡ false
ended-open xs b e = rw (ended-more xs b e) (longer (from_end xs))
  where
    longer : (ys : List ℕ) → (length (ys ++ b ∷ []) == 0) ≡ false
    longer [] = refl
    longer (y ∷ ys) = grind arith

pub open_end-more : (bytes : List ℕ) (b : ℕ) → open_end (bytes ++ b ∷ []) ≡ opened (open_end bytes) b
unfolding open_end from_end
open_end-more [] b = by_mark (b == colon) (eqb-true b colon)
  where
    by_mark : (c : Bool) → (c ≡ true → b ≡ colon) → (if c && is_open [] then b ∷ [] else []) ≡ (if c then colon ∷ [] else [])
    by_mark true h = ap (λ (n : ℕ). n ∷ []) (h refl)
    by_mark false h = refl
open_end-more (x ∷ xs) b =
    elim (truth (x == colon)) [
      | inr other ↦ rw other (open_end-more xs b)
      | inl mark ↦
          elim (truth (is_open xs)) [
            | inr ended ↦ rw (mark, ended, ended-open xs b ended) (open_end-more xs b)
            | inl open_ ↦
                let rest : open_end (xs ++ b ∷ []) ≡ (if b == colon then colon ∷ [] else []) =
                open_end-more xs b ∙ ap (λ p. opened p b) (open-none xs open_) in
                let same = colon-last x xs (eqb-true x colon mark) in
                rw (mark, open_, open-more xs b open_, rest, same) (by_marks (b == colon) (last xs == carriage_return && b == line_feed))
          ]
    ]
  where
    by_marks : (c m : Bool) → (if (if c || m then false else true) then x ∷ (xs ++ b ∷ []) else if c then colon ∷ [] else [])
        ≡ (if c then colon ∷ [] else if length (x ∷ xs) == 0 then [] else if m then [] else (x ∷ xs) ++ b ∷ [])
    by_marks true m = refl
    by_marks false true = rw (suc-zero (length xs)) refl
    by_marks false false = rw (suc-zero (length xs)) refl

pub frames-more : (bytes : List ℕ) (b : ℕ) → frames (bytes ++ b ∷ []) ≡ frames bytes ++ given (open_end bytes) b
unfolding frames open_end frames_delivered from_end
frames-more [] b = by_mark (b == colon)
  where
    by_mark : (c : Bool) → (if c then frames_delivered [] else []) ++ [] ≡ []
    by_mark true = refl
    by_mark false = refl
frames-more (x ∷ xs) b =
    elim (truth (x == colon)) [
      | inr other ↦ rw other (frames-more xs b)
      | inl mark ↦
          elim (truth (is_open xs)) [
            | inr ended ↦ rw (mark, ended, delivered-ended xs b ended, frames-more xs b) (sym (append_assoc (frames_delivered xs) (frames xs) (given (open_end xs) b)))
            | inl open_ ↦
                let rest : frames (xs ++ b ∷ []) ≡ [] = frames-more xs b ∙ rw (open-quiet xs open_, open-none xs open_) refl in
                rw (mark, open_, delivered-open xs b open_, rest, delivered-none xs open_, open-quiet xs open_) (behind xs (eqb-true x colon mark))
          ]
    ]
  where
    behind : (ys : List ℕ) → x ≡ colon → now_delivered ys b ++ [] ≡ given (x ∷ ys) b
    behind [] e = rw e refl
    behind (y ∷ ys) e = append-nil _
