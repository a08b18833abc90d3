-- What is open in bytes, as far as it is held, tells how they go on.
use Rattle.std.proofs.Common.{◌≡◌, ℕ, zero, suc, ◌+◌, ◌-◌, ◌<◌, ◌≤◌, ◌==◌, Bool, true, false, ◌&&◌, if◌then◌else◌, ◌⊎◌, inl, inr, List, [], ◌∷◌, ◌++◌, length, drop, refl, sym, ap, ◌∙◌, arith, length-append, length-drop, append-nil, append_assoc}
use Rattle.std.proofs.lemmas.Bool.{cases_lt}
use Rattle.std.proofs.lemmas.List.{drop-drop}
use Rattle.modbus_pdu.specs.SlavePdu.{SlavePdu}
use Rattle.modbus_ascii.specs.Limits.{colon, carriage_return, line_feed, longest_text, most_open}
use Rattle.modbus_ascii.specs.Text.{open_end, last}
use Rattle.modbus_ascii.specs.Frames.{frame_of, frames}
use Rattle.modbus_ascii.specs.Stands.{kept_of, held_open}
use Rattle.modbus_ascii.proofs.Ends.{but_last, opened, given, open_end-more, frames-more}
use Rattle.modbus_ascii.proofs.Digits.{useless-long}

-- two open ends of which the same is held
abbrev pub Like : List ℕ → List ℕ → Type 0
Like a b = kept_of a ≡ kept_of b

pub length-kept : (a : List ℕ) → length (kept_of a) ≡ length a - (length a - most_open)
length-kept a = length-drop (length a - most_open) a

pub short-kept : (a : List ℕ) → length a ≤ most_open → kept_of a ≡ a
short-kept a h = let none : length a - most_open ≡ 0 = omega arith in rw none refl

-- they are the same, or both are too long
pub like-cases : (a b : List ℕ) → Like a b → (a ≡ b) ⊎ ((most_open ≤ length a) × (most_open ≤ length b))
like-cases a b e =
    elim (cases_lt (length a) most_open) [
      | inl below ↦
          let small : length b ≤ most_open = omega (arith, length-kept a, length-kept b, ap length e) in
          inl (sym (short-kept a (omega arith)) ∙ e ∙ short-kept b small)
      | inr above ↦ inr (above, omega (arith, length-kept a, length-kept b, ap length e))
    ]

last-drop : (k : ℕ) (a : List ℕ) → k < length a → last (drop k a) ≡ last a
last-drop zero a h = refl
last-drop (suc k) [] h = absurd (omega arith)
last-drop (suc k) (x ∷ []) h = absurd (omega arith)
last-drop (suc k) (x ∷ y ∷ ys) h = last-drop k (y ∷ ys) (omega arith)

pub like-last : (a b : List ℕ) → Like a b → 0 < length a → last a ≡ last b
like-last a b e some =
    let some' : 0 < length b = omega (arith, length-kept a, length-kept b, ap length e) in
    sym (last-drop (length a - most_open) a (omega arith)) ∙ ap last e ∙ last-drop (length b - most_open) b (omega arith)

drop-push : (k : ℕ) (a : List ℕ) (b : ℕ) → k ≤ length a → drop k (a ++ b ∷ []) ≡ drop k a ++ b ∷ []
drop-push zero a b h = refl
drop-push (suc k) [] b h = absurd (omega arith)
drop-push (suc k) (x ∷ a) b h = drop-push k a b (omega arith)

-- what is held of one byte more is held of what was held and the byte
kept-push : (a : List ℕ) (b : ℕ) → kept_of (a ++ b ∷ []) ≡ kept_of (kept_of a ++ b ∷ [])
kept-push a b =
    let size = length-append a (b ∷ []) in
    let sized = length-append (kept_of a) (b ∷ []) in
    let kept = length-kept a in
    elim (cases_lt (length a) most_open) [
      | inl below ↦ ap (λ x. kept_of (x ++ b ∷ [])) (sym (short-kept a (omega arith)))
      | inr above ↦
          let left : length (a ++ b ∷ []) - most_open ≡ length a - most_open + 1 = omega arith in
          let right : length (kept_of a ++ b ∷ []) - most_open ≡ 1 = omega arith in
          let turned : drop (length a - most_open + 1) (a ++ b ∷ []) ≡ drop 1 (drop (length a - most_open) (a ++ b ∷ [])) =
          sym (drop-drop 1 (length a - most_open) (a ++ b ∷ [])) in
          let within : length a - most_open ≤ length a = omega arith in
          rw (left, right, turned) (ap (drop 1) (drop-push (length a - most_open) a b within))
    ]

-- what is held grows with the bytes
some-kept : (a b : List ℕ) → Like a b → (length a == 0) ≡ (length b == 0)
some-kept a b e = by_cases (like-cases a b e)
  where
    by_cases : (a ≡ b) ⊎ ((most_open ≤ length a) × (most_open ≤ length b)) → (length a == 0) ≡ (length b == 0)
    by_cases (inl same) = ap (λ x. length x == 0) same
    by_cases (inr (long, longer)) = grind arith

like-marks : (a b : List ℕ) (x : ℕ) → Like a b → (last a == carriage_return && x == line_feed) ≡ (last b == carriage_return && x == line_feed)
like-marks a b x e = by_cases (like-cases a b e)
  where
    by_cases : (a ≡ b) ⊎ ((most_open ≤ length a) × (most_open ≤ length b)) → (last a == carriage_return && x == line_feed) ≡ (last b == carriage_return && x == line_feed)
    by_cases (inl same) = ap (λ y. last y == carriage_return && x == line_feed) same
    by_cases (inr (long, longer)) = ap (λ y. y == carriage_return && x == line_feed) (like-last a b e (omega arith))

-- a byte more
like-opened : (a b : List ℕ) (x : ℕ) → Like a b → Like (opened a x) (opened b x)
like-opened a b x e = rw (some-kept a b e, like-marks a b x e) (by_marks (x == colon) (length b == 0) (last b == carriage_return && x == line_feed))
  where
    by_marks : (c n m : Bool) → kept_of (if c then colon ∷ [] else if n then [] else if m then [] else a ++ x ∷ [])
        ≡ kept_of (if c then colon ∷ [] else if n then [] else if m then [] else b ++ x ∷ [])
    by_marks true n m = refl
    by_marks false true m = refl
    by_marks false false true = refl
    by_marks false false false = kept-push a x ∙ ap (λ y. kept_of (y ++ x ∷ [])) e ∙ sym (kept-push b x)

length-but_last : (a : List ℕ) → length (but_last a) ≡ length a - 1
length-but_last [] = refl
length-but_last (x ∷ []) = refl
length-but_last (x ∷ y ∷ ys) = omega (arith, length-but_last (y ∷ ys))

-- a text that is too long delivers nothing
pub long-text : (a : List ℕ) → most_open ≤ length a → frame_of (drop 1 (but_last a)) ≡ []
long-text a long =
    let text = drop 1 (but_last a) in
    let above : longest_text < length text = omega (arith, length-drop 1 (but_last a), length-but_last a) in
    sym (ap frame_of (append-nil text)) ∙ useless-long text above []

like-given : (a b : List ℕ) (x : ℕ) → Like a b → given a x ≡ given b x
like-given a b x e = by_cases (like-cases a b e)
  where
    by_cases : (a ≡ b) ⊎ ((most_open ≤ length a) × (most_open ≤ length b)) → given a x ≡ given b x
    by_cases (inl same) = ap (λ y. given y x) same
    by_cases (inr (long, longer)) = rw (like-marks a b x e, long-text a long, long-text b longer) refl

-- bytes of which the same is held open go on alike: each byte more delivers the same frames, and the same is held open then
pub going : (more a b : List ℕ) → Like (open_end a) (open_end b)
    → (g : List SlavePdu) × (frames (a ++ more) ≡ frames a ++ g) × (frames (b ++ more) ≡ frames b ++ g) × Like (open_end (a ++ more)) (open_end (b ++ more))
going [] a b e = ([], ap frames (append-nil a) ∙ sym (append-nil (frames a)), ap frames (append-nil b) ∙ sym (append-nil (frames b)), rw (append-nil a, append-nil b) e)
going (x ∷ more) a b e =
    let stepped : Like (open_end (a ++ x ∷ [])) (open_end (b ++ x ∷ [])) = rw (open_end-more a x, open_end-more b x) (like-opened (open_end a) (open_end b) x e) in
    let rest = going more (a ++ x ∷ []) (b ++ x ∷ []) stepped in
    let left : (a ++ x ∷ []) ++ more ≡ a ++ x ∷ more = append_assoc a (x ∷ []) more in
    let right : (b ++ x ∷ []) ++ more ≡ b ++ x ∷ more = append_assoc b (x ∷ []) more in
    let first : frames (a ++ x ∷ more) ≡ frames a ++ (given (open_end a) x ++ rest.0) =
    sym (ap frames left) ∙ rest.1 ∙ ap (λ f. f ++ rest.0) (frames-more a x) ∙ append_assoc (frames a) (given (open_end a) x) rest.0 in
    let second : frames (b ++ x ∷ more) ≡ frames b ++ (given (open_end a) x ++ rest.0) =
    sym (ap frames right) ∙ rest.2 ∙ ap (λ f. f ++ rest.0) (frames-more b x) ∙ append_assoc (frames b) (given (open_end b) x) rest.0
    ∙ ap (λ f. frames b ++ (f ++ rest.0)) (sym (like-given (open_end a) (open_end b) x e)) in
    (given (open_end a) x ++ rest.0, first, second, rw (← left, ← right) rest.3)

-- what bytes deliver stays, whatever follows
pub frames-front : (a more : List ℕ) → (later : List SlavePdu) × (frames (a ++ more) ≡ frames a ++ later)
frames-front a more = let g = going more a a refl in (g.0, g.1)

-- bytes with no `:` open have no part in what follows
pub frames-closed : (a more : List ℕ) → open_end a ≡ [] → (frames (a ++ more) ≡ frames a ++ frames more) × (held_open (a ++ more) ≡ held_open more)
unfolding open_end frames
frames-closed a more e =
    let g = going more a [] (ap kept_of e) in
    (g.1 ∙ ap (λ f. frames a ++ f) (sym g.2), g.3)
