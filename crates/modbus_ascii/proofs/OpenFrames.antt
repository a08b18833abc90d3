-- Bytes go on as the front of a frame that they end with.
use Rattle.std.proofs.Common.{◌≡◌, ℕ, ◌<◌, ◌≤◌, ◌==◌, nat_le, Bool, true, false, ◌&&◌, if◌then◌else◌, ◌⊎◌, inl, inr, List, [], ◌∷◌, ◌++◌, length, refl, sym, ap, ◌∙◌, arith, length-append, append-nil, append_assoc}
use Rattle.modbus_ascii.specs.Limits.{colon, carriage_return, line_feed, max_frame}
use Rattle.modbus_ascii.specs.Text.{open_end, last}
use Rattle.modbus_ascii.specs.Frames.{frames}
use Rattle.modbus_ascii.specs.OpenFrames.{if_fits, open_frame}
use Rattle.modbus_ascii.proofs.Ends.{opened, open_end-more}
use Rattle.modbus_ascii.proofs.Behind.{nothing-open, again, behind-open, behind-long}

-- they fit, or they are too long
fits-cases : (now : List ℕ) → (if_fits now ≡ now) ⊎ ((max_frame < length now) × (if_fits now ≡ []))
fits-cases now = by_test (nat_le (length now) max_frame) above
  where
    above : nat_le (length now) max_frame ≡ false → max_frame < length now
    above h = grind arith

    by_test : (b : Bool) → (b ≡ false → max_frame < length now) → ((if b then now else []) ≡ now) ⊎ ((max_frame < length now) × ((if b then now else []) ≡ []))
    by_test true f = inl refl
    by_test false f = inr (f refl, refl)

long-none : (now : List ℕ) → max_frame < length now → if_fits now ≡ []
long-none now long = by_test (nat_le (length now) max_frame) below
  where
    below : nat_le (length now) max_frame ≡ true → length now ≤ max_frame
    below h = grind arith

    by_test : (b : Bool) → (b ≡ true → length now ≤ max_frame) → (if b then now else []) ≡ []
    by_test true f = absurd (omega (arith, f refl, long))
    by_test false f = refl

-- a byte more, behind a text that is too long
long-opened : (now : List ℕ) (x : ℕ) → max_frame < length now → if_fits (opened now x) ≡ if_fits (opened [] x)
long-opened now x long = by_marks (x == colon) (length now == 0) (last now == carriage_return && x == line_feed)
  where
    longer : if_fits (now ++ x ∷ []) ≡ []
    longer = long-none (now ++ x ∷ []) (omega (arith, long, length-append now (x ∷ [])))

    by_marks : (c n m : Bool) → if_fits (if c then colon ∷ [] else if n then [] else if m then [] else now ++ x ∷ []) ≡ if_fits (if c then colon ∷ [] else [])
    by_marks true n m = refl
    by_marks false true m = refl
    by_marks false false true = refl
    by_marks false false false = longer

fits-opened : (now : List ℕ) (x : ℕ) → if_fits (opened now x) ≡ if_fits (opened (if_fits now) x)
fits-opened now x = by_case (fits-cases now)
  where
    by_case : (if_fits now ≡ now) ⊎ ((max_frame < length now) × (if_fits now ≡ [])) → if_fits (opened now x) ≡ if_fits (opened (if_fits now) x)
    by_case (inl same) = ap (λ o. if_fits (opened o x)) (sym same)
    by_case (inr (long, none)) = long-opened now x long ∙ ap (λ o. if_fits (opened o x)) (sym none)

open_frame-more : (bytes : List ℕ) (x : ℕ) → open_frame (bytes ++ x ∷ []) ≡ if_fits (opened (open_frame bytes) x)
open_frame-more bytes x = ap if_fits (open_end-more bytes x) ∙ fits-opened (open_end bytes) x

going-on : (more a b : List ℕ) → open_frame a ≡ open_frame b → open_frame (a ++ more) ≡ open_frame (b ++ more)
going-on [] a b e = ap open_frame (append-nil a) ∙ e ∙ sym (ap open_frame (append-nil b))
going-on (x ∷ more) a b e =
    let next : open_frame (a ++ x ∷ []) ≡ open_frame (b ++ x ∷ []) = open_frame-more a x ∙ ap (λ o. if_fits (opened o x)) e ∙ sym (open_frame-more b x) in
    sym (ap open_frame (append_assoc a (x ∷ []) more)) ∙ going-on more (a ++ x ∷ []) (b ++ x ∷ []) next ∙ ap open_frame (append_assoc b (x ∷ []) more)

open_frame-again : (bytes : List ℕ) → open_frame (open_frame bytes) ≡ open_frame bytes
open_frame-again bytes = by_case (fits-cases (open_end bytes))
  where
    by_case : (open_frame bytes ≡ open_end bytes) ⊎ ((max_frame < length (open_end bytes)) × (open_frame bytes ≡ [])) → open_frame (open_frame bytes) ≡ open_frame bytes
    by_case (inl same) = ap open_frame same ∙ ap if_fits (again bytes)
    by_case (inr (long, none)) = ap open_frame none ∙ ap if_fits nothing-open ∙ sym none

pub open_frames-left : (bytes more : List ℕ) → open_frame (bytes ++ more) ≡ open_frame (open_frame bytes ++ more)
open_frames-left bytes more = going-on more bytes (open_frame bytes) (sym (open_frame-again bytes))

pub open_frames-deliver : (bytes more : List ℕ) → frames (bytes ++ more) ≡ frames bytes ++ frames (open_frame bytes ++ more)
open_frames-deliver bytes more = by_case (fits-cases (open_end bytes))
  where
    by_case : (open_frame bytes ≡ open_end bytes) ⊎ ((max_frame < length (open_end bytes)) × (open_frame bytes ≡ [])) → frames (bytes ++ more) ≡ frames bytes ++ frames (open_frame bytes ++ more)
    by_case (inl same) = behind-open bytes more ∙ ap (λ o. frames bytes ++ frames (o ++ more)) (sym same)
    by_case (inr (long, none)) = behind-long bytes more long ∙ ap (λ o. frames bytes ++ frames (o ++ more)) (sym none)
