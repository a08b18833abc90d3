-- What follows bytes delivers what it delivers behind the `:` that is open at their end, or alone where that is too long.
use Rattle.std.proofs.Common.{◌≡◌, ℕ, ◌<◌, ◌≤◌, ◌==◌, Bool, true, false, ◌&&◌, if◌then◌else◌, ◌⊎◌, inl, inr, List, [], ◌∷◌, ◌++◌, length, drop, refl, sym, ap, ◌∙◌, subst, arith, length-append, append-nil, append_assoc}
use Rattle.modbus_pdu.specs.SlavePdu.{SlavePdu}
use Rattle.modbus_ascii.specs.Limits.{colon, carriage_return, line_feed, max_frame, most_open}
use Rattle.modbus_ascii.specs.Text.{open_end, last}
use Rattle.modbus_ascii.specs.Frames.{frame_of, frames}
use Rattle.modbus_ascii.specs.Stands.{kept_of}
use Rattle.modbus_ascii.proofs.Ends.{but_last, opened, given, open_end-more, frames-more}
use Rattle.modbus_ascii.proofs.Going.{long-text, going}
use Rattle.modbus_ascii.proofs.Holding.{OpenKind, open_end-kind, open_end-colon, all-open-quiet}

pub nothing-open : open_end [] ≡ []
unfolding open_end
nothing-open = refl

nothing-quiet : frames [] ≡ []
unfolding frames
nothing-quiet = refl

-- what is open is open alone
pub again : (bytes : List ℕ) → open_end (open_end bytes) ≡ open_end bytes
again bytes = by_kind (open_end-kind bytes)
  where
    by_kind : OpenKind (open_end bytes) → open_end (open_end bytes) ≡ open_end bytes
    by_kind (inl none) = ap open_end none ∙ nothing-open ∙ sym none
    by_kind (inr (text, is, h)) = ap open_end is ∙ open_end-colon text h ∙ sym is

-- bytes go on as what is open in them
pub behind-open : (bytes more : List ℕ) → frames (bytes ++ more) ≡ frames bytes ++ frames (open_end bytes ++ more)
behind-open bytes more =
    let g = going more bytes (open_end bytes) (ap kept_of (sym (again bytes))) in
    g.1 ∙ ap (λ f. frames bytes ++ f) (sym (g.2 ∙ ap (λ f. f ++ g.0) (all-open-quiet (open_end bytes) (again bytes))))

-- ---- a text that is too long

given-long : (now : List ℕ) (byte : ℕ) → most_open ≤ length now → given now byte ≡ []
given-long now byte long = by_mark (last now == carriage_return && byte == line_feed)
  where
    by_mark : (m : Bool) → (if m then frame_of (drop 1 (but_last now)) else []) ≡ []
    by_mark true = long-text now long
    by_mark false = refl

-- what is open after a byte, where it is too long: the same as of nothing, or it is too long still
opens-as : (now : List ℕ) (byte : ℕ) → most_open ≤ length now
    → (opened now byte ≡ opened [] byte) ⊎ ((most_open ≤ length (opened now byte)) × (opened [] byte ≡ []))
opens-as now byte long = by_marks (byte == colon) (length now == 0) (last now == carriage_return && byte == line_feed)
  where
    by_marks : (c n m : Bool) → ((if c then colon ∷ [] else if n then [] else if m then [] else now ++ byte ∷ []) ≡ (if c then colon ∷ [] else []))
        ⊎ ((most_open ≤ length (if c then colon ∷ [] else if n then [] else if m then [] else now ++ byte ∷ [])) × ((if c then colon ∷ [] else []) ≡ []))
    by_marks true n m = inl refl
    by_marks false true m = inl refl
    by_marks false false true = inl refl
    by_marks false false false = inr (omega (arith, long, length-append now (byte ∷ [])), refl)

-- what follows delivers the same behind both
abbrev Alike : List ℕ → List ℕ → List ℕ → Type 0
Alike a b more = (g : List SlavePdu) × (frames (a ++ more) ≡ frames a ++ g) × (frames (b ++ more) ≡ frames b ++ g)

by-a-byte : (a b more : List ℕ) (x : ℕ) → given (open_end a) x ≡ [] → given (open_end b) x ≡ [] → Alike (a ++ x ∷ []) (b ++ x ∷ []) more → Alike a b (x ∷ more)
by-a-byte a b more x ga gb (g, e, f) =
    (g, ap frames (sym (append_assoc a (x ∷ []) more)) ∙ e ∙ ap (λ y. y ++ g) (quiet a ga), ap frames (sym (append_assoc b (x ∷ []) more)) ∙ f ∙ ap (λ y. y ++ g) (quiet b gb))
  where
    quiet : (c : List ℕ) → given (open_end c) x ≡ [] → frames (c ++ x ∷ []) ≡ frames c
    quiet c none = frames-more c x ∙ ap (λ y. frames c ++ y) none ∙ append-nil (frames c)

long-gone : (more a b : List ℕ) → most_open ≤ length (open_end a) → open_end b ≡ [] → Alike a b more
long-gone [] a b long none = ([], ap frames (append-nil a) ∙ sym (append-nil (frames a)), ap frames (append-nil b) ∙ sym (append-nil (frames b)))
long-gone (x ∷ more) a b long none = by-a-byte a b more x (given-long (open_end a) x long) (ap (λ o. given o x) none)
    (by_next (λ longer closed. long-gone more (a ++ x ∷ []) (b ++ x ∷ []) longer closed) (opens-as (open_end a) x long))
  where
    a' : List ℕ
    a' = a ++ x ∷ []

    b' : List ℕ
    b' = b ++ x ∷ []

    after_b : open_end b' ≡ opened [] x
    after_b = open_end-more b x ∙ ap (λ o. opened o x) none

    by_next : (most_open ≤ length (open_end a') → open_end b' ≡ [] → Alike a' b' more) → (opened (open_end a) x ≡ opened [] x) ⊎ ((most_open ≤ length (opened (open_end a) x)) × (opened [] x ≡ [])) → Alike a' b' more
    by_next on (inl same) = let g = going more a' b' (ap kept_of (open_end-more a x ∙ same ∙ sym after_b)) in (g.0, g.1, g.2)
    by_next on (inr (longer, closed)) = on (subst (λ o. most_open ≤ length o) (sym (open_end-more a x)) longer) (after_b ∙ closed)

pub behind-long : (bytes more : List ℕ) → max_frame < length (open_end bytes) → frames (bytes ++ more) ≡ frames bytes ++ frames more
behind-long bytes more long =
    let too_long : most_open ≤ length (open_end bytes) = omega (arith, long) in
    let g = long-gone more bytes [] too_long nothing-open in
    g.1 ∙ ap (λ f. frames bytes ++ f) (sym (g.2 ∙ ap (λ f. f ++ g.0) nothing-quiet))
