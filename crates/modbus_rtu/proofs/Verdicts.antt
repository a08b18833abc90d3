-- A verdict that is good or bad stays when bytes follow.
use Rattle.std.proofs.Common.{◌≡◌, ◌≢◌, ℕ, zero, suc, ◌+◌, ◌<◌, ◌≤◌, Bool, true, false, cond, ltb, List, [], ◌∷◌, ◌++◌, length, drop, Option, Some, None, Ok, Err, refl, sym, ap, ◌∙◌, arith, length-append, length-drop}
use Rattle.std.specs.Prelude.{slice_get}
use Rattle.std.proofs.lemmas.List.{take-append-le, drop-append-le, drop-drop, drop_all, get_or_append_left}
use Rattle.std.proofs.lemmas.Bool.{ltb-false, le-ltb}
use Rattle.modbus_rtu.specs.declared.verdict.Verdict.{Verdict}
use Rattle.modbus_rtu.specs.declared.verdict.Verdict.TheVariants.{Open, Bad, Good}
use Rattle.modbus_rtu.specs.Frame.{Rule, Head, head, head_at, head_by, counted_head, identified_head, rule, verdict, verdict_of, verdict_by}
use Rattle.modbus_rtu.specs.Frame.Rule.{fixed, counted, identification, unknown}
use Rattle.modbus_rtu.specs.Limits.{overhead}

pub got_again : (xs more : List ℕ) (k x : ℕ) → slice_get xs k ≡ Some x → slice_get (xs ++ more) k ≡ Some x
got_again [] more k x e = cc
got_again (y ∷ xs) more zero x e = e
got_again (y ∷ xs) more (suc k) x e = got_again xs more k x e

-- a byte that is there stays
abbrev pub IsKept : Option ℕ → Option ℕ → Type 0
IsKept o o' = (x : ℕ) → o ≡ Some x → o' ≡ Some x

-- what is made of a byte that stays: either it is missing, or nothing changes
abbrev pub Stays : Head → Head → Type 0
Stays h h' = h ≢ Ok None → h' ≡ h

counted_stays : (code n : ℕ) (o o' : Option ℕ) → IsKept o o' → Stays (counted_head code n o) (counted_head code n o')
counted_stays code n None o' kept ne = absurd (ne refl)
counted_stays code n (Some x) o' kept ne = rw (kept x refl) refl

identified_stays : (code : ℕ) (o o' : Option ℕ) → IsKept o o' → Stays (identified_head code o) (identified_head code o')
identified_stays code None o' kept ne = absurd (ne refl)
identified_stays code (Some x) o' kept ne = rw (kept x refl) refl

head_by-append : (code : ℕ) (adu more : List ℕ) (r : Rule) → Stays (head_by code adu r) (head_by code (adu ++ more) r)
head_by-append code adu more (fixed n) ne = refl
head_by-append code adu more (counted n) ne = counted_stays code n (slice_get adu n) _ (got_again adu more n) ne
head_by-append code adu more identification ne = identified_stays code (slice_get adu 2) _ (got_again adu more 2) ne
head_by-append code adu more unknown ne = refl

head_at-append : (adu more : List ℕ) (o o' : Option ℕ) → IsKept o o' → Stays (head_at adu o) (head_at (adu ++ more) o')
head_at-append adu more None o' kept ne = absurd (ne refl)
head_at-append adu more (Some code) o' kept ne = rw (kept code refl) (head_by-append code adu more (rule code) ne)

-- a head that is there stays
pub head-append : (adu more : List ℕ) → Stays (head adu) (head (adu ++ more))
unfolding head
head-append adu more ne = head_at-append adu more (slice_get adu 1) _ (got_again adu more 1) ne

-- the frame of a good list is whole
by_len : (adu : List ℕ) (n : ℕ) (v : Verdict) → verdict_by adu (Ok (Some n)) ≡ v → v ≢ Open → n + overhead ≤ length adu
by_len adu n v e ne = go (ltb (length adu) (n + overhead)) refl
  where
    go : (b : Bool) → ltb (length adu) (n + overhead) ≡ b → n + overhead ≤ length adu
    go true t = absurd (ne (sym e ∙ rw t refl))
    go false f = ltb-false (length adu) (n + overhead) f

verdict_by-append : (adu more : List ℕ) (h : Head) → verdict_by adu h ≢ Open → verdict_by (adu ++ more) h ≡ verdict_by adu h
verdict_by-append adu more (Ok None) ne = absurd (ne refl)
verdict_by-append adu more (Err e) ne = refl
verdict_by-append adu more (Ok (Some n)) ne =
    let fits : n + overhead ≤ length adu = by_len adu n _ refl ne in
    let fits' : n + overhead ≤ length (adu ++ more) = omega (arith, length-append adu more) in
    rw (le-ltb (length adu) (n + overhead) fits, le-ltb (length (adu ++ more)) (n + overhead) fits', take-append-le (n + 1) adu more (omega arith), get_or_append_left adu more 0 (n + 1) (omega arith), get_or_append_left adu more 0 (n + 2) (omega arith)) refl

head_there : (adu : List ℕ) (h : Head) → verdict_by adu h ≢ Open → h ≢ Ok None
head_there adu h ne e = ne (ap (verdict_by adu) e)

pub verdict_of-append : (adu more : List ℕ) → verdict_of adu ≢ Open → verdict_of (adu ++ more) ≡ verdict_of adu
unfolding verdict_of
verdict_of-append adu more ne =
    ap (verdict_by (adu ++ more)) (head-append adu more (head_there adu (head adu) ne)) ∙ verdict_by-append adu more (head adu) ne

-- nothing at all is open
pub verdict_of-nil : verdict_of [] ≡ Open
unfolding verdict_of head
verdict_of-nil = refl

within : (adu : List ℕ) → verdict_of adu ≢ Open → 0 < length adu
within [] ne = absurd (ne verdict_of-nil)
within (x ∷ adu) ne = omega arith

-- an offset that isn't open lies within
pub judged_within : (bytes : List ℕ) (i : ℕ) → verdict bytes i ≢ Open → i < length bytes
judged_within bytes i ne = omega (arith, within (drop i bytes) ne, length-drop i bytes)

-- a verdict good or bad is the same in every list that the bytes begin
pub verdict-append : (bytes more : List ℕ) (i : ℕ) → verdict bytes i ≢ Open → verdict (bytes ++ more) i ≡ verdict bytes i
verdict-append bytes more i ne =
    let lt : i < length bytes = judged_within bytes i ne in
    rw (drop-append-le i bytes more (omega arith)) (verdict_of-append (drop i bytes) more ne)

pub by_frame : (adu : List ℕ) (h : Head) (n : ℕ) → verdict_by adu h ≡ Good n → n + overhead ≤ length adu
by_frame adu (Ok None) n e = cc
by_frame adu (Err f) n e = cc
by_frame adu (Ok (Some m)) n e = go (ltb (length adu) (m + overhead)) refl
  where
    tested : (b : Bool) → cond b (Good m) Bad ≡ Good n → m ≡ n
    tested true t = cc
    tested false t = cc

    go : (b : Bool) → ltb (length adu) (m + overhead) ≡ b → n + overhead ≤ length adu
    go true t = cc (rw t at e)
    go false f = omega (arith, ltb-false (length adu) (m + overhead) f, tested _ (rw f at e))

pub good_of : (adu : List ℕ) (n : ℕ) → verdict_of adu ≡ Good n → n + overhead ≤ length adu
unfolding verdict_of
good_of adu n e = by_frame adu (head adu) n e

pub bad_not_open : {v : Verdict} → v ≡ Bad → v ≢ Open
bad_not_open b o = cc

pub good_not_open : {v : Verdict} {n : ℕ} → v ≡ Good n → v ≢ Open
good_not_open g o = cc

-- a good frame lies within
pub good_within : (bytes : List ℕ) (i n : ℕ) → verdict bytes i ≡ Good n → i + (n + overhead) ≤ length bytes
good_within bytes i n e =
    omega (arith, good_of (drop i bytes) n e, length-drop i bytes, judged_within bytes i (good_not_open e))

-- an offset counted from a later start
pub verdict-drop : (bytes : List ℕ) (start i : ℕ) → verdict (drop start bytes) i ≡ verdict bytes (start + i)
verdict-drop bytes start i = rw (drop-drop i start bytes) refl

-- each offset before the place lies within
pub bad_within : (held : List ℕ) (n : ℕ) → ((i : ℕ) → i < n → verdict held i ≡ Bad) → n ≤ length held
bad_within held zero bad = omega arith
bad_within held (suc n) bad = omega (arith, judged_within held n (bad_not_open (bad n (omega arith))))

-- at the end and past it an offset is open
pub verdict-past : (bytes : List ℕ) (i : ℕ) → length bytes ≤ i → verdict bytes i ≡ Open
verdict-past bytes i past = rw (drop_all i bytes past) verdict_of-nil
