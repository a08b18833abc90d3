-- What stands at the front of bytes on a serial line: what is decided stays when bytes follow, and at a silence too.
use Rattle.std.proofs.Common.{◌≡◌, ◌≢◌, inl, inr, ◌⊎◌, ℕ, ◌+◌, ◌-◌, ◌<◌, ◌≤◌, Bool, true, false, not, cond, ltb, List, [], ◌∷◌, ◌++◌, length, take, Option, Some, None, Ok, Err, refl, sym, ap, ◌∙◌, arith, length-append}
use Rattle.std.specs.Prelude.{slice_get, slice_index}
use Rattle.std.proofs.lemmas.Bool.{cases_lt, ltb-false, ltb-true, le-ltb, lt-ltb}
use Rattle.std.proofs.lemmas.List.{take_all, take-append-le, get_or_append_left}
use Rattle.std.proofs.Math.Seq.{take-append-add}
use Rattle.modbus_rtu.specs.declared.verdict.Verdict.{Verdict}
use Rattle.modbus_rtu.specs.declared.verdict.Verdict.TheVariants.{Open, Bad, Good}
use Rattle.modbus_rtu.specs.Frame.{Head, verdict_by}
use Rattle.modbus_rtu.specs.Limits.{overhead}
use Rattle.modbus_client.specs.LineReading.{line_rule, tells_length, bounded, told_len, line_head, line_verdict, is_untold, whole_head, silent_head, closed, silent_verdict}
use Rattle.modbus_client.proofs.LineLength.{told_on, untold_is}

-- the frame of a good list is whole
pub by_len : (adu : List ℕ) (n : ℕ) → verdict_by adu (Ok (Some n)) ≢ Open → n + overhead ≤ length adu
by_len adu n ne = go (ltb (length adu) (n + overhead)) refl
  where
    go : (b : Bool) → ltb (length adu) (n + overhead) ≡ b → n + overhead ≤ length adu
    go true t = absurd (ne (rw t refl))
    go false f = ltb-false (length adu) (n + overhead) f

pub by_append : (adu more : List ℕ) (n : ℕ) → verdict_by adu (Ok (Some n)) ≢ Open → verdict_by (adu ++ more) (Ok (Some n)) ≡ verdict_by adu (Ok (Some n))
by_append adu more n ne =
    let fits : n + overhead ≤ length adu = by_len adu n ne in
    let fits' : n + overhead ≤ length (adu ++ more) = omega (arith, length-append adu more) in
    rw (le-ltb (length adu) (n + overhead) fits, le-ltb (length (adu ++ more)) (n + overhead) fits', take-append-le (n + 1) adu more (omega arith), get_or_append_left adu more 0 (n + 1) (omega arith), get_or_append_left adu more 0 (n + 2) (omega arith)) refl

-- what a verdict is by the length that is told
abbrev verdict_told : List ℕ → ℕ → Option ℕ → Verdict
verdict_told adu code told = verdict_by adu (bounded code (length adu) told)

some_append : (adu more : List ℕ) (code code' n : ℕ) → verdict_told adu code (Some n) ≢ Open → verdict_told (adu ++ more) code' (Some n) ≡ verdict_told adu code (Some n)
some_append adu more code code' n ne = go (ltb 253 n) refl
  where
    go : (b : Bool) → ltb 253 n ≡ b → verdict_told (adu ++ more) code' (Some n) ≡ verdict_told adu code (Some n)
    go true t = rw t refl
    go false f = rw f (by_append adu more n (rw f at ne))

none_long : (adu : List ℕ) (code : ℕ) → verdict_told adu code None ≢ Open → 256 < length adu
none_long adu code ne = go (ltb 256 (length adu)) refl
  where
    go : (b : Bool) → ltb 256 (length adu) ≡ b → 256 < length adu
    go true t = ltb-true 256 (length adu) t
    go false f = absurd (ne (rw f refl))

none_bad : (adu : List ℕ) (code : ℕ) → 256 < length adu → verdict_told adu code None ≡ Bad
none_bad adu code long = rw (lt-ltb 256 (length adu) long) refl

-- the verdict by what the first bytes tell, which are no more than a frame has
by_told : (adu more : List ℕ) (o : Option ℕ) → told_len (take 256 adu) ≡ o → (code code' : ℕ) → verdict_told adu code o ≢ Open
    → verdict_told (adu ++ more) code' (told_len (take 256 (adu ++ more))) ≡ verdict_told adu code o
by_told adu more (Some n) is code code' ne = rw (kept (cases_lt (length adu) 256)) (some_append adu more code code' n ne)
  where
    kept : (length adu < 256) ⊎ (256 ≤ length adu) → told_len (take 256 (adu ++ more)) ≡ Some n
    kept (inl short) =
        let all : take 256 adu ≡ adu = take_all 256 adu (omega (arith, short)) in
        let count : 256 ≡ length adu + (256 - length adu) = omega (arith, short) in
        let front : take 256 (adu ++ more) ≡ adu ++ take (256 - length adu) more = ap (λ k. take k (adu ++ more)) count ∙ take-append-add adu more (256 - length adu) in
        ap told_len front ∙ told_on adu (take (256 - length adu) more) n (sym (ap told_len all) ∙ is)
    kept (inr long) = ap told_len (take-append-le 256 adu more long) ∙ is
by_told adu more None is code code' ne =
    let long : 256 < length adu = none_long adu code ne in
    let long' : 256 < length (adu ++ more) = omega (arith, long, length-append adu more) in
    let same : told_len (take 256 (adu ++ more)) ≡ None = ap told_len (take-append-le 256 adu more (omega (arith, long))) ∙ is in
    rw same (none_bad (adu ++ more) code' long' ∙ sym (none_bad adu code long))

-- a verdict good or bad stays when bytes follow
pub line_decided : (adu more : List ℕ) → line_verdict adu ≢ Open → line_verdict (adu ++ more) ≡ line_verdict adu
unfolding line_verdict line_head
line_decided adu more ne = by_told adu more (told_len (take 256 adu)) refl (slice_index adu 1) (slice_index (adu ++ more) 1) ne

pub by_frame : (adu : List ℕ) (h : Head) (n : ℕ) → verdict_by adu h ≡ Good n → n + overhead ≤ length adu
by_frame adu (Ok None) n e = cc
by_frame adu (Err f) n e = cc
by_frame adu (Ok (Some m)) n e = go (ltb (length adu) (m + overhead)) refl
  where
    tested : (b : Bool) → cond b (Good m) Bad ≡ Good n → m ≡ n
    tested true t = cc
    tested false t = cc

    go : (b : Bool) → ltb (length adu) (m + overhead) ≡ b → n + overhead ≤ length adu
    go true t = cc (rw t at e)
    go false f = omega (arith, ltb-false (length adu) (m + overhead) f, tested _ (rw f at e))

-- a good frame lies within
pub line_within : (adu : List ℕ) (n : ℕ) → line_verdict adu ≡ Good n → n + overhead ≤ length adu
unfolding line_verdict
line_within adu n e = by_frame adu (line_head adu) n e

closed_good : (v : Verdict) (n : ℕ) → closed v ≡ Good n → v ≡ Good n
closed_good Open n e = cc
closed_good Bad n e = cc
closed_good (Good m) n e = e

pub silent_within : (adu : List ℕ) (n : ℕ) → silent_verdict adu ≡ Good n → n + overhead ≤ length adu
unfolding silent_verdict
silent_within adu n e = by_frame adu (silent_head adu) n (closed_good (verdict_by adu (silent_head adu)) n e)

closed_same : (v : Verdict) → v ≢ Open → closed v ≡ v
closed_same Open ne = absurd (ne refl)
closed_same Bad ne = refl
closed_same (Good n) ne = refl

same_code : (adu : List ℕ) → slice_get (take 256 adu) 1 ≡ slice_get adu 1
same_code [] = refl
same_code (x ∷ []) = refl
same_code (x ∷ y ∷ rest) = refl

same_next : (adu : List ℕ) → slice_get (take 256 adu) 2 ≡ slice_get adu 2
same_next [] = refl
same_next (x ∷ []) = refl
same_next (x ∷ y ∷ []) = refl
same_next (x ∷ y ∷ z ∷ rest) = refl

pub not_true : (b : Bool) → not b ≡ true → b ≡ false
not_true true e = cc
not_true false e = refl

-- a function that tells no length tells none
untold_none : (adu : List ℕ) (o : Option ℕ) → slice_get adu 1 ≡ o → is_untold adu o ≡ true → told_len (take 256 adu) ≡ None
untold_none adu None s untold = cc
untold_none adu (Some code) s untold =
    untold_is (take 256 adu) code (same_code adu ∙ s) (ap (tells_length (line_rule code)) (same_next adu) ∙ not_true (tells_length (line_rule code) (slice_get adu 2)) untold)

whole_long : (adu : List ℕ) → 256 < length adu → verdict_by adu (whole_head adu) ≡ Bad
whole_long adu long = rw (le-ltb (length adu) 4 (omega (arith, long)), lt-ltb 256 (length adu) long) refl

untold_bad : (adu : List ℕ) → is_untold adu (slice_get adu 1) ≡ true → verdict_by adu (line_head adu) ≢ Open → (256 < length adu) × (verdict_by adu (line_head adu) ≡ Bad)
unfolding line_head
untold_bad adu untold ne =
    let none : told_len (take 256 adu) ≡ None = untold_none adu (slice_get adu 1) refl untold in
    let code = slice_index adu 1 in
    let same : verdict_by adu (line_head adu) ≡ verdict_told adu code None = ap (verdict_told adu code) none in
    let long : 256 < length adu = none_long adu code (λ o. ne (same ∙ o)) in
    (long, same ∙ none_bad adu code long)

-- a verdict that is decided while bytes come is the same at the silence behind them
pub silent_decided : (adu : List ℕ) → line_verdict adu ≢ Open → silent_verdict adu ≡ line_verdict adu
unfolding line_verdict silent_verdict silent_head
silent_decided adu ne = go (is_untold adu (slice_get adu 1)) refl
  where
    go : (b : Bool) → is_untold adu (slice_get adu 1) ≡ b → closed (verdict_by adu (cond (is_untold adu (slice_get adu 1)) (whole_head adu) (line_head adu))) ≡ verdict_by adu (line_head adu)
    go false told = rw told (closed_same (verdict_by adu (line_head adu)) ne)
    go true untold = let (long, bad) = untold_bad adu untold ne in rw untold (ap closed (whole_long adu long) ∙ sym bad)
