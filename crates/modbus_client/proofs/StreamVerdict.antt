-- What stands at the front of bytes over a connection: what is decided stays when bytes follow, and a frame alone is found.
use Rattle.std.proofs.Common.{inl, inr, ◌⊎◌, ltb, length-append, append-nil, eq-eqb, ◌≡◌, ◌≢◌, ℕ, zero, suc, ◌+◌, ◌-◌, ◌<◌, ◌≤◌, ◌==◌, Bool, true, false, not, ◌&&◌, ◌||◌, cond, List, [], ◌∷◌, ◌++◌, length, take, drop, Option, Some, None, Ok, refl, sym, ap, ◌∙◌, arith}
use Rattle.std.specs.Prelude.{slice_get, slice_index}
use Rattle.std.proofs.lemmas.Bool.{cases_lt, eqb-true, ltb-true, le-ltb, lt-ltb}
use Rattle.std.proofs.lemmas.List.{take_all, take-append-drop, take-append-le}
use Rattle.std.proofs.Math.Seq.{take-append-add}
use Rattle.modbus_rtu.specs.declared.verdict.Verdict.{Verdict}
use Rattle.modbus_rtu.specs.declared.verdict.Verdict.TheVariants.{Open, Bad, Good}
use Rattle.modbus_rtu.specs.ResponseHead.{ResponseRule}
use Rattle.modbus_rtu.specs.ResponseHead.ResponseRule.{fixed, counted, counted_word, identification, unknown}
use Rattle.modbus_rtu.specs.Frame.{frame, verdict_by}
use Rattle.modbus_rtu.specs.Limits.{overhead}
use Rattle.modbus_client.specs.Protocol.{Found, IsOfMessage}
use Rattle.modbus_client.specs.Rtu.{slave_seen}
use Rattle.modbus_client.specs.LineReading.{line_rule, tells_length, told_len, line_head, line_verdict, bounded, whole_head, silent_head, awaited, reply_verdict, may_ask, is_good, is_own, hides_reply, is_settled, request_verdict, stream_verdict, is_untold, HasLineHead, read_from}
use Rattle.modbus_client.proofs.LineLength.{got_again, told_on, untold_is}
use Rattle.modbus_client.proofs.LineVerdict.{by_len, by_append, by_frame, line_decided, line_within, not_true}
use Rattle.modbus_client.proofs.LineReads.{Passes, passes_decided}
use Rattle.modbus_client.proofs.LineAlone.{whole, whole_good, told_whole, front_open, alone_by, waits_none}

-- ---- what tells no length goes on to tell none

rule_again : (adu more : List ℕ) (r : ResponseRule) (o : Option ℕ) → slice_get adu 2 ≡ o → tells_length r o ≡ false → tells_length r (slice_get (adu ++ more) 2) ≡ false
rule_again adu more (fixed n) o is untold = cc
rule_again adu more counted o is untold = cc
rule_again adu more counted_word o is untold = cc
rule_again adu more identification None is untold = cc
rule_again adu more identification (Some mei) is untold = rw (got_again adu more 2 mei is) untold
rule_again adu more unknown o is untold = refl

untold_by_code : (adu more : List ℕ) (o : Option ℕ) → slice_get adu 1 ≡ o → is_untold adu o ≡ true → is_untold (adu ++ more) (slice_get (adu ++ more) 1) ≡ true
untold_by_code adu more None is untold = cc
untold_by_code adu more (Some code) is untold =
    let none : tells_length (line_rule code) (slice_get adu 2) ≡ false = not_true _ untold in
    rw (got_again adu more 1 code is) (ap not (rule_again adu more (line_rule code) (slice_get adu 2) refl none))

untold_again : (adu more : List ℕ) → is_untold adu (slice_get adu 1) ≡ true → is_untold (adu ++ more) (slice_get (adu ++ more) 1) ≡ true
untold_again adu more untold = untold_by_code adu more (slice_get adu 1) refl untold

-- ---- the verdict

line_is : (asked : ℕ) (adu : List ℕ) → is_untold adu (slice_get adu 1) ≡ false → reply_verdict asked adu ≡ line_verdict adu
unfolding reply_verdict
line_is asked adu told = rw told refl

other_is : (asked : ℕ) (adu : List ℕ) → is_untold adu (slice_get adu 1) ≡ true → (slice_index adu 0 == asked) ≡ false → reply_verdict asked adu ≡ Bad
unfolding reply_verdict
other_is asked adu untold other = rw (untold, other) refl

own_is : (asked : ℕ) (adu : List ℕ) → is_untold adu (slice_get adu 1) ≡ true → (slice_index adu 0 == asked) ≡ true → reply_verdict asked adu ≡ awaited (length adu) (verdict_by adu (whole_head adu))
unfolding reply_verdict silent_head
own_is asked adu untold own = rw (untold, own) refl

missing : (xs : List ℕ) (k : ℕ) → slice_get xs k ≡ None → length xs ≤ k
missing [] k e = omega arith
missing (y ∷ xs) zero e = cc
missing (y ∷ xs) (suc k) e = omega (arith, missing xs k e)

no_code : (adu : List ℕ) → slice_get adu 1 ≡ None → told_len adu ≡ None
unfolding told_len
no_code adu is = rw is refl

no_type : (adu : List ℕ) (code : ℕ) → slice_get adu 1 ≡ Some code → line_rule code ≡ identification → slice_get adu 2 ≡ None → told_len adu ≡ None
unfolding told_len
no_type adu code is rule at = rw (is, rule, at) refl

-- bytes that are decided, and tell a length, go on to tell one
told_again : (adu more : List ℕ) (o : Option ℕ) → slice_get adu 1 ≡ o → is_untold adu o ≡ false → line_verdict adu ≢ Open → is_untold (adu ++ more) (slice_get (adu ++ more) 1) ≡ false
told_again adu more None is told ne = absurd (ne (waits_none adu (omega (arith, missing adu 1 is)) (no_code adu is)))
told_again adu more (Some code) is told ne = rw (got_again adu more 1 code is) (by_rule (line_rule code) refl (slice_get adu 2) refl told)
  where
    by_rule : (r : ResponseRule) → line_rule code ≡ r → (o : Option ℕ) → slice_get adu 2 ≡ o → not (tells_length r o) ≡ false → not (tells_length r (slice_get (adu ++ more) 2)) ≡ false
    by_rule (fixed n) rule o at told = refl
    by_rule counted rule o at told = refl
    by_rule counted_word rule o at told = refl
    by_rule identification rule None at told = absurd (ne (waits_none adu (omega (arith, missing adu 2 at)) (no_type adu code is rule at)))
    by_rule identification rule (Some mei) at told = rw (got_again adu more 2 mei at) told
    by_rule unknown rule o at told = cc

-- ---- what is passed

long_bad : (adu : List ℕ) → 256 < length adu → awaited (length adu) (verdict_by adu (whole_head adu)) ≡ Bad
long_bad adu long = rw (le-ltb (length adu) 4 (omega (arith, long)), lt-ltb 256 (length adu) long, lt-ltb 256 (length adu) long) refl

bad_long : (count : ℕ) (v : Verdict) → awaited count v ≡ Bad → 256 < count
bad_long count Bad e = go (ltb 256 count) refl
  where
    go : (b : Bool) → ltb 256 count ≡ b → 256 < count
    go true t = ltb-true 256 count t
    go false f = cc (rw f at e)
bad_long count Open e = cc
bad_long count (Good n) e = cc

front_again : (asked : ℕ) (adu more : List ℕ) → is_untold adu (slice_get adu 1) ≡ true → slice_index (adu ++ more) 0 ≡ slice_index adu 0
front_again asked [] more untold = cc
front_again asked (x ∷ adu) more untold = refl

own_of : (a b : ℕ) → (a == b) ≡ true → a ≢ b → ⊥
own_of a b own apart = apart (eqb-true a b own)

reply_passed : (asked : ℕ) (adu more : List ℕ) → Passes (reply_verdict asked) asked adu → reply_verdict asked (adu ++ more) ≡ reply_verdict asked adu
reply_passed asked adu more passes = go (is_untold adu (slice_get adu 1)) refl
  where
    by_own : (b : Bool) → is_untold adu (slice_get adu 1) ≡ true → (slice_index adu 0 == asked) ≡ b → Passes (reply_verdict asked) asked adu → reply_verdict asked (adu ++ more) ≡ reply_verdict asked adu
    by_own false untold other p =
        let same : (slice_index (adu ++ more) 0 == asked) ≡ false = ap (λ x. x == asked) (front_again asked adu more untold) ∙ other in
        other_is asked (adu ++ more) (untold_again adu more untold) same ∙ sym (other_is asked adu untold other)
    by_own true untold own (inl bad) =
        let long : 256 < length adu = bad_long (length adu) (verdict_by adu (whole_head adu)) (sym (own_is asked adu untold own) ∙ bad) in
        let long' : 256 < length (adu ++ more) = omega (arith, long, length-append adu more) in
        let same : (slice_index (adu ++ more) 0 == asked) ≡ true = ap (λ x. x == asked) (front_again asked adu more untold) ∙ own in
        own_is asked (adu ++ more) (untold_again adu more untold) same ∙ long_bad (adu ++ more) long' ∙ sym bad
    by_own true untold own (inr (n, good, apart)) = absurd (own_of (slice_index adu 0) asked own apart)

    go : (b : Bool) → is_untold adu (slice_get adu 1) ≡ b → reply_verdict asked (adu ++ more) ≡ reply_verdict asked adu
    go true untold = by_own (slice_index adu 0 == asked) untold refl passes
    go false told =
        let ne : line_verdict adu ≢ Open = λ e. passes_decided passes (line_is asked adu told ∙ e) in
        line_is asked (adu ++ more) (told_again adu more (slice_get adu 1) refl told ne) ∙ line_decided adu more ne ∙ sym (line_is asked adu told)

awaited_good : (count : ℕ) (v : Verdict) (n : ℕ) → awaited count v ≡ Good n → v ≡ Good n
awaited_good count Bad n e = go (ltb 256 count) refl
  where
    go : (b : Bool) → ltb 256 count ≡ b → Bad ≡ Good n
    go true t = cc (rw t at e)
    go false f = cc (rw f at e)
awaited_good count Open n e = e
awaited_good count (Good m) n e = e

reply_within : (asked : ℕ) (adu : List ℕ) (n : ℕ) → reply_verdict asked adu ≡ Good n → n + overhead ≤ length adu
reply_within asked adu n e = go (is_untold adu (slice_get adu 1)) refl
  where
    by_own : (b : Bool) → is_untold adu (slice_get adu 1) ≡ true → (slice_index adu 0 == asked) ≡ b → n + overhead ≤ length adu
    by_own false untold other = absurd (let bad = other_is asked adu untold other in cc (bad, e))
    by_own true untold own = by_frame adu (whole_head adu) n (awaited_good (length adu) (verdict_by adu (whole_head adu)) n (sym (own_is asked adu untold own) ∙ e))

    go : (b : Bool) → is_untold adu (slice_get adu 1) ≡ b → n + overhead ≤ length adu
    go true untold = by_own (slice_index adu 0 == asked) untold refl
    go false told = line_within adu n (sym (line_is asked adu told) ∙ e)

-- ---- another master's request

-- a verdict good stays when bytes follow
good_again : (adu more : List ℕ) → is_good (line_verdict adu) ≡ true → is_good (line_verdict (adu ++ more)) ≡ true
good_again adu more good = ap is_good (line_decided adu more (decided (line_verdict adu) good)) ∙ good
  where
    decided : (v : Verdict) → is_good v ≡ true → v ≢ Open
    decided Open g = cc
    decided Bad g = cc
    decided (Good n) g = λ e. cc

both_true : (a b : Bool) → (a && b) ≡ true → (a ≡ true) × (b ≡ true)
both_true true b e = (refl, e)
both_true false b e = cc

either_true : (a b a' b' : Bool) → (a ≡ true → a' ≡ true) → (b ≡ true → b' ≡ true) → (a || b) ≡ true → (a' || b') ≡ true
either_true true b a' b' f g e = rw (f refl) refl
either_true false b true b' f g e = refl
either_true false b false b' f g e = g e

-- no bytes are no reply
pub no_own : (asked : ℕ) → is_own asked [] ≡ false
no_own asked = go (0 == asked)
  where
    none_good : is_good (line_verdict []) ≡ false
    none_good = ap is_good (waits_none [] (omega arith) (no_code [] refl))

    go : (b : Bool) → (b && is_good (line_verdict [])) ≡ false
    go true = none_good
    go false = refl

own_again : (asked : ℕ) (adu more : List ℕ) → is_own asked adu ≡ true → is_own asked (adu ++ more) ≡ true
own_again asked [] more own = absurd (let none = no_own asked in cc (none, own))
own_again asked (byte ∷ rest) more own =
    let (same, good) = both_true (byte == asked) (is_good (line_verdict (byte ∷ rest))) own in
    let later : is_good (line_verdict (byte ∷ rest ++ more)) ≡ true = good_again (byte ∷ rest) more good in
    rw (same, later) refl

-- behind bytes that are dropped
own_behind : (asked k : ℕ) (adu more : List ℕ) → is_own asked (drop k adu) ≡ true → is_own asked (drop k (adu ++ more)) ≡ true
own_behind asked zero adu more own = own_again asked adu more own
own_behind asked (suc k) [] more own = absurd (let none = no_own asked in cc (none, own))
own_behind asked (suc k) (byte ∷ rest) more own = own_behind asked k rest more own

hides_again : (asked : ℕ) (adu more : List ℕ) → hides_reply asked adu ≡ true → hides_reply asked (adu ++ more) ≡ true
hides_again asked adu more =
    let now = λ (k : ℕ). is_own asked (drop k adu) in
    let later = λ (k : ℕ). is_own asked (drop k (adu ++ more)) in
    either_true (now 1 || now 2) (now 3) (later 1 || later 2) (later 3)
    (either_true (now 1) (now 2) (later 1) (later 2) (own_behind asked 1 adu more) (own_behind asked 2 adu more))
    (own_behind asked 3 adu more)

settled_on : (asked : ℕ) (adu more : List ℕ) → is_settled asked adu ≡ true → is_settled asked (adu ++ more) ≡ true
unfolding is_settled
settled_on asked adu more =
    either_true (is_good (line_verdict adu)) (hides_reply asked adu) (is_good (line_verdict (adu ++ more))) (hides_reply asked (adu ++ more)) (good_again adu more) (hides_again asked adu more)

settled_again : (asked : ℕ) (adu more : List ℕ) → is_settled asked (take 7 adu) ≡ true → is_settled asked (take 7 (adu ++ more)) ≡ true
settled_again asked adu more settled = go (cases_lt (length adu) 7)
  where
    go : (length adu < 7) ⊎ (7 ≤ length adu) → is_settled asked (take 7 (adu ++ more)) ≡ true
    go (inl short) =
        let all : take 7 adu ≡ adu = take_all 7 adu (omega (arith, short)) in
        let count : 7 ≡ length adu + (7 - length adu) = omega (arith, short) in
        let front : take 7 (adu ++ more) ≡ adu ++ take (7 - length adu) more = ap (λ k. take k (adu ++ more)) count ∙ take-append-add adu more (7 - length adu) in
        ap (is_settled asked) front ∙ settled_on asked adu (take (7 - length adu) more) (sym (ap (is_settled asked) all) ∙ settled)
    go (inr long) = ap (is_settled asked) (take-append-le 7 adu more long) ∙ settled

-- what is read as a request by two words
abbrev asks : ℕ → List ℕ → Bool → Bool → Verdict
asks asked adu may settled = cond (not may) Bad (cond settled Bad (verdict_by adu (Ok (Some 5))))

request_is : (asked : ℕ) (adu : List ℕ) → request_verdict asked adu ≡ asks asked adu (may_ask asked adu (slice_get adu 1)) (is_settled asked (take 7 adu))
unfolding request_verdict
request_is asked adu = refl

may_again : (asked : ℕ) (adu more : List ℕ) (code : ℕ) → slice_get adu 1 ≡ Some code → may_ask asked (adu ++ more) (slice_get (adu ++ more) 1) ≡ may_ask asked adu (slice_get adu 1)
may_again asked [] more code at = cc
may_again asked (byte ∷ rest) more code at = rw (got_again (byte ∷ rest) more 1 code at, at) refl

-- a verdict on a request stays when bytes follow
request_decided : (asked : ℕ) (adu more : List ℕ) (code : ℕ) → slice_get adu 1 ≡ Some code → request_verdict asked adu ≢ Open → request_verdict asked (adu ++ more) ≡ request_verdict asked adu
request_decided asked adu more code at ne = by_may (may_ask asked adu (slice_get adu 1)) refl
  where
    again : may_ask asked (adu ++ more) (slice_get (adu ++ more) 1) ≡ may_ask asked adu (slice_get adu 1)
    again = may_again asked adu more code at

    by_settled : (b : Bool) → may_ask asked adu (slice_get adu 1) ≡ true → is_settled asked (take 7 adu) ≡ b → request_verdict asked (adu ++ more) ≡ request_verdict asked adu
    by_settled true may settled =
        request_is asked (adu ++ more) ∙ rw (again, may, settled_again asked adu more settled) (sym (request_is asked adu ∙ rw (may, settled) refl))
    by_settled false may settled =
        let here : request_verdict asked adu ≡ verdict_by adu (Ok (Some 5)) = request_is asked adu ∙ rw (may, settled) refl in
        let decided : verdict_by adu (Ok (Some 5)) ≢ Open = λ e. ne (here ∙ e) in
        let fits : 5 + overhead ≤ length adu = by_len adu 5 decided in
        let same : is_settled asked (take 7 (adu ++ more)) ≡ false = ap (is_settled asked) (take-append-le 7 adu more (omega (arith, fits))) ∙ settled in
        request_is asked (adu ++ more) ∙ rw (again, may, same) (by_append adu more 5 decided ∙ sym here)

    by_may : (b : Bool) → may_ask asked adu (slice_get adu 1) ≡ b → request_verdict asked (adu ++ more) ≡ request_verdict asked adu
    by_may false may = request_is asked (adu ++ more) ∙ rw (again, may) (sym (request_is asked adu ∙ rw may refl))
    by_may true may = by_settled (is_settled asked (take 7 adu)) may refl

request_within : (asked : ℕ) (adu : List ℕ) (n : ℕ) → request_verdict asked adu ≡ Good n → n + overhead ≤ length adu
request_within asked adu n e = by_may (may_ask asked adu (slice_get adu 1)) refl
  where
    by_settled : (b : Bool) → may_ask asked adu (slice_get adu 1) ≡ true → is_settled asked (take 7 adu) ≡ b → n + overhead ≤ length adu
    by_settled true may settled = absurd (let bad : request_verdict asked adu ≡ Bad = request_is asked adu ∙ rw (may, settled) refl in cc (bad, e))
    by_settled false may settled =
        let here : request_verdict asked adu ≡ verdict_by adu (Ok (Some 5)) = request_is asked adu ∙ rw (may, settled) refl in
        by_frame adu (Ok (Some 5)) n (sym here ∙ e)

    by_may : (b : Bool) → may_ask asked adu (slice_get adu 1) ≡ b → n + overhead ≤ length adu
    by_may false may = absurd (let bad : request_verdict asked adu ≡ Bad = request_is asked adu ∙ rw may refl in cc (bad, e))
    by_may true may = by_settled (is_settled asked (take 7 adu)) may refl

no_request : (asked : ℕ) (adu : List ℕ) → may_ask asked adu (slice_get adu 1) ≡ false → request_verdict asked adu ≡ Bad
no_request asked adu none = request_is asked adu ∙ rw none refl

-- ---- either

pub else_reply : (asked : ℕ) (adu : List ℕ) → request_verdict asked adu ≡ Bad → stream_verdict asked adu ≡ reply_verdict asked adu
unfolding stream_verdict
else_reply asked adu bad = rw bad refl

else_request : (asked : ℕ) (adu : List ℕ) (n : ℕ) → request_verdict asked adu ≡ Good n → stream_verdict asked adu ≡ Good n
unfolding stream_verdict
else_request asked adu n good = rw good refl

else_waits : (asked : ℕ) (adu : List ℕ) → request_verdict asked adu ≡ Open → stream_verdict asked adu ≡ Open
unfolding stream_verdict
else_waits asked adu is = rw is refl

no_code_waits : (asked : ℕ) (adu : List ℕ) → slice_get adu 1 ≡ None → stream_verdict asked adu ≡ Open
no_code_waits asked adu none =
    else_reply asked adu (no_request asked adu (rw none refl)) ∙ line_is asked adu (rw none refl) ∙ waits_none adu (omega (arith, missing adu 1 none)) (no_code adu none)

pub stream_passed : (asked : ℕ) (adu more : List ℕ) → Passes (stream_verdict asked) asked adu → stream_verdict asked (adu ++ more) ≡ stream_verdict asked adu
stream_passed asked adu more passes = by_code (slice_get adu 1) refl
  where
    by_request : (code : ℕ) (v : Verdict) → slice_get adu 1 ≡ Some code → request_verdict asked adu ≡ v → stream_verdict asked (adu ++ more) ≡ stream_verdict asked adu
    by_request code Open at is = absurd (passes_decided passes (else_waits asked adu is))
    by_request code (Good n) at is =
        let later : request_verdict asked (adu ++ more) ≡ Good n = request_decided asked adu more code at (λ e. cc (is, e)) ∙ is in
        else_request asked (adu ++ more) n later ∙ sym (else_request asked adu n is)
    by_request code Bad at is =
        let later : request_verdict asked (adu ++ more) ≡ Bad = request_decided asked adu more code at (λ e. cc (is, e)) ∙ is in
        let here : stream_verdict asked adu ≡ reply_verdict asked adu = else_reply asked adu is in
        else_reply asked (adu ++ more) later ∙ reply_passed asked adu more (as_reply here passes) ∙ sym here
      where
        as_reply : stream_verdict asked adu ≡ reply_verdict asked adu → Passes (stream_verdict asked) asked adu → Passes (reply_verdict asked) asked adu
        as_reply here (inl bad) = inl (sym here ∙ bad)
        as_reply here (inr (n, good, apart)) = inr (n, sym here ∙ good, apart)

    by_code : (o : Option ℕ) → slice_get adu 1 ≡ o → stream_verdict asked (adu ++ more) ≡ stream_verdict asked adu
    by_code None none = absurd (passes_decided passes (no_code_waits asked adu none))
    by_code (Some code) at = by_request code (request_verdict asked adu) at refl

pub stream_within : (asked : ℕ) (adu : List ℕ) (n : ℕ) → stream_verdict asked adu ≡ Good n → n + overhead ≤ length adu
stream_within asked adu n e = go (request_verdict asked adu) refl
  where
    go : (v : Verdict) → request_verdict asked adu ≡ v → n + overhead ≤ length adu
    go Open is = absurd (let waits = else_waits asked adu is in cc (waits, e))
    go Bad is = reply_within asked adu n (sym (else_reply asked adu is) ∙ e)
    go (Good m) is = request_within asked adu n (is ∙ sym (else_request asked adu m is) ∙ e)

-- ---- a frame alone

-- bytes that tell a length are not those of a function that tells none
told_is : (adu : List ℕ) (n : ℕ) → told_len adu ≡ Some n → is_untold adu (slice_get adu 1) ≡ false
told_is adu n e = go (slice_get adu 1) refl
  where
    go : (o : Option ℕ) → slice_get adu 1 ≡ o → is_untold adu o ≡ false
    go None is = refl
    go (Some code) is = by_test (tells_length (line_rule code) (slice_get adu 2)) refl
      where
        by_test : (b : Bool) → tells_length (line_rule code) (slice_get adu 2) ≡ b → not b ≡ false
        by_test true t = refl
        by_test false f = absurd (let none = untold_is adu code is f in cc (none, e))

module _ (slave : ℕ) (pdu : List ℕ) (has : HasLineHead slave pdu) where
  abbrev all : List ℕ
  all = whole slave pdu has

  reply_good : reply_verdict slave all ≡ Good (length pdu)
  reply_good = line_is slave all (told_is all (length pdu) (told_whole slave pdu has)) ∙ whole_good slave pdu has

  reply_open : (bytes rest : List ℕ) → all ≡ bytes ++ rest → rest ≢ [] → reply_verdict slave bytes ≡ Open
  reply_open bytes rest joined some = go (is_untold bytes (slice_get bytes 1)) refl
    where
      go : (b : Bool) → is_untold bytes (slice_get bytes 1) ≡ b → reply_verdict slave bytes ≡ Open
      go false told = line_is slave bytes told ∙ front_open slave pdu has bytes rest joined some
      go true untold =
          let later : is_untold all (slice_get all 1) ≡ true = ap (λ b. is_untold b (slice_get b 1)) joined ∙ untold_again bytes rest untold in
          let told : is_untold all (slice_get all 1) ≡ false = told_is all (length pdu) (told_whole slave pdu has) in
          absurd (cc (later, told))

  -- no front of it is another slave's request
  own_front : (bytes rest : List ℕ) → all ≡ bytes ++ rest → may_ask slave bytes (slice_get bytes 1) ≡ false
  own_front [] rest joined = refl
  own_front (byte ∷ bytes) rest joined = by_code (slice_get (byte ∷ bytes) 1)
    where
      same : byte ≡ slave
      same = cc

      by_code : (o : Option ℕ) → may_ask slave (byte ∷ bytes) o ≡ false
      by_code None = refl
      by_code (Some code) = rw (eq-eqb byte slave same) refl

  stream_good : stream_verdict slave all ≡ Good (length pdu)
  stream_good = else_reply slave all (no_request slave all (own_front all [] (sym (append-nil all)))) ∙ reply_good

  stream_open : (bytes rest : List ℕ) → all ≡ bytes ++ rest → rest ≢ [] → stream_verdict slave bytes ≡ Open
  stream_open bytes rest joined some = else_reply slave bytes (no_request slave bytes (own_front bytes rest joined)) ∙ reply_open bytes rest joined some

  pub stream_alone : (bytes rest : List ℕ) (found : Found) → frame slave pdu ≡ bytes ++ rest → found ≡ (read_from (stream_verdict slave) slave 0 bytes).found → IsOfMessage (slave_seen slave) pdu rest found
  stream_alone = alone_by slave pdu has (stream_verdict slave) stream_good stream_open

-- what a line judges good tells its length
pub good_told : (adu : List ℕ) (n : ℕ) → line_verdict adu ≡ Good n → is_untold adu (slice_get adu 1) ≡ false
unfolding line_verdict line_head
good_told adu n e = by_told (told_len (take 256 adu)) refl
  where
    none_told : (b : Bool) → ltb 256 (length adu) ≡ b → verdict_by adu (bounded (slice_index adu 1) (length adu) None) ≢ Good n
    none_told true long = λ g. cc (rw long at g)
    none_told false few = λ g. cc (rw few at g)

    by_told : (o : Option ℕ) → told_len (take 256 adu) ≡ o → is_untold adu (slice_get adu 1) ≡ false
    by_told None none = absurd (none_told (ltb 256 (length adu)) refl (sym (ap (λ o. verdict_by adu (bounded (slice_index adu 1) (length adu) o)) none) ∙ e))
    by_told (Some m) told =
        let more : told_len (take 256 adu ++ drop 256 adu) ≡ Some m = told_on (take 256 adu) (drop 256 adu) m told in
        told_is adu m (sym (ap told_len (take-append-drop 256 adu)) ∙ more)

-- and is a reply over a connection
pub good_reply : (asked : ℕ) (adu : List ℕ) (n : ℕ) → line_verdict adu ≡ Good n → reply_verdict asked adu ≡ Good n
good_reply asked adu n e = line_is asked adu (good_told adu n e) ∙ e
