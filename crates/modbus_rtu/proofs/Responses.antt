-- The frame of a response whose first bytes tell its length: it is good whatever follows it, and each front of it waits.
use Rattle.std.proofs.Common.{◌≡◌, ◌≢◌, ℕ, zero, suc, ◌+◌, ◌-◌, ◌*◌, ◌/◌, ◌%◌, ◌<◌, ◌≤◌, Bool, true, false, eqb, ltb, leb, List, [], ◌∷◌, ◌++◌, length, take, drop, get_or, Option, Some, None, Ok, Err, refl, sym, ap, ◌∙◌, arith, length-append}
use Rattle.std.specs.Prelude.{slice_get}
use Rattle.std.specs.Option.{option_map}
use Rattle.std.proofs.lemmas.List.{take_at, take-append-drop, get_or-append_right, length-take-le}
use Rattle.std.proofs.lemmas.Bool.{le-leb, leb-true, ltb-false, eqb-true}
use Rattle.modbus_pdu.specs.Message.{message}
use Rattle.modbus_rtu.specs.declared.verdict.Verdict.TheVariants.{Open, Good}
use Rattle.modbus_rtu.specs.Checksum.{crc}
use Rattle.modbus_rtu.specs.Frame.{Head, frame}
use Rattle.modbus_rtu.specs.ResponseHead.{ResponseRule, response_rule, place_after_object, after_objects, within, response_identified, identified_len, held_len, word_len, response_head_at, response_head_by, response_head, response_verdict, HasResponseHead}
use Rattle.modbus_rtu.specs.ResponseHead.ResponseRule.{fixed, counted, counted_word, identification, unknown}
use Rattle.modbus_rtu.proofs.Verdicts.{got_again, IsKept, Stays, by_frame}
use Rattle.modbus_rtu.proofs.Judging.{judged_good, judged_missing, judged_short}
use Rattle.modbus_rtu.proofs.Framed.{frame_append, length-frame}
use Rattle.modbus_rtu.specs.Limits.{overhead}

within_again : (adu more : List ℕ) (place : ℕ) → IsKept (within adu place) (within (adu ++ more) place)
within_again adu more place next e = go (leb place (length adu)) refl
  where
    go : (b : Bool) → leb place (length adu) ≡ b → within (adu ++ more) place ≡ Some next
    go true t =
        let fits : place ≤ length (adu ++ more) = omega (arith, leb-true place (length adu) t, length-append adu more) in
        rw (le-leb place (length (adu ++ more)) fits) (rw t at e)
    go false f = cc (rw f at e)

object_again : (adu more : List ℕ) (place : ℕ) → IsKept (place_after_object adu place) (place_after_object (adu ++ more) place)
object_again adu more place next e = go (slice_get adu (place + 1)) refl
  where
    go : (o : Option ℕ) → slice_get adu (place + 1) ≡ o → place_after_object (adu ++ more) place ≡ Some next
    go None n = cc (rw n at e)
    go (Some size) s = rw (got_again adu more (place + 1) size s) (within_again adu more (place + 2 + size) next (rw s at e))

one_more : (adu more : List ℕ) (n place end : ℕ) (o : Option ℕ) → place_after_object adu place ≡ o → ((next : ℕ) → IsKept (after_objects adu n next) (after_objects (adu ++ more) n next)) → after_objects adu (suc n) place ≡ Some end → after_objects (adu ++ more) (suc n) place ≡ Some end
unfolding after_objects
one_more adu more n place end None m later e = cc (rw m at e)
one_more adu more n place end (Some next) s later e = rw (object_again adu more place next s) (later next end (rw s at e))

objects_again : (adu more : List ℕ) (n place : ℕ) → IsKept (after_objects adu n place) (after_objects (adu ++ more) n place)
unfolding after_objects
objects_again adu more zero place end e = e
objects_again adu more (suc n) place end e = one_more adu more n place end (place_after_object adu place) refl (λ next. objects_again adu more n next) e

mapped_again : (o o' : Option ℕ) → IsKept o o' → IsKept (option_map (λ end. end - 1) o) (option_map (λ end. end - 1) o')
mapped_again None o' kept x e = cc
mapped_again (Some end) o' kept x e = rw (kept end refl) e

identified_again : (adu more : List ℕ) → IsKept (identified_len adu) (identified_len (adu ++ more))
unfolding identified_len
identified_again adu more len e = go (slice_get adu 7) refl
  where
    go : (o : Option ℕ) → slice_get adu 7 ≡ o → identified_len (adu ++ more) ≡ Some len
    go None n = cc (rw n at e)
    go (Some count) s = rw (got_again adu more 7 count s) (mapped_again (after_objects adu count 8) (after_objects (adu ++ more) count 8) (objects_again adu more count 8) len (rw s at e))

word_again : (o o' p p' : Option ℕ) → IsKept o o' → IsKept p p' → IsKept (word_len o p) (word_len o' p')
word_again None o' p p' high low x e = cc
word_again (Some h) o' None p' high low x e = cc
word_again (Some h) o' (Some l) p' high low x e = rw (high h refl, low l refl) e

ok_stays : (o o' : Option ℕ) → IsKept o o' → Stays (Ok o) (Ok o')
ok_stays None o' kept ne = absurd (ne refl)
ok_stays (Some x) o' kept ne = rw (kept x refl) refl

counted_again : (o o' : Option ℕ) → IsKept o o' → IsKept (option_map (λ byte. 2 + byte) o) (option_map (λ byte. 2 + byte) o')
counted_again None o' kept x e = cc
counted_again (Some byte) o' kept x e = rw (kept byte refl) e

-- the function tells the length
abbrev IsTold : List ℕ → ResponseRule → Type 0
IsTold whole (fixed n) = Unit {0}
IsTold whole counted = Unit {0}
IsTold whole counted_word = Unit {0}
IsTold whole identification = slice_get whole 2 ≡ Some 14
IsTold whole unknown = ⊥

abbrev IsToldHead : List ℕ → Type 0
IsToldHead whole = (code : ℕ) × (slice_get whole 1 ≡ Some code) × IsTold whole (response_rule code)

identified_stays : (code : ℕ) (adu more : List ℕ) → slice_get (adu ++ more) 2 ≡ Some 14 → (o : Option ℕ) → slice_get adu 2 ≡ o → Stays (response_identified code adu o) (response_identified code (adu ++ more) (slice_get (adu ++ more) 2))
identified_stays code adu more told None n ne = absurd (ne refl)
identified_stays code adu more told (Some mei) s ne =
    let again = got_again adu more 2 mei s in
    let same : mei ≡ 14 = cc (again, told) in
    rw (told, same) (ok_stays (identified_len adu) (identified_len (adu ++ more)) (identified_again adu more) (rw same at ne))

response_head_by-append : (code : ℕ) (adu more : List ℕ) (r : ResponseRule) → IsTold (adu ++ more) r → Stays (response_head_by code adu r) (response_head_by code (adu ++ more) r)
response_head_by-append code adu more (fixed n) told ne = refl
response_head_by-append code adu more counted told ne = ok_stays _ _ (counted_again (slice_get adu 2) (slice_get (adu ++ more) 2) (got_again adu more 2)) ne
response_head_by-append code adu more counted_word told ne =
    ok_stays _ _ (word_again (slice_get adu 2) (slice_get (adu ++ more) 2) (slice_get adu 3) (slice_get (adu ++ more) 3) (got_again adu more 2) (got_again adu more 3)) ne
response_head_by-append code adu more identification told ne = identified_stays code adu more told (slice_get adu 2) refl ne
response_head_by-append code adu more unknown told ne = absurd told

head_stays : (adu more : List ℕ) → IsToldHead (adu ++ more) → Stays (response_head adu) (response_head (adu ++ more))
unfolding response_head
head_stays adu more (code, at, told) = go (slice_get adu 1) refl
  where
    go : (o : Option ℕ) → slice_get adu 1 ≡ o → Stays (response_head_at adu o) (response_head_at (adu ++ more) (slice_get (adu ++ more) 1))
    go None n ne = absurd (ne refl)
    go (Some c) s ne =
        let again = got_again adu more 1 c s in
        let same : c ≡ code = cc (again, at) in
        let told' : IsTold (adu ++ more) (response_rule c) = rw same told in
        rw again (response_head_by-append c adu more (response_rule c) told' ne)

not_held : (code slave : ℕ) (pdu : List ℕ) → held_len code (slave ∷ pdu) ≡ Ok (Some (length pdu)) → ⊥
not_held code slave pdu e = go (ltb (length (slave ∷ pdu)) 3) refl
  where
    go : (b : Bool) → ltb (length (slave ∷ pdu)) 3 ≡ b → ⊥
    go true t = cc (rw t at e)
    go false f =
        let least : 3 ≤ length (slave ∷ pdu) = ltb-false (length (slave ∷ pdu)) 3 f in
        let same : length (slave ∷ pdu) - 3 ≡ length pdu = cc (rw f at e) in
        absurd (omega (arith, least, same))

by_mei : (code slave : ℕ) (pdu : List ℕ) (o : Option ℕ) → slice_get (slave ∷ pdu) 2 ≡ o → response_identified code (slave ∷ pdu) o ≡ Ok (Some (length pdu)) → slice_get (slave ∷ pdu) 2 ≡ Some 14
by_mei code slave pdu None n e = cc
by_mei code slave pdu (Some mei) s e = go (eqb mei 14) refl
  where
    go : (b : Bool) → eqb mei 14 ≡ b → slice_get (slave ∷ pdu) 2 ≡ Some 14
    go true t = s ∙ ap Some (eqb-true mei 14 t)
    go false f = absurd (not_held code slave pdu (rw f at e))

by_rule : (code slave : ℕ) (pdu : List ℕ) (r : ResponseRule) → response_head_by code (slave ∷ pdu) r ≡ Ok (Some (length pdu)) → IsTold (slave ∷ pdu) r
by_rule code slave pdu (fixed n) e = tt
by_rule code slave pdu counted e = tt
by_rule code slave pdu counted_word e = tt
by_rule code slave pdu identification e = by_mei code slave pdu (slice_get (slave ∷ pdu) 2) refl e
by_rule code slave pdu unknown e = not_held code slave pdu e

-- only such a function has a head that is the length of what follows the slave address
told_of : (slave : ℕ) (pdu : List ℕ) → HasResponseHead (message slave pdu) → IsToldHead (slave ∷ pdu)
unfolding response_head
told_of slave [] has = cc
told_of slave (code ∷ rest) has = (code, refl, by_rule code slave (code ∷ rest) (response_rule code) has)

told_again : (whole more : List ℕ) (r : ResponseRule) → IsTold whole r → IsTold (whole ++ more) r
told_again whole more (fixed n) told = tt
told_again whole more counted told = tt
told_again whole more counted_word told = tt
told_again whole more identification told = got_again whole more 2 14 told
told_again whole more unknown told = told

told_head_again : (whole more : List ℕ) → IsToldHead whole → IsToldHead (whole ++ more)
told_head_again whole more (code, at, told) = (code, got_again whole more 1 code at, told_again whole more (response_rule code) told)

head_of_body : (slave : ℕ) (pdu more : List ℕ) → HasResponseHead (message slave pdu) → response_head ((slave ∷ pdu) ++ more) ≡ Ok (Some (length pdu))
head_of_body slave pdu more has = head_stays (slave ∷ pdu) more (told_head_again (slave ∷ pdu) more (told_of slave pdu has)) (λ o. cc (o, has)) ∙ has

good_front : (slave low high : ℕ) (pdu rest : List ℕ) → HasResponseHead (message slave pdu) → crc (slave ∷ pdu) ≡ low + 256 * high → response_verdict ((slave ∷ pdu) ++ (low ∷ high ∷ rest)) ≡ Good (length pdu)
unfolding response_verdict
good_front slave low high pdu rest has sum =
    let body = slave ∷ pdu in
    let n = length pdu in
    let adu = body ++ (low ∷ high ∷ rest) in
    let size : length body ≡ n + 1 = omega arith in
    let is : response_head adu ≡ Ok (Some n) = head_of_body slave pdu (low ∷ high ∷ rest) has in
    let none : n + 1 - (n + 1) ≡ 0 = omega arith in
    let one : n + 2 - (n + 1) ≡ 1 = omega arith in
    let first : get_or adu (n + 1) 0 ≡ low = get_or-append_right body (low ∷ high ∷ rest) (n + 1) (n + 1) 0 size (omega arith) ∙ rw none refl in
    let second : get_or adu (n + 2) 0 ≡ high = get_or-append_right body (low ∷ high ∷ rest) (n + 1) (n + 2) 0 size (omega arith) ∙ rw one refl in
    let taken : take (n + 1) adu ≡ body = take_at body (low ∷ high ∷ rest) (n + 1) size in
    sym (judged_good adu (response_head adu) n (sym is) (omega (arith, length-append body (low ∷ high ∷ rest))) (ap crc taken ∙ sum ∙ omega (arith, first, second)))

-- a frame is good, whatever follows it
pub frame_good : (slave : ℕ) (pdu more : List ℕ) → HasResponseHead (message slave pdu) → response_verdict (frame slave pdu ++ more) ≡ Good (length pdu)
frame_good slave pdu more has =
    let sum = crc (slave ∷ pdu) in
    ap response_verdict (frame_append slave pdu more) ∙ good_front slave (sum % 256) (sum / 256) pdu more has (omega arith)

told_frame : (slave : ℕ) (pdu : List ℕ) → HasResponseHead (message slave pdu) → IsToldHead (frame slave pdu) × (response_head (frame slave pdu) ≡ Ok (Some (length pdu)))
unfolding frame
told_frame slave pdu has =
    let sums = crc (slave ∷ pdu) % 256 ∷ crc (slave ∷ pdu) / 256 ∷ [] in
    (told_head_again (slave ∷ pdu) sums (told_of slave pdu has), head_of_body slave pdu sums has)

-- each front of it is open
pub front_open : (slave : ℕ) (pdu : List ℕ) (k : ℕ) → HasResponseHead (message slave pdu) → k < length pdu + overhead → response_verdict (take k (frame slave pdu)) ≡ Open
unfolding response_verdict
front_open slave pdu k has short = go (response_head front) refl
  where
    whole : List ℕ
    whole = frame slave pdu

    front : List ℕ
    front = take k whole

    same : response_head front ≢ Ok None → response_head front ≡ Ok (Some (length pdu))
    same ne =
        let facts = told_frame slave pdu has in
        let split : front ++ drop k whole ≡ whole = take-append-drop k whole in
        let told : IsToldHead (front ++ drop k whole) = rw split facts.0 in
        sym (head_stays front (drop k whole) told ne) ∙ ap response_head split ∙ facts.1

    waits : response_head front ≢ Ok None → response_verdict front ≡ Open
    waits ne = sym (judged_short front (response_head front) (length pdu) (sym (same ne)) (omega (arith, length-take-le k whole (omega (arith, length-frame slave pdu)), length-frame slave pdu)))

    go : (h : Head) → response_head front ≡ h → response_verdict front ≡ Open
    go (Ok None) e = sym (judged_missing front (response_head front) (sym e))
    go (Ok (Some n)) e = waits (λ none. cc (none, e))
    go (Err f) e = waits (λ none. cc (none, e))

-- nothing at all is open
pub nothing_open : response_verdict [] ≡ Open
unfolding response_verdict response_head
nothing_open = refl

-- a frame lies within
pub whole_of : (bytes : List ℕ) (n : ℕ) → response_verdict bytes ≡ Good n → n + overhead ≤ length bytes
unfolding response_verdict
whole_of bytes n e = by_frame bytes (response_head bytes) n e
