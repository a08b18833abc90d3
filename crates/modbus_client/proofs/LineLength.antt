-- The length of a reply on a serial line: what is told of it stays when bytes follow.
use Rattle.std.proofs.Common.{◌≡◌, ◌≢◌, ◌⊎◌, inl, inr, ℕ, zero, suc, ◌+◌, ◌-◌, ◌<◌, ◌≤◌, Bool, true, false, eqb, leb, List, [], ◌∷◌, ◌++◌, length, Option, Some, None, Ok, refl, sym, arith, length-append}
use Rattle.std.specs.Prelude.{slice_get}
use Rattle.std.specs.Option.{option_map}
use Rattle.std.proofs.lemmas.Bool.{le-leb, lt-leb, leb-true}
use Rattle.std.proofs.lemmas.Bool.Decides.{eqb_tells}
use Rattle.modbus_rtu.specs.ResponseHead.{ResponseRule, response_rule, place_after_object, after_objects, within, response_identified, identified_len, word_len, response_head_by, response_head}
use Rattle.modbus_rtu.specs.ResponseHead.ResponseRule.{fixed, counted, counted_word, identification, unknown}
use Rattle.modbus_client.specs.LineReading.{is_file_record, line_rule, tells_length, identification_told, len_by, len_at, told_len}

pub got_again : (xs more : List ℕ) (k x : ℕ) → slice_get xs k ≡ Some x → slice_get (xs ++ more) k ≡ Some x
got_again [] more k x e = cc
got_again (y ∷ xs) more zero x e = e
got_again (y ∷ xs) more (suc k) x e = got_again xs more k x e

-- what is there stays
abbrev pub IsKept : Option ℕ → Option ℕ → Type 0
IsKept o o' = (x : ℕ) → o ≡ Some x → o' ≡ Some x

within_again : (adu more : List ℕ) (place : ℕ) → IsKept (within adu place) (within (adu ++ more) place)
within_again adu more place next e = go (leb place (length adu)) refl
  where
    go : (b : Bool) → leb place (length adu) ≡ b → within (adu ++ more) place ≡ Some next
    go true t =
        let fits : place ≤ length (adu ++ more) = omega (arith, leb-true place (length adu) t, length-append adu more) in
        rw (le-leb place (length (adu ++ more)) fits) (rw t at e)
    go false f = cc (rw f at e)

object_again : (adu more : List ℕ) (place : ℕ) → IsKept (place_after_object adu place) (place_after_object (adu ++ more) place)
object_again adu more place next e = go (slice_get adu (place + 1)) refl
  where
    go : (o : Option ℕ) → slice_get adu (place + 1) ≡ o → place_after_object (adu ++ more) place ≡ Some next
    go None n = cc (rw n at e)
    go (Some size) s = rw (got_again adu more (place + 1) size s) (within_again adu more (place + 2 + size) next (rw s at e))

one_more : (adu more : List ℕ) (n place end : ℕ) (o : Option ℕ) → place_after_object adu place ≡ o → ((next : ℕ) → IsKept (after_objects adu n next) (after_objects (adu ++ more) n next)) → after_objects adu (suc n) place ≡ Some end → after_objects (adu ++ more) (suc n) place ≡ Some end
unfolding after_objects
one_more adu more n place end None m later e = cc (rw m at e)
one_more adu more n place end (Some next) s later e = rw (object_again adu more place next s) (later next end (rw s at e))

objects_again : (adu more : List ℕ) (n place : ℕ) → IsKept (after_objects adu n place) (after_objects (adu ++ more) n place)
unfolding after_objects
objects_again adu more zero place end e = e
objects_again adu more (suc n) place end e = one_more adu more n place end (place_after_object adu place) refl (λ next. objects_again adu more n next) e

mapped_again : (o o' : Option ℕ) → IsKept o o' → IsKept (option_map (λ end. end - 1) o) (option_map (λ end. end - 1) o')
mapped_again None o' kept x e = cc
mapped_again (Some end) o' kept x e = rw (kept end refl) e

identified_again : (adu more : List ℕ) → IsKept (identified_len adu) (identified_len (adu ++ more))
unfolding identified_len
identified_again adu more len e = go (slice_get adu 7) refl
  where
    go : (o : Option ℕ) → slice_get adu 7 ≡ o → identified_len (adu ++ more) ≡ Some len
    go None n = cc (rw n at e)
    go (Some count) s = rw (got_again adu more 7 count s) (mapped_again (after_objects adu count 8) (after_objects (adu ++ more) count 8) (objects_again adu more count 8) len (rw s at e))

word_again : (o o' p p' : Option ℕ) → IsKept o o' → IsKept p p' → IsKept (word_len o p) (word_len o' p')
word_again None o' p p' high low x e = cc
word_again (Some h) o' None p' high low x e = cc
word_again (Some h) o' (Some l) p' high low x e = rw (high h refl, low l refl) e

counted_again : (o o' : Option ℕ) → IsKept o o' → IsKept (option_map (λ byte. 2 + byte) o) (option_map (λ byte. 2 + byte) o')
counted_again None o' kept x e = cc
counted_again (Some byte) o' kept x e = rw (kept byte refl) e

told_again : (adu more : List ℕ) (o : Option ℕ) → slice_get adu 2 ≡ o → IsKept (identification_told adu o) (identification_told (adu ++ more) (slice_get (adu ++ more) 2))
told_again adu more None n x e = cc
told_again adu more (Some mei) s x e = rw (got_again adu more 2 mei s) (go (eqb mei 14) refl)
  where
    go : (b : Bool) → eqb mei 14 ≡ b → identification_told (adu ++ more) (Some mei) ≡ Some x
    go true t = rw t (identified_again adu more x (rw t at e))
    go false f = cc (rw f at e)

by_again : (adu more : List ℕ) (r : ResponseRule) → IsKept (len_by adu r) (len_by (adu ++ more) r)
by_again adu more (fixed n) x e = e
by_again adu more counted x e = counted_again (slice_get adu 2) (slice_get (adu ++ more) 2) (got_again adu more 2) x e
by_again adu more counted_word x e = word_again (slice_get adu 2) (slice_get (adu ++ more) 2) (slice_get adu 3) (slice_get (adu ++ more) 3) (got_again adu more 2) (got_again adu more 3) x e
by_again adu more identification x e = told_again adu more (slice_get adu 2) refl x e
by_again adu more unknown x e = cc

-- a length that is told stays told
pub told_on : (adu more : List ℕ) → IsKept (told_len adu) (told_len (adu ++ more))
unfolding told_len
told_on adu more x e = go (slice_get adu 1) refl
  where
    go : (o : Option ℕ) → slice_get adu 1 ≡ o → len_at (adu ++ more) (slice_get (adu ++ more) 1) ≡ Some x
    go None n = cc (rw n at e)
    go (Some code) s = rw (got_again adu more 1 code s) (by_again adu more (line_rule code) x (rw s at e))

-- the length of a told function is that of the rule of responses, but for file records and exceptions
identified_is : (code : ℕ) (adu : List ℕ) (o : Option ℕ) → slice_get adu 2 ≡ o → tells_length identification o ≡ true → response_identified code adu o ≡ Ok (identification_told adu o)
identified_is code adu None s tells = refl
identified_is code adu (Some mei) s tells = rw tells refl

by_is : (code : ℕ) (adu : List ℕ) (r : ResponseRule) → tells_length r (slice_get adu 2) ≡ true → response_head_by code adu r ≡ Ok (len_by adu r)
by_is code adu (fixed n) tells = refl
by_is code adu counted tells = refl
by_is code adu counted_word tells = refl
by_is code adu identification tells = identified_is code adu (slice_get adu 2) refl tells
by_is code adu unknown tells = cc

untold_by : (adu : List ℕ) (r : ResponseRule) → tells_length r (slice_get adu 2) ≡ false → len_by adu r ≡ None
untold_by adu (fixed n) tells = cc
untold_by adu counted tells = cc
untold_by adu counted_word tells = cc
untold_by adu identification tells = go (slice_get adu 2) tells
  where
    go : (o : Option ℕ) → tells_length identification o ≡ false → identification_told adu o ≡ None
    go None f = cc
    go (Some mei) f = rw f refl
untold_by adu unknown tells = refl

pub rule_of_rest : (code : ℕ) → is_file_record code ≡ false → leb 128 code ≡ false → line_rule code ≡ response_rule code
unfolding line_rule
rule_of_rest code file exception = rw (file, exception) refl

-- by the tests of the code
file_is : (code : ℕ) → (code ≡ 20) ⊎ (code ≡ 21) → is_file_record code ≡ true
file_is code (inl e) = rw e refl
file_is code (inr e) = rw e refl

apart_is : (a b : ℕ) → a ≢ b → eqb a b ≡ false
apart_is a b ne = elim (eqb_tells a b) [ inl same ↦ absurd (ne same.1) | inr apart ↦ apart.0 ]

not_file : (code : ℕ) → code ≢ 20 → code ≢ 21 → is_file_record code ≡ false
not_file code a b = rw (apart_is code 20 a, apart_is code 21 b) refl

pub len_of_file : (adu : List ℕ) (code : ℕ) → (code ≡ 20) ⊎ (code ≡ 21) → len_by adu counted ≡ len_by adu (line_rule code)
unfolding line_rule
len_of_file adu code is = rw (file_is code is) refl

pub len_of_exception : (adu : List ℕ) (code : ℕ) → code ≢ 20 → code ≢ 21 → 128 ≤ code → Some 2 ≡ len_by adu (line_rule code)
unfolding line_rule
len_of_exception adu code a b least = rw (not_file code a b, le-leb 128 code least) refl

pub len_of_untold : (adu : List ℕ) (code : ℕ) → tells_length (line_rule code) (slice_get adu 2) ≡ false → None ≡ len_by adu (line_rule code)
len_of_untold adu code tells = sym (untold_by adu (line_rule code) tells)

pub len_of_response : (adu : List ℕ) (code : ℕ) → slice_get adu 1 ≡ Some code → code ≢ 20 → code ≢ 21 → code < 128 → tells_length (line_rule code) (slice_get adu 2) ≡ true
    → response_head adu ≡ Ok (len_by adu (line_rule code))
unfolding response_head
len_of_response adu code at a b less tells =
    let same : line_rule code ≡ response_rule code = rule_of_rest code (not_file code a b) (lt-leb 128 code less) in
    rw (at, same) (by_is code adu (response_rule code) (rw same at tells))

pub untold_is : (adu : List ℕ) (code : ℕ) → slice_get adu 1 ≡ Some code → tells_length (line_rule code) (slice_get adu 2) ≡ false → told_len adu ≡ None
unfolding told_len
untold_is adu code at tells = rw at (untold_by adu (line_rule code) tells)
