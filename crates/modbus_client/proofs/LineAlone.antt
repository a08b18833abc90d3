-- One frame alone on a serial line, whose first bytes tell its length, is found in whatever pieces it comes.
use Rattle.std.proofs.Common.{◌≡◌, ◌≢◌, ℕ, ◌+◌, ◌-◌, ◌*◌, ◌/◌, ◌%◌, ◌<◌, ◌≤◌, Bool, true, false, ltb, List, [], ◌∷◌, ◌++◌, length, take, drop, get_or, Option, Some, None, Ok, refl, sym, ap, ◌∙◌, subst, arith, append-nil, length-append, eq-eqb}
use Rattle.std.specs.Prelude.{slice_index}
use Rattle.std.proofs.lemmas.Bool.{ltb-false, le-ltb, lt-ltb}
use Rattle.std.proofs.lemmas.List.{take_all, take_at, drop_all, get_or-append_right}
use Rattle.modbus_rtu.specs.declared.verdict.Verdict.{Verdict}
use Rattle.modbus_rtu.specs.declared.verdict.Verdict.TheVariants.{Open, Good}
use Rattle.modbus_rtu.specs.Checksum.{crc}
use Rattle.modbus_rtu.specs.Frame.{frame, verdict_by}
use Rattle.modbus_rtu.specs.Limits.{overhead}
use Rattle.modbus_client.specs.Protocol.{Found, waiting, reply, IsOfMessage}
use Rattle.modbus_client.specs.Rtu.{slave_seen}
use Rattle.modbus_client.specs.LineReading.{bounded, told_len, line_head, line_verdict, HasLineHead, LineRead, read_from}
use Rattle.modbus_client.proofs.LineLength.{told_on}
use Rattle.modbus_client.proofs.LineReads.{reads_open, reads_own}

-- the length that is told where a head has it
told_of : (code count n : ℕ) (o : Option ℕ) → bounded code count o ≡ Ok (Some n) → (o ≡ Some n) × (n ≤ 253)
told_of code count n None e = go (ltb 256 count) refl
  where
    go : (b : Bool) → ltb 256 count ≡ b → (None ≡ Some n) × (n ≤ 253)
    go true t = cc (rw t at e)
    go false f = cc (rw f at e)
told_of code count n (Some m) e = go (ltb 253 m) refl
  where
    go : (b : Bool) → ltb 253 m ≡ b → (Some m ≡ Some n) × (n ≤ 253)
    go true t = cc (rw t at e)
    go false f =
        let same : m ≡ n = cc (rw f at e) in
        let most : m ≤ 253 = ltb-false 253 m f in
        (ap Some same, omega (arith, same, most))

bounded_some : (code count n : ℕ) → n ≤ 253 → bounded code count (Some n) ≡ Ok (Some n)
bounded_some code count n most = rw (le-ltb 253 n most) refl

bounded_none : (code count : ℕ) → count ≤ 256 → bounded code count None ≡ Ok None
bounded_none code count few = rw (le-ltb 256 count few) refl

-- few bytes that tell no length wait for more
pub waits_none : (adu : List ℕ) → length adu ≤ 256 → told_len adu ≡ None → line_verdict adu ≡ Open
unfolding line_verdict line_head
waits_none adu few none =
    ap (λ o. verdict_by adu (bounded (slice_index adu 1) (length adu) o)) (ap told_len (take_all 256 adu few) ∙ none) ∙ rw (bounded_none (slice_index adu 1) (length adu) few) refl

module _ (slave : ℕ) (pdu : List ℕ) (has : HasLineHead slave pdu) where
  abbrev pub sum : ℕ
  sum = crc (slave ∷ pdu)

  abbrev pub whole : List ℕ
  whole = (slave ∷ pdu) ++ (sum % 256 ∷ sum / 256 ∷ [])

  pub is_whole : frame slave pdu ≡ whole
  unfolding frame
  is_whole = refl

  told_short : (told_len (take 256 (slave ∷ pdu)) ≡ Some (length pdu)) × (length pdu ≤ 253)
  unfolding line_head
  told_short = told_of (slice_index (slave ∷ pdu) 1) (length (slave ∷ pdu)) (length pdu) (told_len (take 256 (slave ∷ pdu))) has

  most : length pdu ≤ 253
  most = told_short.1

  size : length whole ≡ length pdu + overhead
  size = omega (arith, length-append (slave ∷ pdu) (sum % 256 ∷ sum / 256 ∷ []))

  pub told_whole : told_len whole ≡ Some (length pdu)
  told_whole =
      let all : take 256 (slave ∷ pdu) ≡ slave ∷ pdu = take_all 256 (slave ∷ pdu) (omega (arith, most)) in
      told_on (slave ∷ pdu) (sum % 256 ∷ sum / 256 ∷ []) (length pdu) (sym (ap told_len all) ∙ told_short.0)

  head_is : line_head whole ≡ Ok (Some (length pdu))
  unfolding line_head
  head_is =
      let all : take 256 whole ≡ whole = take_all 256 whole (omega (arith, most, size)) in
      ap (bounded (slice_index whole 1) (length whole)) (ap told_len all ∙ told_whole) ∙ bounded_some (slice_index whole 1) (length whole) (length pdu) most

  checked : crc (take (length pdu + 1) whole) ≡ get_or whole (length pdu + 1) 0 + 256 * get_or whole (length pdu + 2) 0
  checked =
      let n = length pdu in
      let body = slave ∷ pdu in
      let sums = sum % 256 ∷ sum / 256 ∷ [] in
      let long : length body ≡ n + 1 = omega arith in
      let none : n + 1 - (n + 1) ≡ 0 = omega arith in
      let one : n + 2 - (n + 1) ≡ 1 = omega arith in
      let first : get_or whole (n + 1) 0 ≡ sum % 256 = get_or-append_right body sums (n + 1) (n + 1) 0 long (omega arith) ∙ rw none refl in
      let second : get_or whole (n + 2) 0 ≡ sum / 256 = get_or-append_right body sums (n + 1) (n + 2) 0 long (omega arith) ∙ rw one refl in
      let taken : take (n + 1) whole ≡ body = take_at body sums (n + 1) long in
      ap crc taken ∙ omega (arith, first, second)

  pub whole_good : line_verdict whole ≡ Good (length pdu)
  unfolding line_verdict
  whole_good = ap (verdict_by whole) head_is ∙ rw (le-ltb (length whole) (length pdu + overhead) (omega (arith, size)), eq-eqb _ _ checked) refl

  module _ (bytes rest : List ℕ) (joined : whole ≡ bytes ++ rest) (some : rest ≢ []) where
    short : length bytes < length pdu + overhead
    short = omega (arith, size, ap length joined, length-append bytes rest, at_least rest some)
      where
        at_least : (rest : List ℕ) → rest ≢ [] → 0 < length rest
        at_least [] ne = absurd (ne refl)
        at_least (x ∷ xs) ne = omega arith

    all : take 256 bytes ≡ bytes
    all = take_all 256 bytes (omega (arith, short, most))

    open_by : (o : Option ℕ) → told_len bytes ≡ o → verdict_by bytes (bounded (slice_index bytes 1) (length bytes) o) ≡ Open
    open_by None is = rw (bounded_none (slice_index bytes 1) (length bytes) (omega (arith, short, most))) refl
    open_by (Some m) is =
        let later : told_len whole ≡ Some m = ap told_len joined ∙ told_on bytes rest m is in
        let same : m ≡ length pdu = cc (later, told_whole) in
        rw (bounded_some (slice_index bytes 1) (length bytes) m (omega (arith, same, most)), lt-ltb (length bytes) (m + overhead) (omega (arith, same, short))) refl

    pub front_open : line_verdict bytes ≡ Open
    unfolding line_verdict line_head
    front_open = ap (λ o. verdict_by bytes (bounded (slice_index bytes 1) (length bytes) o)) (ap told_len all) ∙ open_by (told_len bytes) refl

  found_waiting : (bytes rest : List ℕ) (found : Found) → found ≡ waiting bytes → rest ≢ [] → IsOfMessage (slave_seen slave) pdu rest found
  found_waiting bytes rest found is some = subst (IsOfMessage (slave_seen slave) pdu rest) (sym is) some

  found_whole : (found : Found) → found ≡ reply [] (slave_seen slave) pdu → IsOfMessage (slave_seen slave) pdu [] found
  found_whole found is = subst (IsOfMessage (slave_seen slave) pdu []) (sym is) (refl, refl, refl, refl)

  -- by a judge to whom it is good, and each front of it open
  module _ (judge : List ℕ → Verdict) (good : judge whole ≡ Good (length pdu)) (waits : (bytes rest : List ℕ) → whole ≡ bytes ++ rest → rest ≢ [] → judge bytes ≡ Open) where
    pub alone_by : (bytes rest : List ℕ) (found : Found) → frame slave pdu ≡ bytes ++ rest → found ≡ (read_from judge slave 0 bytes).found → IsOfMessage (slave_seen slave) pdu rest found
    alone_by bytes [] found joined is =
        let same : bytes ≡ whole = sym (append-nil bytes) ∙ sym joined ∙ is_whole in
        let n = length pdu in
        let read = reads_own judge slave whole n good (omega (arith, size)) refl in
        let none : drop (n + overhead) whole ≡ [] = drop_all (n + overhead) whole (omega (arith, size)) in
        let own : take n (drop 1 whole) ≡ pdu = take_at pdu (sum % 256 ∷ sum / 256 ∷ []) n refl in
        found_whole found (is ∙ ap (λ b. (read_from judge slave 0 b).found) same ∙ ap (λ (r : LineRead). r.found) read
        ∙ ap (λ h. reply h (slave_seen slave) (take n (drop 1 whole))) none ∙ ap (λ p. reply [] (slave_seen slave) p) own)
    alone_by bytes (byte ∷ rest) found joined is =
        let some : byte ∷ rest ≢ [] = λ e. absurd cc in
        let open' = waits bytes (byte ∷ rest) (sym is_whole ∙ joined) some in
        found_waiting bytes (byte ∷ rest) found (is ∙ ap (λ (r : LineRead). r.found) (reads_open judge slave bytes open')) some

  pub line_alone : (bytes rest : List ℕ) (found : Found) → frame slave pdu ≡ bytes ++ rest → found ≡ (read_from line_verdict slave 0 bytes).found → IsOfMessage (slave_seen slave) pdu rest found
  line_alone = alone_by line_verdict whole_good front_open
