-- One frame alone, whose first bytes tell its length, is found in whatever pieces it comes.
use Rattle.std.proofs.Common.{◌≡◌, ◌⊎◌, inl, inr, ℕ, suc, ◌+◌, ◌/◌, ◌%◌, ◌<◌, ◌≤◌, List, [], ◌∷◌, ◌++◌, length, take, drop, refl, sym, ap, ◌∙◌, subst, arith, append-nil, length-append, length-take}
use Rattle.std.specs.Prelude.{Contains, slice_index}
use Rattle.std.proofs.lemmas.Bool.{cases_lt}
use Rattle.std.proofs.lemmas.List.{take_all, take_at, take-append-le, take-take, drop_all}
use Rattle.modbus_link.specs.Reads.{AreCuts, last_cut}
use Rattle.modbus_frame.specs.declared.fault.HeaderSeen.{HeaderSeen}
use Rattle.modbus_frame.specs.declared.rtu.Header.{Header}
use Rattle.modbus_pdu.specs.Message.{message}
use Rattle.modbus_rtu.specs.declared.verdict.Verdict.{Verdict}
use Rattle.modbus_rtu.specs.declared.verdict.Verdict.TheVariants.{Open, Bad, Good}
use Rattle.modbus_rtu.specs.Checksum.{crc}
use Rattle.modbus_rtu.specs.Frame.{frame}
use Rattle.modbus_rtu.specs.ResponseHead.{response_verdict, HasResponseHead}
use Rattle.modbus_client.specs.Search.{verdict_when_read, counts_from, ArePassed, reply, crowd, waiting, SearchFinds}
use Rattle.modbus_client.specs.Protocol as found
use Rattle.modbus_client.specs.Protocol.{Found, IsOfMessage}
use Rattle.modbus_client.specs.Rtu.{slave_seen, FindsReplyFrame, FoundFrame}

abbrev pub FramesAreGood : Type 0
FramesAreGood = (slave : ℕ) (pdu more : List ℕ) → HasResponseHead (message slave pdu) → response_verdict (frame slave pdu ++ more) ≡ Good (length pdu)

abbrev pub FrontsAreOpen : Type 0
FrontsAreOpen = (slave : ℕ) (pdu : List ℕ) (k : ℕ) → HasResponseHead (message slave pdu) → k < length pdu + 3 → response_verdict (take k (frame slave pdu)) ≡ Open

pub length-frame : (slave : ℕ) (pdu : List ℕ) → length (frame slave pdu) ≡ length pdu + 3
unfolding frame
length-frame slave pdu = omega (arith, length-append (slave ∷ pdu) (crc (slave ∷ pdu) % 256 ∷ crc (slave ∷ pdu) / 256 ∷ []))

frame_parts : (slave : ℕ) (pdu : List ℕ) → (slice_index (frame slave pdu) 0 ≡ slave) × (take (length pdu) (drop 1 (frame slave pdu)) ≡ pdu)
unfolding frame
frame_parts slave pdu = (refl, take_at pdu (crc (slave ∷ pdu) % 256 ∷ crc (slave ∷ pdu) / 256 ∷ []) (length pdu) refl)

-- these bytes begin the frame of a response whose first bytes tell its length
module _ (frame_good : FramesAreGood) (front_open : FrontsAreOpen) (slave : ℕ) (pdu bytes rest cuts : List ℕ) (has : HasResponseHead (message slave pdu)) (joined : frame slave pdu ≡ bytes ++ rest) where
  front : (cut : ℕ) → take cut bytes ≡ take (length (take cut bytes)) (frame slave pdu)
  front cut =
      let k = length (take cut bytes) in
      let le : k ≤ length bytes = omega (arith, length-take cut bytes) in
      let le' : k ≤ cut = omega (arith, length-take cut bytes) in
      let one : take k (frame slave pdu) ≡ take k bytes = ap (take k) joined ∙ take-append-le k bytes rest le in
      let two : take k (take cut bytes) ≡ take k bytes = take-take k cut bytes le' in
      sym (take_all k (take cut bytes) (omega arith)) ∙ two ∙ sym one

  -- its first offset is open, until the whole frame is there
  at_front : (cut : ℕ) → (verdict_when_read bytes 0 cut ≡ Open) ⊎ ((take cut bytes ≡ frame slave pdu) × (verdict_when_read bytes 0 cut ≡ Good (length pdu)))
  at_front cut = elim (cases_lt (length (take cut bytes)) (length pdu + 3)) [
    | inl lt ↦ inl (ap response_verdict (front cut) ∙ front_open slave pdu (length (take cut bytes)) has lt)
    | inr ge ↦ (
        let same : take cut bytes ≡ frame slave pdu = front cut ∙ take_all (length (take cut bytes)) (frame slave pdu) (omega (arith, ge, length-frame slave pdu)) in
        inr (same, ap response_verdict (same ∙ sym (append-nil (frame slave pdu))) ∙ frame_good slave pdu [] has))
  ]

  never_bad : (cut : ℕ) → verdict_when_read bytes 0 cut ≡ Bad → ⊥
  never_bad cut bad = elim (at_front cut) [
    | inl open' ↦ clash_open bad open'
    | inr (same, good) ↦ clash_good bad good
  ]
    where
      clash_open : {v : Verdict} → v ≡ Bad → v ≡ Open → ⊥
      clash_open b o = cc

      clash_good : {v : Verdict} {n : ℕ} → v ≡ Bad → v ≡ Good n → ⊥
      clash_good b g = cc

  none_passed : (looks : List ℕ) → ArePassed bytes cuts looks → length looks ≡ 0
  none_passed [] passed = refl
  none_passed (look ∷ looks) passed = absurd (never_bad look (passed.bad 0 (omega arith)))

  pub no_crowd : (offset : ℕ) → SearchFinds bytes cuts (crowd offset) → ⊥
  no_crowd offset (looks, passed, (e, cut, l, bad, first, is, share)) = omega (arith, none_passed looks passed, e, is)

  same_len : {v : Verdict} {n m : ℕ} → v ≡ Good n → v ≡ Good m → n ≡ m
  same_len g h = cc

  open_good : {P : Type 0} {v : Verdict} {n : ℕ} → v ≡ Open → v ≡ Good n → P
  open_good o g = cc

  pub whole_reply : (offset n : ℕ) → SearchFinds bytes cuts (reply offset n) → (offset ≡ 0) × (n ≡ length pdu) × (bytes ≡ frame slave pdu)
  whole_reply offset n (looks, passed, (e, cut, l, good)) =
      let first : offset ≡ 0 = e ∙ none_passed looks passed in
      let good' : verdict_when_read bytes 0 cut ≡ Good n = subst (λ k. verdict_when_read bytes k cut ≡ Good n) first good in
      elim (at_front cut) [
        | inl open' ↦ open_good open' good'
        | inr (same, is) ↦ (first, same_len good' is, all_of cut same)
      ]
    where
      all_of : (cut : ℕ) → take cut bytes ≡ frame slave pdu → bytes ≡ frame slave pdu
      all_of cut same = sym (take_all cut bytes (omega (arith, ap length same, length-take cut bytes, ap length joined, length-append bytes rest))) ∙ same

  last_in : (total : ℕ) (cuts : List ℕ) → 0 < length cuts → Contains cuts (last_cut total cuts)
  last_in total [] lt = absurd (omega (arith, lt))
  last_in total (c ∷ []) lt = (0, omega arith, refl)
  last_in total (c ∷ d ∷ more) lt = let later = last_in c (d ∷ more) (omega arith) in (suc later.0, omega (arith, later.1), later.2)

  -- a search that waits has not seen the whole of it
  pub not_whole : AreCuts bytes cuts → (offset : ℕ) → SearchFinds bytes cuts (waiting offset) → bytes ≡ frame slave pdu → ⊥
  not_whole are offset (looks, passed, (e, waits)) whole = by_cuts cuts refl
    where
      some : 0 < length bytes
      some = omega (arith, ap length whole, length-frame slave pdu)

      by_cuts : (c : List ℕ) → cuts ≡ c → ⊥
      by_cuts [] none = omega (arith, some, are.all, ap (last_cut 0) none)
      by_cuts (first ∷ more) is =
          let offset_is : offset ≡ 0 = e ∙ none_passed looks passed in
          let within : Contains cuts (length bytes) = subst (λ n. Contains cuts n) are.all (last_in 0 cuts (omega (arith, ap length is))) in
          let counts : counts_from looks offset ≤ length bytes = subst (λ k. counts_from looks k ≤ length bytes) (sym offset_is) (omega arith) in
          let open' : verdict_when_read bytes 0 (length bytes) ≡ Open = subst (λ k. verdict_when_read bytes k (length bytes) ≡ Open) offset_is (waits (length bytes) within counts) in
          elim (at_front (length bytes)) [
            | inl o ↦ absurd (omega (arith, some, short o))
            | inr (same, good) ↦ open_good open' good
          ]
        where
          short : verdict_when_read bytes 0 (length bytes) ≡ Open → length bytes ≡ 0
          short o =
              let all : take (length bytes) bytes ≡ bytes = take_all (length bytes) bytes (omega arith) in
              open_good o (ap response_verdict (all ∙ whole ∙ sym (append-nil (frame slave pdu))) ∙ frame_good slave pdu [] has)

  pub reply_is : (held : List ℕ) (header : HeaderSeen) (found : List ℕ) → FoundFrame bytes cuts held header found → (rest ≡ []) × (held ≡ []) × (header ≡ slave_seen slave) × (found ≡ pdu)
  reply_is held header found r =
      let is = whole_reply r.offset r.pdu_len r.finds in
      let parts = frame_parts slave pdu in
      let at : slice_index bytes r.offset ≡ slave = ap (slice_index bytes) is.0 ∙ ap (λ b. slice_index b 0) is.2 ∙ parts.0 in
      let next : r.offset + 1 ≡ 1 = omega (arith, is.0) in
      let none : length rest ≡ 0 = omega (arith, ap length joined, ap length is.2, length-append bytes rest) in
      let whole : length bytes ≤ r.offset + (r.pdu_len + 3) = omega (arith, is.0, is.1, ap length is.2, length-frame slave pdu) in (
        no_length rest none,
        r.holds ∙ drop_all (r.offset + (r.pdu_len + 3)) bytes whole,
        r.from ∙ ap slave_seen at,
        r.is ∙ ap (λ n. take n (drop (r.offset + 1) bytes)) is.1 ∙ ap (λ k. take (length pdu) (drop k bytes)) next ∙ ap (λ b. take (length pdu) (drop 1 b)) is.2 ∙ parts.1,
      )
    where
      no_length : (xs : List ℕ) → length xs ≡ 0 → xs ≡ []
      no_length [] e = refl
      no_length (x ∷ xs) e = absurd (omega (arith, e))

-- how the search stands in a front of it
pub frame_alone : FramesAreGood → FrontsAreOpen → (header : Header) (pdu bytes rest cuts : List ℕ) (found : Found) → HasResponseHead (message header.slave_id pdu) → frame header.slave_id pdu ≡ bytes ++ rest
    → FindsReplyFrame bytes cuts found → IsOfMessage (slave_seen header.slave_id) pdu rest found
frame_alone good open' header pdu bytes rest cuts (found.waiting held) has joined finds =
    λ none. not_whole good open' header.slave_id pdu bytes rest cuts has joined finds.are_cuts finds.place finds.finds (sym (joined ∙ ap (λ r. bytes ++ r) none ∙ append-nil bytes))
frame_alone good open' header pdu bytes rest cuts (found.reply held seen' pdu') has joined finds = reply_is good open' header.slave_id pdu bytes rest cuts has joined held seen' pdu' finds
frame_alone good open' header pdu bytes rest cuts (found.broken held fault) has joined finds = no_crowd good open' header.slave_id pdu bytes rest cuts has joined finds.offset finds.finds
