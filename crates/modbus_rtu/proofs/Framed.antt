-- Frames one after another are read as they are.
use Rattle.std.proofs.Common.{◌≡◌, inl, inr, ℕ, zero, suc, ◌+◌, ◌-◌, ◌*◌, ◌/◌, ◌%◌, ◌≤◌, List, [], ◌∷◌, ◌++◌, map, length, take, drop, get_or, Some, Ok, refl, sym, ap, ◌∙◌, subst, arith, length-append, append_assoc}
use Rattle.std.specs.List.{AllByRecursion}
use Rattle.std.specs.Prelude.{Contains}
use Rattle.std.proofs.lemmas.Bool.{cases_lt}
use Rattle.std.proofs.lemmas.List.{take_at, drop_at, drop_all, drop-drop, get_or-drop, get_or-append_right}
use Rattle.modbus_pdu.specs.SlavePdu.{SlavePdu}
use Rattle.modbus_pdu.specs.Message.{message}
use Rattle.modbus_rtu.specs.declared.verdict.Verdict.{Verdict}
use Rattle.modbus_rtu.specs.declared.verdict.Verdict.TheVariants.{Open, Bad, Good}
use Rattle.modbus_rtu.specs.Checksum.{crc}
use Rattle.modbus_rtu.specs.Frame.{frame, head, verdict, verdict_of}
use Rattle.modbus_rtu.specs.Leftmost.{IsUncovered}
use Rattle.modbus_rtu.specs.Quiet.{IsQuietLine}
use Rattle.modbus_rtu.specs.Stands.{frame_at}
use Rattle.modbus_rtu.specs.WholeReading.{HasHead, stream_of, IsWholeReading}
use Rattle.modbus_rtu.proofs.Verdicts.{head-append, verdict-drop, verdict_of-nil}
use Rattle.modbus_rtu.proofs.Judging.{judged_good}
use Rattle.modbus_rtu.proofs.Reading.{Reads, reads-shift}
use Rattle.modbus_rtu.proofs.Reading.Reads.{stops, takes}
use Rattle.modbus_rtu.proofs.LeftmostReads.{leftmost_from_reads}
use Rattle.modbus_rtu.specs.Limits.{overhead}

pub frame_append : (slave : ℕ) (pdu rest : List ℕ) → frame slave pdu ++ rest ≡ (slave ∷ pdu) ++ (crc (slave ∷ pdu) % 256 ∷ crc (slave ∷ pdu) / 256 ∷ rest)
unfolding frame
frame_append slave pdu rest = append_assoc (slave ∷ pdu) (crc (slave ∷ pdu) % 256 ∷ crc (slave ∷ pdu) / 256 ∷ []) rest

pub length-frame : (slave : ℕ) (pdu : List ℕ) → length (frame slave pdu) ≡ length pdu + overhead
unfolding frame
length-frame slave pdu = omega (arith, length-append (slave ∷ pdu) (crc (slave ∷ pdu) % 256 ∷ crc (slave ∷ pdu) / 256 ∷ []))

-- what begins with a frame is good
good_front : (slave low high : ℕ) (pdu rest : List ℕ) → HasHead (message slave pdu) → crc (slave ∷ pdu) ≡ low + 256 * high →
    verdict_of ((slave ∷ pdu) ++ (low ∷ high ∷ rest)) ≡ Good (length pdu)
unfolding verdict_of
good_front slave low high pdu rest has sum =
    let body = slave ∷ pdu in
    let n = length pdu in
    let adu = body ++ (low ∷ high ∷ rest) in
    let size : length body ≡ n + 1 = omega arith in
    let is : head adu ≡ Ok (Some n) = head-append body (low ∷ high ∷ rest) (λ o. cc (o, has)) ∙ has in
    let none : n + 1 - (n + 1) ≡ 0 = omega arith in
    let one : n + 2 - (n + 1) ≡ 1 = omega arith in
    let first : get_or adu (n + 1) 0 ≡ low = get_or-append_right body (low ∷ high ∷ rest) (n + 1) (n + 1) 0 size (omega arith) ∙ rw none refl in
    let second : get_or adu (n + 2) 0 ≡ high = get_or-append_right body (low ∷ high ∷ rest) (n + 1) (n + 2) 0 size (omega arith) ∙ rw one refl in
    let taken : take (n + 1) adu ≡ body = take_at body (low ∷ high ∷ rest) (n + 1) size in
    sym (judged_good adu (head adu) n (sym is) (omega (arith, length-append body (low ∷ high ∷ rest))) (ap crc taken ∙ sum ∙ omega (arith, first, second)))

front_of : (slave : ℕ) (pdu rest : List ℕ) → verdict ((slave ∷ pdu) ++ rest) 0 ≡ Good (length pdu) → frame_at ((slave ∷ pdu) ++ rest) 0 ≡ message slave pdu
front_of slave pdu rest good = rw (good, take_at pdu rest (length pdu) refl) refl

-- an offset in what follows a front
frame_at_later : (bytes : List ℕ) (start f : ℕ) → frame_at bytes (start + f) ≡ frame_at (drop start bytes) f
frame_at_later bytes start f =
    let e : start + (f + 1) ≡ start + f + 1 = omega arith in
    rw (verdict-drop bytes start f, get_or-drop start bytes f 0, drop-drop (f + 1) start bytes, e) refl

frames_later : (bytes : List ℕ) (start : ℕ) (frames : List ℕ) → map (frame_at bytes) (map (λ f. start + f) frames) ≡ map (frame_at (drop start bytes)) frames
frames_later bytes start [] = refl
frames_later bytes start (f ∷ frames) = let one = frame_at_later bytes start f in let rest = frames_later bytes start frames in cc

-- no offset is of no use: none is bad and lies outside of these frames
abbrev AreAllUsed : List ℕ → List ℕ → Type 0
AreAllUsed bytes frames = (i : ℕ) → verdict bytes i ≡ Bad → IsUncovered bytes frames i → ⊥

abbrev ReadsAll : List ℕ → List SlavePdu → Type 0
ReadsAll bytes messages = (frames : List ℕ) × Reads bytes 0 frames (length bytes) × (map (frame_at bytes) frames ≡ messages) × AreAllUsed bytes frames

contains_shifted : (start : ℕ) (frames : List ℕ) (f : ℕ) → Contains frames f → Contains (map (λ g. start + g) frames) (start + f)
contains_shifted start [] f (k, below, is) = absurd (omega (arith, below))
contains_shifted start (g ∷ frames) f (zero, below, is) = (0, omega arith, ap (λ n. start + n) is)
contains_shifted start (g ∷ frames) f (suc k, below, is) =
    let later = contains_shifted start frames f (k, omega (arith, below), is) in
    (suc later.0, omega (arith, later.1), later.2)

module _ (bytes rest frames : List ℕ) (n : ℕ) (good : verdict bytes 0 ≡ Good n) (left : drop (n + overhead) bytes ≡ rest) (used : AreAllUsed rest frames) where
  abbrev all : List ℕ
  all = 0 ∷ map (λ f. n + overhead + f) frames

  later_same : (j : ℕ) → verdict bytes (n + overhead + j) ≡ verdict rest j
  later_same j = sym (verdict-drop bytes (n + overhead) j) ∙ ap (λ b. verdict b j) left

  later_used : (j : ℕ) → verdict bytes (n + overhead + j) ≡ Bad → IsUncovered bytes all (n + overhead + j) → ⊥
  later_used j bad free = used j (sym (later_same j) ∙ bad) (λ f within (m, here, above, inside).
      let later = contains_shifted (n + overhead) frames f within in
      free (n + overhead + f) (suc later.0, omega (arith, later.1), later.2) (m, later_same f ∙ here, omega (arith, above), omega (arith, inside)))

  used_by : (i : ℕ) → verdict bytes i ≡ Bad → IsUncovered bytes all i → ⊥
  used_by zero bad free = good_bad good bad
    where
      good_bad : {v : Verdict} {m : ℕ} → v ≡ Good m → v ≡ Bad → ⊥
      good_bad g b = cc
  used_by (suc i) bad free = elim (cases_lt (suc i) (n + overhead)) [
    | inl inside ↦ free 0 (0, omega arith, refl) (n, good, omega arith, omega (arith, inside))
    | inr past ↦ (let e : suc i ≡ n + overhead + (suc i - (n + overhead)) = omega (arith, past) in
        later_used (suc i - (n + overhead)) (subst (λ k. verdict bytes k ≡ Bad) e bad) (subst (λ k. IsUncovered bytes all k) e free))
  ]

one_more : (slave : ℕ) (pdu rest : List ℕ) (messages : List SlavePdu) → HasHead (message slave pdu) → ReadsAll rest messages → ReadsAll (frame slave pdu ++ rest) (message slave pdu ∷ messages)
one_more slave pdu rest messages has (frames, reads, are, used) =
    let n = length pdu in
    let bytes = frame slave pdu ++ rest in
    let sum = crc (slave ∷ pdu) in
    let size = length-frame slave pdu in
    let total : length bytes ≡ length (frame slave pdu) + length rest = length-append (frame slave pdu) rest in
    let left : drop (n + overhead) bytes ≡ rest = drop_at (frame slave pdu) rest (n + overhead) size in
    let good : verdict bytes 0 ≡ Good n = ap verdict_of (frame_append slave pdu rest) ∙ good_front slave (sum % 256) (sum / 256) pdu rest has (omega arith) in
    let inside : n + overhead ≤ length bytes = omega arith in
    let end : n + overhead + length rest ≡ length bytes = omega arith in
    let reads' : Reads (drop (n + overhead) bytes) 0 frames (length rest) = rw left reads in
    let moved = reads-shift bytes (n + overhead) inside reads' (0 + (n + overhead)) (omega arith) in
    let front : frame_at bytes 0 ≡ message slave pdu = rw (frame_append slave pdu rest) (front_of slave pdu _ (good_front slave (sum % 256) (sum / 256) pdu rest has (omega arith))) in
    let later : map (frame_at bytes) (map (λ f. n + overhead + f) frames) ≡ messages = frames_later bytes (n + overhead) frames ∙ ap (λ xs. map (frame_at xs) frames) left ∙ are in (
      0 ∷ map (λ f. n + overhead + f) frames,
      subst (λ s. Reads bytes 0 (0 ∷ map (λ f. n + overhead + f) frames) s) end (takes n good moved),
      cc (front, later),
      used_by bytes rest frames n good left used,
    )

all_read : (messages : List SlavePdu) → AllByRecursion HasHead messages → ReadsAll (stream_of messages) messages
all_read [] has = ([], stops (omega arith) verdict_of-nil, refl, λ i bad free. open_bad (ap verdict_of (drop_all i [] (omega arith)) ∙ verdict_of-nil) bad)
  where
    open_bad : {v : Verdict} → v ≡ Open → v ≡ Bad → ⊥
    open_bad o b = cc
all_read (message ∷ messages) has = one_more message.header message.pdu (stream_of messages) messages has.0 (all_read messages has.1)

-- Frames one after another, each of the length that its head says, are the leftmost frames, and the stop is the end.
pub stream_read : (messages : List SlavePdu) → AllByRecursion HasHead messages → IsWholeReading (stream_of messages) messages
stream_read messages has = let r = all_read messages has in (r.0, leftmost_from_reads (stream_of messages) r.1, sym r.2)

-- So they are a quiet line.
pub stream_quiet : (messages : List SlavePdu) → AllByRecursion HasHead messages → IsQuietLine (stream_of messages) messages
stream_quiet messages has =
    let r = all_read messages has in record {
      frames = r.0;
      reading = leftmost_from_reads (stream_of messages) r.1;
      few = λ k all. (let first = all k (omega arith) (omega arith) in r.3 k first.0 first.1);
      are = sym r.2;
    }
