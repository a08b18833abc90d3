-- What a connection's bytes hold, and how far its decoder is, as bytes come and go.
use Rattle.std.proofs.Common.{◌≡◌, ℕ, zero, suc, ◌-◌, ◌<◌, ◌≤◌, ◌==◌, nat_lt, Bool, true, false, not, ◌&&◌, if◌then◌else◌, inl, inr, List, [], ◌∷◌, ◌++◌, length, take, drop, slice_index, refl, sym, ap, ◌∙◌, subst, arith, length-append, length-drop, append-nil, append_assoc}
use Rattle.std.proofs.lemmas.List.{take-append-le}
use Rattle.std.proofs.Math.Seq.{take-length}
use Rattle.modbus_pdu.specs.SlavePdu.{SlavePdu}
use Rattle.modbus_pdu.specs.Message.{message}
use Rattle.modbus_ascii.specs.declared.scan.Scan.{Scan}
use Rattle.modbus_ascii.specs.Limits.{colon, max_frame, most_open, most_held}
use Rattle.modbus_ascii.specs.Text.{open_end}
use Rattle.modbus_ascii.specs.Frames.{frames, slave_and_pdu}
use Rattle.modbus_ascii.specs.Decoder.{Reading, IsRoomy, KeepsBytes, DecodesText, ended}
use Rattle.modbus_ascii.specs.Stands.{held_open, after_last_end, whole, StandsFor, IsNextFrame, AreAllFrames, AreOnlyFrames, IsStillOpen}
use Rattle.modbus_ascii.specs.Scan.{HasSeen, Scans}
use Rattle.circular_buffer.specs.Buffer.{Buffer, buffer, keep_last}
use Rattle.modbus_ascii.proofs.Going.{frames-front}
use Rattle.modbus_ascii.proofs.Holding.{Opening, opening-kind, left-stays, still-quiet, stands-frame, stands-waiting, opening-more}
use Rattle.modbus_ascii.proofs.Scanning.{colon-quiet, nothing-quiet, decodes-like}

-- all held bytes were fed
pub fed-all : (held : List ℕ) (scan : Scan) → Scans held scan → scan.fed ≡ length held → HasSeen (whole held) scan
fed-all held scan s all =
    let same : take scan.fed held ≡ held = ap (λ n. take n held) all ∙ take-length held in
    let P : List ℕ → Type 0 = λ h. HasSeen (after_last_end held ++ h) scan in
    subst P same s.1

opening-quiet : (held : List ℕ) → frames (after_last_end held) ≡ []
opening-quiet held = by_kind (opening-kind held)
  where
    by_kind : Opening held → frames (after_last_end held) ≡ []
    by_kind (inl (none, rest)) = ap frames none ∙ nothing-quiet
    by_kind (inr (one, long, first)) = ap frames one ∙ colon-quiet

-- ---- what stands at the front

found-frame : (seen : List ℕ) (scan : Scan) → HasSeen seen scan → scan.found ≡ true → frames seen ≡ slave_and_pdu scan.decoder.bytes ∷ []
found-frame seen scan s is = s.found ∙ ap (λ f. ended f scan.decoder) is

found-none : (seen : List ℕ) (scan : Scan) → HasSeen seen scan → scan.found ≡ false → frames seen ≡ []
found-none seen scan s is = s.found ∙ ap (λ f. ended f scan.decoder) is

pub front-frame : (bytes cuts held : List ℕ) (taken : List SlavePdu) (scan : Scan) (slave : ℕ) (pdu : List ℕ) → Scans held scan → scan.found ≡ true
    → slave ≡ (slave_and_pdu scan.decoder.bytes).header → pdu ≡ (slave_and_pdu scan.decoder.bytes).pdu → StandsFor bytes cuts held taken
    → StandsFor bytes cuts (drop scan.fed held) (taken ++ message slave pdu ∷ []) × IsNextFrame bytes cuts taken (message slave pdu)
front-frame bytes cuts held taken scan slave pdu s is a b stood =
    let seen = after_last_end held ++ take scan.fed held in
    let P : ℕ → Type 0 = λ n. StandsFor bytes cuts (drop scan.fed held) (taken ++ message n pdu ∷ []) × IsNextFrame bytes cuts taken (message n pdu) in
    let Q : List ℕ → Type 0 = λ l. StandsFor bytes cuts (drop scan.fed held) (taken ++ message (slave_and_pdu scan.decoder.bytes).header l ∷ []) × IsNextFrame bytes cuts taken (message (slave_and_pdu scan.decoder.bytes).header l) in
    subst P (sym a) (subst Q (sym b) (stands-frame bytes cuts held taken scan.fed (slave_and_pdu scan.decoder.bytes) stood s.0 (found-frame seen scan s.1 is) (s.1.closed is)))

pub front-some : (held : List ℕ) (scan : Scan) → Scans held scan → scan.found ≡ true → 0 < scan.fed
front-some held scan s is = by_fed scan.fed (found-frame (after_last_end held ++ take scan.fed held) scan s.1 is)
  where
    by_fed : (k : ℕ) → frames (after_last_end held ++ take k held) ≡ slave_and_pdu scan.decoder.bytes ∷ [] → 0 < k
    by_fed zero e =
        let none : frames (after_last_end held ++ []) ≡ [] = ap frames (append-nil (after_last_end held)) ∙ opening-quiet held in
        absurd (omega (arith, ap length (sym e ∙ none)))
    by_fed (suc k) e = omega arith

-- where there is no frame, all but what is open is dropped
left-of : (held : List ℕ) (scan : Scan) → HasSeen (whole held) scan → (dropped : ℕ) → dropped ≡ length held - scan.«open»
    → drop dropped held ≡ drop (length held - length (held_open (whole held))) held
left-of held scan s dropped is = ap (λ n. drop n held) (is ∙ ap (λ n. length held - n) s.«open»)

pub front-waiting : (bytes cuts held : List ℕ) (taken : List SlavePdu) (scan : Scan) (dropped : ℕ) → Scans held scan → scan.found ≡ false → scan.fed ≡ length held
    → dropped ≡ length held - scan.«open» → StandsFor bytes cuts held taken
    → StandsFor bytes cuts (drop dropped held) taken × AreAllFrames bytes cuts (drop dropped held) taken
front-waiting bytes cuts held taken scan dropped s none all is stood =
    let seen = fed-all held scan s all in
    stands-waiting bytes cuts held taken stood (found-none (whole held) scan seen none) (drop dropped held) (left-of held scan seen dropped is)

pub front-left : (held : List ℕ) (scan : Scan) (dropped : ℕ) → Scans held scan → scan.fed ≡ length held → dropped ≡ length held - scan.«open»
    → IsStillOpen (drop dropped held)
front-left held scan dropped s all is =
    let P : List ℕ → Type 0 = λ left. IsStillOpen left in
    subst P (sym (left-of held scan (fed-all held scan s all) dropped is)) (left-stays held).still

-- ---- the decoder goes on

-- it begins anew
pub scan-begin : (held : List ℕ) (within : Bool) (scan : Scan) → within ≡ (nat_lt max_frame (length held) && not (slice_index held 0 == colon))
    → HasSeen (if within then colon ∷ [] else []) scan → scan.fed ≡ 0 → Scans held scan
scan-begin held within scan is s none =
    let P : List ℕ → Type 0 = λ l. HasSeen l scan in
    let begun : HasSeen (after_last_end held) scan = subst P (ap (λ w. if w then colon ∷ [] else []) is) s in
    let nothing : after_last_end held ++ take scan.fed held ≡ after_last_end held = ap (λ n. after_last_end held ++ take n held) none ∙ append-nil (after_last_end held) in
    (omega (arith, none), subst P (sym nothing) begun)

-- behind a frame that was taken off
pub scan-behind : (seen left : List ℕ) (within : Bool) (scan now : Scan) → HasSeen seen scan → scan.found ≡ true → within ≡ (nat_lt max_frame (length left) && not (slice_index left 0 == colon))
    → within ≡ false → now.decoder ≡ scan.decoder → now.«open» ≡ scan.«open» → now.fed ≡ 0 → now.found ≡ false → Scans left now
unfolding open_end
scan-behind seen left within scan now s is test out decoder count fed found =
    let closed = s.closed is in
    let empty : open_end seen ≡ open_end [] = closed ∙ sym nothing-end in
    let P : List ℕ → Type 0 = λ l. KeepsBytes scan.decoder l in
    let Q : Reading → Type 0 = λ r. DecodesText [] r in
    let reads : DecodesText [] now.decoder = subst Q (sym decoder) (subst P empty s.decodes) in
    let zero_ : now.«open» ≡ length (held_open []) = count ∙ s.«open» ∙ ap (λ l. length (drop (length l - most_open) l)) empty in
    let begun : HasSeen [] now = record {
      decodes = reads;
      «open» = zero_;
      found = nothing-quiet ∙ sym (ap (λ f. ended f now.decoder) found);
      closed = λ e. absurd (false-true (sym found ∙ e));
    } in
    let no_opening : [] ≡ after_last_end left = sym (ap (λ w. if w then colon ∷ [] else []) (sym test ∙ out)) in
    let R : List ℕ → Type 0 = λ l. HasSeen l now in
    let nothing : after_last_end left ++ take now.fed left ≡ after_last_end left = ap (λ n. after_last_end left ++ take n left) fed ∙ append-nil (after_last_end left) in
    (omega (arith, fed), subst R (no_opening ∙ sym nothing) begun)
  where
    nothing-end : open_end [] ≡ []
    nothing-end = refl

    false-true : false ≡ true → ⊥
    false-true e = cc

-- behind bytes of no use that were dropped
pub scan-left : (held : List ℕ) (scan now : Scan) (left : ℕ) → Scans held scan → IsRoomy scan.decoder → scan.fed ≡ length held → left ≡ scan.«open» → left ≤ length held
    → now.decoder ≡ scan.decoder → now.«open» ≡ scan.«open» → now.fed ≡ left → now.found ≡ false
    → Scans (drop (length held - left) held) now × (now.fed ≡ length (drop (length held - left) held))
scan-left held scan now left s room all is within decoder count fed found =
    let seen = fed-all held scan s all in
    let rest = drop (length held - left) held in
    let same : rest ≡ drop (length held - length (held_open (whole held))) held = ap (λ n. drop (length held - n) held) (is ∙ seen.«open») in
    let st = left-stays held in
    let P : List ℕ → Type 0 = λ l. DecodesText (whole l) now.decoder in
    let Q : Reading → Type 0 = λ r. DecodesText (whole (drop (length held - length (held_open (whole held))) held)) r in
    let reads : DecodesText (whole rest) now.decoder =
    subst P (sym same) (subst Q (sym decoder) (decodes-like (whole held) (whole (drop (length held - length (held_open (whole held))) held)) scan.decoder room (sym st.like) seen.decodes)) in
    let size : length rest ≡ left = omega (arith, length-drop (length held - left) held) in
    let many : now.«open» ≡ length (held_open (whole rest)) =
    count ∙ seen.«open» ∙ sym (ap length st.like) ∙ ap (λ l. length (held_open (whole l))) (sym same) in
    let R : List ℕ → Type 0 = λ l. IsStillOpen l in
    let quiet : frames (whole rest) ≡ [] = still-quiet rest (subst R (sym same) st.still) in
    let has : HasSeen (whole rest) now = record {
      decodes = reads;
      «open» = many;
      found = quiet ∙ sym (ap (λ f. ended f now.decoder) found);
      closed = λ e. absurd (false-true (sym found ∙ e));
    } in
    let whole_ : take now.fed rest ≡ rest = ap (λ n. take n rest) (fed ∙ sym size) ∙ take-length rest in
    let T : List ℕ → Type 0 = λ l. HasSeen (after_last_end rest ++ l) now in
    ((omega (arith, fed, size), subst T (sym whole_) has), fed ∙ sym size)
  where
    false-true : false ≡ true → ⊥
    false-true e = cc

-- in front of bytes that were read
pub scan-read : (held piece : List ℕ) (scan : Scan) → Scans held scan → IsStillOpen held → length piece ≤ max_frame → Scans (held ++ piece) scan
scan-read held piece scan s still few =
    let same : after_last_end held ++ take scan.fed held ≡ after_last_end (held ++ piece) ++ take scan.fed (held ++ piece) =
    ap (λ o. o ++ take scan.fed held) (sym (opening-more held piece still few)) ∙ ap (λ t. after_last_end (held ++ piece) ++ t) (sym (take-append-le scan.fed held piece s.0)) in
    let P : List ℕ → Type 0 = λ l. HasSeen l scan in
    (omega (arith, s.0, length-append held piece), subst P same s.1)

-- ---- the bytes of a clean line

-- what bytes deliver goes on as they do
pub next-frame : (read rest cuts : List ℕ) (messages before : List SlavePdu) (message : SlavePdu) → AreOnlyFrames (read ++ rest) messages → IsNextFrame read cuts before message
    → (later : List SlavePdu) × (messages ≡ (before ++ message ∷ []) ++ later)
next-frame read rest cuts messages before message clean (others, is) =
    let more = frames-front read rest in
    (others ++ more.0, clean.0 ∙ more.1 ∙ ap (λ f. f ++ more.0) is ∙ append_assoc (before ++ message ∷ []) others more.0)

-- a ring that has room for bytes keeps all of them
pub keep-fits : (capacity : ℕ) (xs : List ℕ) → length xs ≤ capacity → keep_last capacity xs ≡ xs
keep-fits capacity xs fits = let none : length xs - capacity ≡ 0 = omega arith in ap (λ k. drop k xs) none

pub grown : (new : Buffer ℕ) (capacity : ℕ) (items piece now : List ℕ) → new ≡ buffer (keep_last capacity (items ++ piece)) capacity → capacity ≡ most_held → items ≡ now
    → length items ≤ most_held → length piece ≤ most_held - length now → new.items ≡ items ++ piece
grown new capacity items piece now e room same within fits =
    ap (λ (ring : Buffer ℕ). ring.items) e ∙ keep-fits capacity (items ++ piece) (omega (arith, length-append items piece, ap length same, room, within, fits))
