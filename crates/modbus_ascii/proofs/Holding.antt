-- What held bytes stand for, as frames are taken off, bytes of no use are dropped, and others are read.
use Rattle.std.proofs.Common.{◌≡◌, ℕ, zero, suc, ◌+◌, ◌-◌, ◌<◌, ◌≤◌, ◌==◌, nat_lt, Bool, true, false, not, ◌&&◌, if◌then◌else◌, ◌⊎◌, inl, inr, List, [], ◌∷◌, ◌++◌, length, take, drop, slice_index, refl, sym, ap, ◌∙◌, subst, arith, length-append, length-drop, append-nil, append_assoc}
use Rattle.std.proofs.lemmas.Bool.{cases_lt, eqb-true}
use Rattle.std.proofs.lemmas.List.{take-append-drop, take-append-le}
use Rattle.std.proofs.Math.Seq.{drop-append-add, take-add}
use Rattle.modbus_pdu.specs.SlavePdu.{SlavePdu}
use Rattle.modbus_ascii.specs.Limits.{colon, max_frame, most_open}
use Rattle.modbus_ascii.specs.Text.{is_open, open_end}
use Rattle.modbus_ascii.specs.Frames.{frames_delivered, frames}
use Rattle.modbus_ascii.specs.Stands.{kept_of, held_open, after_last_end, whole, StandsFor, IsNextFrame, AreAllFrames, IsStillOpen}
use Rattle.modbus_ascii.proofs.Ends.{open-quiet, no-colon, delivered-none}
use Rattle.modbus_ascii.proofs.Going.{Like, length-kept, short-kept, going, frames-front, frames-closed}

-- ---- what is open

-- the open end is the last of the bytes
pub open_end-last : (bytes : List ℕ) → (front : List ℕ) × (bytes ≡ front ++ open_end bytes)
unfolding open_end
open_end-last [] = ([], refl)
open_end-last (x ∷ xs) = by_test (x == colon && is_open xs) (open_end-last xs)
  where
    by_test : (c : Bool) → ((front : List ℕ) × (xs ≡ front ++ open_end xs)) → (front : List ℕ) × (x ∷ xs ≡ front ++ (if c then x ∷ xs else open_end xs))
    by_test true rest = ([], refl)
    by_test false (front, e) = (x ∷ front, ap (λ y. x ∷ y) e)

-- it is nothing, or a `:` and a text that is open
abbrev pub OpenKind : List ℕ → Type 0
OpenKind now = (now ≡ []) ⊎ ((text : List ℕ) × (now ≡ colon ∷ text) × (is_open text ≡ true))

pub open_end-kind : (bytes : List ℕ) → OpenKind (open_end bytes)
unfolding open_end
open_end-kind [] = inl refl
open_end-kind (x ∷ xs) = by_test (x == colon) (is_open xs) (eqb-true x colon) refl (open_end-kind xs)
  where
    by_test : (c o : Bool) → (c ≡ true → x ≡ colon) → o ≡ is_open xs → OpenKind (open_end xs) → OpenKind (if c && o then x ∷ xs else open_end xs)
    by_test true true h e rest = inr (xs, ap (λ (y : ℕ). y ∷ xs) (h refl), sym e)
    by_test true false h e rest = rest
    by_test false o h e rest = rest

pub open_end-colon : (text : List ℕ) → is_open text ≡ true → open_end (colon ∷ text) ≡ colon ∷ text
unfolding open_end
open_end-colon text h = rw h refl

-- a text that is open is open from each character on
pub open-drop : (k : ℕ) (text : List ℕ) → is_open text ≡ true → is_open (drop k text) ≡ true
open-drop zero text h = h
open-drop (suc k) [] h = h
open-drop (suc k) (x ∷ text) h = open-drop k text (no-colon x text h).1

-- bytes that are all open deliver nothing
pub all-open-quiet : (bytes : List ℕ) → open_end bytes ≡ bytes → frames bytes ≡ []
unfolding frames
all-open-quiet bytes e = by_kind (open_end-kind bytes)
  where
    by_kind : OpenKind (open_end bytes) → frames bytes ≡ []
    by_kind (inl none) = ap frames (sym e ∙ none)
    by_kind (inr (text, is, h)) =
        let same : frames bytes ≡ frames (colon ∷ text) = ap frames (sym e ∙ is) in
        let quiet : frames_delivered text ++ frames text ≡ [] = rw (delivered-none text h, open-quiet text h) refl in
        same ∙ quiet

-- a front of bytes that deliver nothing delivers nothing
pub front-quiet : (front more : List ℕ) → frames (front ++ more) ≡ [] → frames front ≡ []
front-quiet front more e = by_parts (frames front) (frames-front front more)
  where
    by_parts : (f : List SlavePdu) → ((later : List SlavePdu) × (frames (front ++ more) ≡ f ++ later)) → f ≡ []
    by_parts [] l = refl
    by_parts (x ∷ f) (later, is) = cc

-- ---- what is held of it

-- the last bytes of a list, by how many they are
last-of : (front back : List ℕ) (n : ℕ) → n ≤ length back → drop (length (front ++ back) - n) (front ++ back) ≡ drop (length back - n) back
last-of front back n h =
    let count : length (front ++ back) - n ≡ length front + (length back - n) = omega (arith, length-append front back) in
    rw count (drop-append-add front back (length back - n))

-- whether what is held begins within a text that is too long
abbrev pub Opening : List ℕ → Type 0
Opening held =
    ((after_last_end held ≡ []) × ((length held ≤ max_frame) ⊎ (slice_index held 0 ≡ colon)))
    ⊎ ((after_last_end held ≡ colon ∷ []) × (max_frame < length held) × ((slice_index held 0 == colon) ≡ false))

pub opening-kind : (held : List ℕ) → Opening held
opening-kind held = by_tests (nat_lt max_frame (length held)) (slice_index held 0 == colon) above below (eqb-true (slice_index held 0) colon) (λ e. e)
  where
    above : nat_lt max_frame (length held) ≡ true → max_frame < length held
    above h = grind arith

    below : nat_lt max_frame (length held) ≡ false → length held ≤ max_frame
    below h = grind arith

    by_tests : (long first : Bool) → (long ≡ true → max_frame < length held) → (long ≡ false → length held ≤ max_frame) → (first ≡ true → slice_index held 0 ≡ colon)
        → ((slice_index held 0 == colon) ≡ first → (slice_index held 0 == colon) ≡ first)
        → (((if long && not first then colon ∷ [] else []) ≡ []) × ((length held ≤ max_frame) ⊎ (slice_index held 0 ≡ colon)))
        ⊎ (((if long && not first then colon ∷ [] else []) ≡ colon ∷ []) × (max_frame < length held) × (first ≡ false))
    by_tests true true a b f g = inl (refl, inr (f refl))
    by_tests true false a b f g = inr (refl, a refl, refl)
    by_tests false first a b f g = inl (refl, inl (b refl))

length-whole : (held : List ℕ) → length (whole held) ≡ length (after_last_end held) + length held
length-whole held = length-append (after_last_end held) held

-- what is held of the open end lies in what is held
pub open-within : (held : List ℕ) → length (held_open (whole held)) ≤ length held
open-within held =
    let back = open_end-last (whole held) in
    let size : length (whole held) ≡ length back.0 + length (open_end (whole held)) = ap length back.1 ∙ length-append back.0 (open_end (whole held)) in
    by_kind (length back.0) (opening-kind held) size (length-kept (open_end (whole held)))
  where
    by_kind : (n : ℕ) → Opening held → length (whole held) ≡ n + length (open_end (whole held))
        → length (held_open (whole held)) ≡ length (open_end (whole held)) - (length (open_end (whole held)) - most_open)
        → length (held_open (whole held)) ≤ length held
    by_kind n (inl (none, rest)) size kept = omega (arith, length-whole held, ap length none)
    by_kind n (inr (one, long, first)) size kept = omega (arith, length-whole held, ap length one)

-- these are the last bytes of it
pub held-last : (held : List ℕ) → drop (length held - length (held_open (whole held))) held ≡ held_open (whole held)
held-last held =
    let now = open_end (whole held) in
    let n = length (held_open (whole held)) in
    let back = open_end-last (whole held) in
    let small : n ≤ length now = omega (arith, length-kept now) in
    let first : drop (length (whole held) - n) (whole held) ≡ drop (length held - n) held = last-of (after_last_end held) held n (open-within held) in
    let second : drop (length (back.0 ++ now) - n) (back.0 ++ now) ≡ drop (length now - n) now = last-of back.0 now n small in
    let moved : drop (length (whole held) - n) (whole held) ≡ drop (length (back.0 ++ now) - n) (back.0 ++ now) = ap (λ w. drop (length w - n) w) back.1 in
    let count : length now - n ≡ length now - most_open = omega (arith, length-kept now) in
    sym first ∙ moved ∙ second ∙ ap (λ k. drop k now) count

-- ---- what stays of a `:` that is open

pub record Stays (now left : List ℕ) : Type 0 where
  pub still : IsStillOpen left
  pub like : Like (open_end (whole left)) now

-- the open end itself, where it is no longer than is held
stays-short : (now : List ℕ) → OpenKind now → length now ≤ most_open → Stays now now
unfolding open_end
stays-short now (inl none) short = rw none (record { still = (refl, omega arith); like = refl })
stays-short now (inr (text, is, h)) short =
    let open_ : open_end (colon ∷ text) ≡ colon ∷ text = open_end-colon text h in
    let no_opening : after_last_end (colon ∷ text) ≡ [] = never (nat_lt max_frame (length (colon ∷ text))) in
    let small : length (colon ∷ text) ≤ most_open = rw is at short in
    rw is (record { still = (rw no_opening open_, small); like = rw (no_opening, open_) refl })
  where
    never : (c : Bool) → (if c && false then colon ∷ [] else []) ≡ []
    never true = refl
    never false = refl

-- the last bytes of one that is longer
stays-long : (now : List ℕ) → OpenKind now → most_open < length now → Stays now (kept_of now)
stays-long now (inl none) long = absurd (omega (arith, ap length none))
stays-long now (inr (text, is, h)) long = by_count (length now - most_open - 1) (omega arith)
  where
    begins : (left : List ℕ) → is_open left ≡ true → length left ≡ most_open → after_last_end left ≡ colon ∷ []
    begins [] h size = absurd (omega (arith, size))
    begins (x ∷ left) h size =
        let other = (no-colon x left h).0 in
        let above : nat_lt max_frame (length (x ∷ left)) ≡ true = rw size refl in
        rw (above, other) refl

    stays : (left : List ℕ) → kept_of now ≡ left → is_open left ≡ true → length left ≡ most_open → after_last_end left ≡ colon ∷ [] → Stays now (kept_of now)
    stays left same open_ many begun =
        let all : open_end (colon ∷ left) ≡ colon ∷ left = open_end-colon left open_ in
        let one : length (colon ∷ left) - most_open ≡ 1 = omega arith in
        let kept : kept_of (colon ∷ left) ≡ left = ap (λ k. drop k (colon ∷ left)) one in
        rw same (record { still = (rw begun all, omega arith); like = rw (begun, all) (kept ∙ sym same) })

    by_count : (j : ℕ) → length now - most_open ≡ suc j → Stays now (kept_of now)
    by_count j count =
        let size : length now ≡ suc (length text) = ap length is in
        let same : kept_of now ≡ drop j text = ap (λ k. drop k now) count ∙ ap (λ n. drop (suc j) n) is in
        let many : length (drop j text) ≡ most_open = omega (arith, length-drop j text) in
        let open_ = open-drop j text h in
        stays (drop j text) same open_ many (begins (drop j text) open_ many)

stays : (now : List ℕ) → OpenKind now → Stays now (kept_of now)
stays now kind =
    elim (cases_lt most_open (length now)) [
      | inl long ↦ stays-long now kind long
      | inr short ↦ let P : List ℕ → Type 0 = λ left. Stays now left in subst P (sym (short-kept now short)) (stays-short now kind short)
    ]

-- what is left of held bytes where all that is of no use is dropped
pub left-stays : (held : List ℕ) → Stays (open_end (whole held)) (drop (length held - length (held_open (whole held))) held)
left-stays held =
    let P : List ℕ → Type 0 = λ left. Stays (open_end (whole held)) left in
    subst P (sym (held-last held)) (stays (open_end (whole held)) (open_end-kind (whole held)))

-- a front of what is held, and what stands for the bytes before, delivers nothing where all is open
pub still-quiet : (held : List ℕ) → IsStillOpen held → frames (whole held) ≡ []
still-quiet held still = all-open-quiet (whole held) still.0

whole-parts : (held : List ℕ) (k : ℕ) → whole held ≡ (after_last_end held ++ take k held) ++ drop k held
whole-parts held k = sym (append_assoc (after_last_end held) (take k held) (drop k held) ∙ ap (λ h. after_last_end held ++ h) (take-append-drop k held))

pub take-quiet : (held : List ℕ) (k : ℕ) → frames (whole held) ≡ [] → frames (after_last_end held ++ take k held) ≡ []
take-quiet held k e = front-quiet (after_last_end held ++ take k held) (drop k held) (sym (ap frames (whole-parts held k)) ∙ e)

-- ---- frames are taken off, bytes of no use are dropped, others are read

pub stands-opening : StandsFor [] [] [] []
unfolding frames open_end
stands-opening = record { next = refl; now = refl; late = refl }

-- where nothing is delivered, the bytes of no use are dropped
pub stands-waiting : (bytes cuts held : List ℕ) (taken : List SlavePdu) → StandsFor bytes cuts held taken → frames (whole held) ≡ []
    → (left : List ℕ) → left ≡ drop (length held - length (held_open (whole held))) held
    → StandsFor bytes cuts left taken × AreAllFrames bytes cuts left taken
stands-waiting bytes cuts held taken s quiet left is =
    let P : List ℕ → Type 0 = λ l. Stays (open_end (whole held)) l in
    let st = subst P (sym is) (left-stays held) in
    let none = still-quiet left st.still in
    let all : frames bytes ≡ taken = s.next ∙ ap (λ f. taken ++ f) quiet ∙ append-nil taken in
    let stood : StandsFor bytes cuts left taken = record {
      next = s.next ∙ ap (λ f. taken ++ f) (quiet ∙ sym none);
      now = s.now ∙ sym st.like;
      late = take-quiet left (length left - max_frame) none;
    } in
    (stood, (sym all, is ∙ held-last held ∙ sym s.now))

some-frame : (x : SlavePdu) (l : List SlavePdu) → x ∷ l ≡ [] → ⊥
some-frame x l e = cc

-- a frame that ends late enough leaves no more than a read gives
pub late-frame : (held : List ℕ) (k : ℕ) (frame : SlavePdu) → frames (after_last_end held ++ take (length held - max_frame) held) ≡ []
    → frames (after_last_end held ++ take k held) ≡ frame ∷ [] → k ≤ length held → length (drop k held) ≤ max_frame
late-frame held k frame late one within =
    elim (cases_lt k (length held - max_frame)) [
      | inl early ↦
          let j = length held - max_frame in
          let count : j ≡ k + (j - k) = omega arith in
          let parts : take j held ≡ take k held ++ take (j - k) (drop k held) = ap (λ n. take n held) count ∙ take-add k (j - k) held in
          let quiet : frames ((after_last_end held ++ take k held) ++ take (j - k) (drop k held)) ≡ [] =
          ap frames (append_assoc (after_last_end held) (take k held) (take (j - k) (drop k held)) ∙ ap (λ h. after_last_end held ++ h) (sym parts)) ∙ late in
          absurd (some-frame frame [] (sym one ∙ front-quiet (after_last_end held ++ take k held) (take (j - k) (drop k held)) quiet))
      | inr enough ↦ omega (arith, length-drop k held)
    ]

-- bytes that are no more than a read gives begin outside of a text that is too long
opening-short : (held : List ℕ) → length held ≤ max_frame → after_last_end held ≡ []
opening-short held short = by_kind (opening-kind held)
  where
    by_kind : Opening held → after_last_end held ≡ []
    by_kind (inl (none, rest)) = none
    by_kind (inr (one, long, first)) = absurd (omega (arith, long, short))

-- a frame is taken off with all bytes before it
pub stands-frame : (bytes cuts held : List ℕ) (taken : List SlavePdu) (k : ℕ) (frame : SlavePdu) → StandsFor bytes cuts held taken → k ≤ length held
    → frames (after_last_end held ++ take k held) ≡ frame ∷ [] → open_end (after_last_end held ++ take k held) ≡ []
    → StandsFor bytes cuts (drop k held) (taken ++ frame ∷ []) × IsNextFrame bytes cuts taken frame
unfolding frames
stands-frame bytes cuts held taken k frame s within one closed =
    let rest = drop k held in
    let short : length rest ≤ max_frame = late-frame held k frame s.late one within in
    let none : after_last_end rest ≡ [] = opening-short rest short in
    let split = frames-closed (after_last_end held ++ take k held) rest closed in
    let parts = whole-parts held k in
    let delivers : frames (whole held) ≡ (frame ∷ []) ++ frames rest = ap frames parts ∙ split.0 ∙ ap (λ f. f ++ frames rest) one in
    let more : frames bytes ≡ (taken ++ frame ∷ []) ++ frames rest = s.next ∙ ap (λ f. taken ++ f) delivers ∙ sym (append_assoc taken (frame ∷ []) (frames rest)) in
    let zero_ : length rest - max_frame ≡ 0 = omega arith in
    let stood : StandsFor bytes cuts rest (taken ++ frame ∷ []) = record {
      next = more ∙ ap (λ o. (taken ++ frame ∷ []) ++ frames (o ++ rest)) (sym none);
      now = s.now ∙ ap held_open parts ∙ split.1 ∙ ap (λ o. held_open (o ++ rest)) (sym none);
      late = rw (none, zero_) refl;
    } in
    (stood, (frames rest, more))

clash : (x : ℕ) → (x == colon) ≡ false → x ≡ colon → ⊥
clash x other first = cc (other, ap (λ y. y == colon) first)

-- what is read behind bytes that are all open doesn't change where they begin
pub opening-more : (held piece : List ℕ) → IsStillOpen held → length piece ≤ max_frame → after_last_end (held ++ piece) ≡ after_last_end held
opening-more [] piece still few = opening-short piece few
opening-more (x ∷ held) piece still few = by_kind (opening-kind (x ∷ held)) (opening-kind (x ∷ (held ++ piece))) (open_end-kind (whole (x ∷ held)))
  where
    by_kind : Opening (x ∷ held) → Opening (x ∷ (held ++ piece)) → OpenKind (open_end (whole (x ∷ held))) → after_last_end (x ∷ (held ++ piece)) ≡ after_last_end (x ∷ held)
    by_kind (inl (none, a)) (inl (nothing, b)) kind = nothing ∙ sym none
    by_kind (inr (one, long, a)) (inr (begun, longer, b)) kind = begun ∙ sym one
    by_kind (inr (one, long, a)) (inl (nothing, inr first)) kind = absurd (clash x a first)
    by_kind (inr (one, long, a)) (inl (nothing, inl short)) kind = absurd (omega (arith, long, short, length-append held piece))
    by_kind (inl (none, a)) (inr (begun, longer, other)) (inl nothing) =
        absurd (omega (arith, ap length (sym still.0 ∙ nothing), length-whole (x ∷ held)))
    by_kind (inl (none, a)) (inr (begun, longer, other)) (inr (text, is, h)) =
        let same : x ∷ held ≡ colon ∷ text = sym (ap (λ o. o ++ (x ∷ held)) none) ∙ sym still.0 ∙ is in
        let first : x ≡ colon = cc same in
        absurd (clash x other first)

-- a read appends
pub stands-read : (bytes cuts cuts' held piece : List ℕ) (taken : List SlavePdu) → StandsFor bytes cuts held taken → IsStillOpen held → length piece ≤ max_frame
    → StandsFor (bytes ++ piece) cuts' (held ++ piece) taken
stands-read bytes cuts cuts' held piece taken s still few =
    let same = opening-more held piece still few in
    let more : whole (held ++ piece) ≡ whole held ++ piece = ap (λ o. o ++ (held ++ piece)) same ∙ sym (append_assoc (after_last_end held) held piece) in
    let quiet = still-quiet held still in
    let g = going piece bytes (whole held) s.now in
    let before : frames bytes ≡ taken = s.next ∙ ap (λ f. taken ++ f) quiet ∙ append-nil taken in
    let within : length (held ++ piece) - max_frame ≤ length held = omega (arith, length-append held piece) in
    record {
      next = g.1 ∙ ap (λ f. f ++ g.0) before ∙ ap (λ f. taken ++ f) (sym (ap frames more ∙ g.2 ∙ ap (λ f. f ++ g.0) quiet));
      now = g.3 ∙ sym (ap held_open more);
      late = rw (same, take-append-le (length (held ++ piece) - max_frame) held piece within) (take-quiet held (length (held ++ piece) - max_frame) quiet);
    }
