-- Reading up to a place, and on from there.
use Rattle.std.proofs.Common.{◌≡◌, ◌⊎◌, inl, inr, ℕ, zero, suc, ◌+◌, ◌-◌, ◌<◌, ◌≤◌, List, [], ◌∷◌, ◌++◌, length, drop, refl, sym, ap, ◌∙◌, subst, arith}
use Rattle.std.specs.Prelude.{Contains}
use Rattle.std.proofs.lemmas.Bool.{lt-ltb, le-ltb}
use Rattle.modbus_rtu.specs.declared.verdict.Verdict.TheVariants.{Bad, Good}
use Rattle.modbus_rtu.specs.declared.search.Next.TheVariants.{Frame, Waiting}
use Rattle.modbus_rtu.specs.Frame.{verdict}
use Rattle.modbus_rtu.specs.Next.{AreBad, IsNext}
use Rattle.modbus_rtu.specs.Place.{IsStop, EndsFrame, IsPlace, frames_below}
use Rattle.modbus_rtu.proofs.Verdicts.{verdict-append, verdict-drop, judged_within, good_within, bad_not_open, good_not_open}
use Rattle.modbus_rtu.proofs.Reading.{Reads, stop_above}
use Rattle.modbus_rtu.proofs.Reading.Reads.{stops, skips, takes}
use Rattle.modbus_rtu.proofs.LeftmostReads.{Rises, from_reads, reads_from_leftmost, front_or_later, none, here, there}
use Rattle.modbus_rtu.specs.Limits.{overhead}

-- the reading goes from i up to a place, over these frames
pub data Passes (bytes : List ℕ) : ℕ → List ℕ → ℕ → Type 0 where
  arrives : {i : ℕ} → Passes bytes i [] i
  drops : {i place : ℕ} {frames : List ℕ} → verdict bytes i ≡ Bad → Passes bytes (i + 1) frames place → Passes bytes i frames place
  delivers : {i place : ℕ} {frames : List ℕ} (n : ℕ) → verdict bytes i ≡ Good n → Passes bytes (i + (n + overhead)) frames place → Passes bytes i (i ∷ frames) place

pub passes_of_reads : {bytes frames : List ℕ} {i stop : ℕ} → Reads bytes i frames stop → Passes bytes i frames stop
passes_of_reads (stops le o) = arrives
passes_of_reads (skips b r) = drops b (passes_of_reads r)
passes_of_reads (takes n g r) = delivers n g (passes_of_reads r)

-- what was passed stays passed when bytes follow
pub Passes-append : {bytes frames : List ℕ} {i place : ℕ} (more : List ℕ) → Passes bytes i frames place → Passes (bytes ++ more) i frames place
Passes-append more arrives = arrives
Passes-append {bytes} {i = i} more (drops b p) = drops (verdict-append bytes more i (bad_not_open b) ∙ b) (Passes-append more p)
Passes-append {bytes} {i = i} more (delivers n g p) = delivers n (verdict-append bytes more i (good_not_open g) ∙ g) (Passes-append more p)

pub passes_on : {bytes frames later : List ℕ} {i place next : ℕ} → Passes bytes i frames place → Passes bytes place later next → Passes bytes i (frames ++ later) next
passes_on arrives q = q
passes_on (drops b p) q = drops b (passes_on p q)
passes_on (delivers n g p) q = delivers n g (passes_on p q)

-- the whole reading begins with what was passed, and goes on from the place
pub rest_of : {bytes frames whole : List ℕ} {i j place stop : ℕ} → Passes bytes i frames place → i ≡ j → Reads bytes j whole stop → (rest : List ℕ) × (whole ≡ frames ++ rest) × Reads bytes place rest stop
rest_of {whole = whole} arrives e r = (whole, refl, rw e r)
rest_of (drops b p) e (stops le o) = cc
rest_of (drops b p) e (skips b' r) = rest_of p (ap (λ k. k + 1) e) r
rest_of (drops b p) e (takes n g r) = cc
rest_of (delivers n g p) e (stops le o) = cc
rest_of (delivers n g p) e (skips b r) = cc
rest_of (delivers n g p) e (takes m g' r) =
    let same : n ≡ m = cc in
    let rest = rest_of p (omega arith) r in
    (rest.0, cc (rest.1), rest.2)

passed_within : {bytes frames : List ℕ} {i place : ℕ} → Passes bytes i frames place → i ≤ length bytes → place ≤ length bytes
passed_within arrives le = le
passed_within {bytes} {i = i} (drops b p) le = let lt = judged_within bytes i (bad_not_open b) in passed_within p (omega arith)
passed_within {bytes} {i = i} (delivers n g p) le = passed_within p (good_within bytes i n g)

pub passes_above : {bytes frames : List ℕ} {i place : ℕ} → Passes bytes i frames place → i ≤ place
passes_above arrives = omega arith
passes_above (drops b p) = let h = passes_above p in omega arith
passes_above (delivers n g p) = let h = passes_above p in omega arith

-- the frames that were passed lie below the place
pub passes_below : {bytes frames : List ℕ} {i place : ℕ} → Passes bytes i frames place → (f : ℕ) → Contains frames f → f < place
passes_below arrives f c = absurd (none f c)
passes_below (drops b p) f c = passes_below p f c
passes_below {i = i} (delivers {frames = frames} n g p) f c = elim (front_or_later i f frames c) [
  | inl e ↦ (let h = passes_above p in omega arith)
  | inr c' ↦ passes_below p f c'
]

pub passes_bad : {bytes : List ℕ} (k i place : ℕ) → place ≡ i + k → ((j : ℕ) → i ≤ j → j < place → verdict bytes j ≡ Bad) → Passes bytes i [] place
passes_bad {bytes} zero i place e bad = let same : i ≡ place = omega arith in subst (λ q. Passes bytes i [] q) same arrives
passes_bad (suc k) i place e bad = drops (bad i (omega arith) (omega arith)) (passes_bad k (i + 1) place (omega arith) (λ j ge lt. bad j (omega arith) lt))

-- up to the end of a frame of the reading
pub passes_to : {bytes frames : List ℕ} {i stop : ℕ} → Reads bytes i frames stop → (f n : ℕ) → Contains frames f → verdict bytes f ≡ Good n → (passed : List ℕ) × Passes bytes i passed (f + (n + overhead))
passes_to (stops le o) f n c good = absurd (none f c)
passes_to (skips b r) f n c good = let rest = passes_to r f n c good in (rest.0, drops b rest.1)
passes_to {bytes} {i = i} (takes {frames = frames} m g r) f n c good = elim (front_or_later i f frames c) [
  | inl e ↦ (let same : m ≡ n = cc in let end : i + (m + overhead) ≡ f + (n + overhead) = omega arith in
      (i ∷ [], delivers m g (subst (λ q. Passes bytes (i + (m + overhead)) [] q) end arrives)))
  | inr c' ↦ (let rest = passes_to r f n c' good in (i ∷ rest.0, delivers m g rest.1))
]

-- the frames of a reading from a place on aren't below it
pub none_below : (place : ℕ) (i : ℕ) (rest : List ℕ) → place ≤ i → Rises i rest → frames_below place rest ≡ []
none_below place i [] le r = refl
none_below place i (f ∷ rest) le r = rw (le-ltb f place (omega (arith, r.0))) (none_below place (f + 1) rest (omega (arith, r.0)) r.1)

frames_below-append : (place : ℕ) (frames rest : List ℕ) → ((f : ℕ) → Contains frames f → f < place) → Rises place rest → frames_below place (frames ++ rest) ≡ frames
frames_below-append place [] rest below r = none_below place place rest (omega arith) r
frames_below-append place (f ∷ frames) rest below r =
    rw (lt-ltb f place (below f (here f frames))) (ap (λ fs. f ∷ fs) (frames_below-append place frames rest (λ g c. below g (there f g frames c)) r))

-- the frames below a place that was reached are those that were passed
pub passed_frames : {bytes passed frames : List ℕ} {place stop : ℕ} → Passes bytes 0 passed place → Reads bytes 0 frames stop → frames_below place frames ≡ passed
passed_frames {bytes} {passed} {frames} {place} p r =
    let rest = rest_of p refl r in
    let from = from_reads bytes rest.2 in
    ap (frames_below place) rest.1 ∙ frames_below-append place passed rest.0 (passes_below p) from.rises

-- A reader's place is reached.
pub place_passed : (old more : List ℕ) (place : ℕ) → IsPlace old (old ++ more) place → (passed : List ℕ) × Passes (old ++ more) 0 passed place
place_passed old more place at = by_case at.at
  where
    now : Reads (old ++ more) 0 at.frames at.stop
    now = reads_from_leftmost (old ++ more) at.reading

    by_case : (place ≡ at.before) ⊎ (EndsFrame (old ++ more) at.frames at.before place ⊎ (place ≡ at.stop)) → (passed : List ℕ) × Passes (old ++ more) 0 passed place
    by_case (inl e) = (at.from.0, rw e (Passes-append more (passes_of_reads (reads_from_leftmost old at.from.1))))
    by_case (inr (inl (f, n, c, ge, good, e))) = rw e (passes_to now f n c good)
    by_case (inr (inr e)) = (at.frames, rw e (passes_of_reads now))

-- the stop only rises
pub stop_rises : (old more : List ℕ) (before stop : ℕ) → IsStop old before → IsStop (old ++ more) stop → before ≤ stop
stop_rises old more before stop first last =
    let rest = rest_of (Passes-append more (passes_of_reads (reads_from_leftmost old first.1))) refl (reads_from_leftmost (old ++ more) last.1) in
    stop_above rest.2

pub before_place : (old more : List ℕ) (place : ℕ) → (at : IsPlace old (old ++ more) place) → at.before ≤ place
before_place old more place at = by_case at.at
  where
    by_case : (place ≡ at.before) ⊎ (EndsFrame (old ++ more) at.frames at.before place ⊎ (place ≡ at.stop)) → at.before ≤ place
    by_case (inl e) = omega arith
    by_case (inr (inl (f, n, c, ge, good, e))) = omega arith
    by_case (inr (inr e)) = omega (arith, stop_rises old more at.before at.stop at.from (at.frames, at.reading))

-- one search, in terms of the whole
pub bad_from : (now : List ℕ) (place n : ℕ) → AreBad (drop place now) n → (j : ℕ) → place ≤ j → j < place + n → verdict now j ≡ Bad
bad_from now place n bad j ge lt =
    let e : place + (j - place) ≡ j = omega arith in
    ap (verdict now) (sym e) ∙ sym (verdict-drop now place (j - place)) ∙ bad (j - place) (omega arith)

pub passes_frame : (now : List ℕ) (place start n : ℕ) → IsNext (drop place now) (Frame start n) → Passes now place ((place + start) ∷ []) (place + start + (n + overhead))
passes_frame now place start n next =
    passes_on (passes_bad start place (place + start) refl (bad_from now place start next.1))
    (delivers n (sym (verdict-drop now place start) ∙ next.2) arrives)

pub passes_waiting : (now : List ℕ) (place dropped : ℕ) → IsNext (drop place now) (Waiting dropped) → Passes now place [] (place + dropped)
passes_waiting now place dropped next = passes_bad dropped place (place + dropped) refl (bad_from now place dropped next.1)
