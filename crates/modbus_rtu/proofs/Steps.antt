-- What one search does to a reader's place.
use Rattle.std.proofs.Common.{◌≡◌, ◌⊎◌, inl, inr, ℕ, ◌+◌, ◌-◌, ◌<◌, ◌≤◌, List, [], ◌∷◌, ◌++◌, drop, refl, sym, ap, ◌∙◌, subst, arith, append-nil}
use Rattle.std.specs.Prelude.{Contains}
use Rattle.std.proofs.lemmas.Bool.{cases_lt}
use Rattle.std.proofs.lemmas.List.Elements.{Contains-append_left, Contains-append_right, Contains-append_cases}
use Rattle.modbus_rtu.specs.declared.verdict.Verdict.TheVariants.{Open, Good}
use Rattle.modbus_rtu.specs.declared.search.Next.{Next}
use Rattle.modbus_rtu.proofs.OneNext.{some_answer}
use Rattle.modbus_rtu.specs.declared.search.Next.TheVariants.{Frame, Waiting, TooManyRetries}
use Rattle.modbus_rtu.specs.Frame.{verdict, verdict_of}
use Rattle.modbus_rtu.specs.Leftmost.{IsLeftmost}
use Rattle.modbus_rtu.specs.Next.{IsNext}
use Rattle.modbus_rtu.specs.Place.{IsStop, IsCrowd, EndsFrame, IsPlace, frames_below}
use Rattle.modbus_rtu.proofs.Verdicts.{verdict-drop}
use Rattle.modbus_rtu.proofs.Reading.{Reads, reads_same, stop_within, stop_above}
use Rattle.modbus_rtu.proofs.Reading.Reads.{stops}
use Rattle.modbus_rtu.proofs.LeftmostReads.{Rises-above, from_reads, reads_from_leftmost, front_or_later, none, here}
use Rattle.modbus_rtu.proofs.Places.{Passes, passes_on, passes_above, passes_bad, rest_of, passed_frames, place_passed, before_place, bad_from, passes_frame, passes_waiting}
use Rattle.modbus_rtu.proofs.Places.Passes.{arrives, drops, delivers}
use Rattle.modbus_rtu.specs.Limits.{overhead, max_retries}

-- a frame that was passed ends at or below the place
passes_ends : {bytes frames : List ℕ} {i place : ℕ} → Passes bytes i frames place → (f n : ℕ) → Contains frames f → verdict bytes f ≡ Good n → f + (n + overhead) ≤ place
passes_ends arrives f n c good = absurd (none f c)
passes_ends (drops b p) f n c good = passes_ends p f n c good
passes_ends {i = i} (delivers {frames = frames} m g p) f n c good = elim (front_or_later i f frames c) [
  | inl e ↦ (let same : m ≡ n = cc in let h = passes_above p in omega arith)
  | inr c' ↦ passes_ends p f n c' good
]

module _ (old more : List ℕ) (place : ℕ) (at : IsPlace old (old ++ more) place) where
  reading : Reads (old ++ more) 0 at.frames at.stop
  reading = reads_from_leftmost (old ++ more) at.reading

  -- one more frame
  to_frame : (start n : ℕ) → IsNext (drop place (old ++ more)) (Frame start n) → Passes (old ++ more) 0 ((place_passed old more place at).0 ++ (place + start) ∷ []) (place + start + (n + overhead))
  to_frame start n next = passes_on (place_passed old more place at).1 (passes_frame (old ++ more) place start n next)

  to_waiting : (dropped : ℕ) → IsNext (drop place (old ++ more)) (Waiting dropped) → Passes (old ++ more) 0 ((place_passed old more place at).0 ++ []) (place + dropped)
  to_waiting dropped next = passes_on (place_passed old more place at).1 (passes_waiting (old ++ more) place dropped next)

  good_at : (start n : ℕ) → IsNext (drop place (old ++ more)) (Frame start n) → verdict (old ++ more) (place + start) ≡ Good n
  good_at start n next = sym (verdict-drop (old ++ more) place start) ∙ next.2

  -- it is one of the frames of the reading
  delivered_at : (start n : ℕ) → IsNext (drop place (old ++ more)) (Frame start n) → Contains at.frames (place + start)
  delivered_at start n next =
      let rest = rest_of (to_frame start n next) refl reading in
      let passed = (place_passed old more place at).0 in
      rw rest.1 (Contains-append_left (passed ++ (place + start) ∷ []) rest.0 (place + start)
      (Contains-append_right passed ((place + start) ∷ []) (place + start) (here (place + start) [])))

  pub place_frame : (start n : ℕ) → IsNext (drop place (old ++ more)) (Frame start n) → IsPlace old (old ++ more) (place + start + (n + overhead))
  place_frame start n next =
      let ge = before_place old more place at in
      record {
        before = at.before;
        frames = at.frames;
        stop = at.stop;
        from = at.from;
        reading = at.reading;
        at = inr (inl (place + start, n, delivered_at start n next, omega arith, good_at start n next, refl));
      }

  pub frames_frame : (start n : ℕ) → IsNext (drop place (old ++ more)) (Frame start n) → (frames : List ℕ) (stop : ℕ) → IsLeftmost (old ++ more) frames stop → frames_below (place + start + (n + overhead)) frames ≡ frames_below place frames ++ (place + start) ∷ []
  frames_frame start n next frames stop l =
      let r = reads_from_leftmost (old ++ more) l in
      passed_frames (to_frame start n next) r
      ∙ sym (ap (λ fs. fs ++ (place + start) ∷ []) (passed_frames (place_passed old more place at).1 r))

  -- the frames before it are those before the place
  pub frames_before : (start n : ℕ) → IsNext (drop place (old ++ more)) (Frame start n) → (frames : List ℕ) (stop : ℕ) → IsLeftmost (old ++ more) frames stop → frames_below (place + start) frames ≡ frames_below place frames
  frames_before start n next frames stop l =
      let r = reads_from_leftmost (old ++ more) l in
      let passed = place_passed old more place at in
      passed_frames (passes_on passed.1 (passes_bad start place (place + start) refl (bad_from (old ++ more) place start next.1))) r ∙ (simp append-nil) ∙ sym (passed_frames passed.1 r)

  pub frames_contain : (start n : ℕ) → IsNext (drop place (old ++ more)) (Frame start n) → (frames : List ℕ) (stop : ℕ) → IsLeftmost (old ++ more) frames stop → Contains frames (place + start)
  frames_contain start n next frames stop l =
      let rest = rest_of (to_frame start n next) refl (reads_from_leftmost (old ++ more) l) in
      let passed = (place_passed old more place at).0 in
      rw rest.1 (Contains-append_left (passed ++ (place + start) ∷ []) rest.0 (place + start)
      (Contains-append_right passed ((place + start) ∷ []) (place + start) (here (place + start) [])))

  -- nothing is left but an open offset: it is the stop
  pub stop_waiting : (dropped : ℕ) → IsNext (drop place (old ++ more)) (Waiting dropped) → at.stop ≡ place + dropped
  stop_waiting dropped next =
      let rest = rest_of (to_waiting dropped next) refl reading in
      let open' : verdict (old ++ more) (place + dropped) ≡ Open = sym (verdict-drop (old ++ more) place dropped) ∙ next.2 in
      let le = stop_above rest.2 in
      let le' = stop_within rest.2 in
      sym (reads_same (stops {i = place + dropped} (omega arith) open') refl rest.2).1

  pub is_stop_waiting : (dropped : ℕ) → IsNext (drop place (old ++ more)) (Waiting dropped) → IsStop (old ++ more) (place + dropped)
  is_stop_waiting dropped next = subst (λ s. IsStop (old ++ more) s) (stop_waiting dropped next) (at.frames, at.reading)

  pub frames_waiting : (dropped : ℕ) → IsNext (drop place (old ++ more)) (Waiting dropped) → (frames : List ℕ) (stop : ℕ) → IsLeftmost (old ++ more) frames stop → frames_below (place + dropped) frames ≡ frames_below place frames
  frames_waiting dropped next frames stop l =
      let r = reads_from_leftmost (old ++ more) l in
      passed_frames (to_waiting dropped next) r ∙ (simp append-nil) ∙ sym (passed_frames (place_passed old more place at).1 r)

  -- twenty bad offsets at the place are a crowd
  pub crowd_at : IsNext (drop place (old ++ more)) TooManyRetries → IsCrowd old (old ++ more) place
  crowd_at next =
      let bad = bad_from (old ++ more) place max_retries next in
      let passed = place_passed old more place at in
      let p = passes_on passed.1 (passes_bad max_retries place (place + max_retries) refl bad) in
      let rest = rest_of p refl reading in
      let rises = (from_reads (old ++ more) rest.2).rises in
      record {
        before = at.before;
        frames = at.frames;
        stop = at.stop;
        from = at.from;
        reading = at.reading;
        starts = before_place old more place at;
        ends = stop_above rest.2;
        bad = bad;
        uncovered = λ i ge lt f c covers. elim (Contains-append_cases (passed.0 ++ []) rest.0 f (rw rest.1 at c)) [
          | inl c' ↦ (let h = passes_ends passed.1 f covers.0 (simp append-nil at c') covers.1 in omega (arith, covers.3))
          | inr c' ↦ omega (arith, Rises-above (place + max_retries) rest.0 rises f c', covers.2)
        ];
      }

  pub frames_crowd : IsNext (drop place (old ++ more)) TooManyRetries → (frames : List ℕ) (stop : ℕ) → IsLeftmost (old ++ more) frames stop → frames_below (place + (max_retries - 1)) frames ≡ frames_below place frames
  frames_crowd next frames stop l =
      let r = reads_from_leftmost (old ++ more) l in
      let bad = bad_from (old ++ more) place max_retries next in
      let passed = place_passed old more place at in
      passed_frames (passes_on passed.1 (passes_bad (max_retries - 1) place (place + (max_retries - 1)) refl (λ j ge lt. bad j ge (omega arith)))) r ∙ (simp append-nil) ∙ sym (passed_frames passed.1 r)

  module _ (k : ℕ) (crowd : IsCrowd old (old ++ more) k) where
    same_frames : (crowd.frames ≡ at.frames) × (crowd.stop ≡ at.stop)
    same_frames = reads_same (reads_from_leftmost (old ++ more) crowd.reading) refl reading

    same_before : crowd.before ≡ at.before
    same_before = (reads_same (reads_from_leftmost old crowd.from.1) refl (reads_from_leftmost old at.from.1)).1

    uncovered : (i f n : ℕ) → k ≤ i → i < k + max_retries → Contains at.frames f → verdict (old ++ more) f ≡ Good n → f < i → i < f + (n + overhead) → ⊥
    uncovered i f n ge lt c good above inside = crowd.uncovered i ge lt f (rw same_frames.0 c) (n, good, above, inside)

    -- a crowd round the place would have the place or the byte before it
    pub no_crowd_across : k < place → place < k + max_retries → ⊥
    no_crowd_across below above = by_case at.at
      where
        by_case : (place ≡ at.before) ⊎ (EndsFrame (old ++ more) at.frames at.before place ⊎ (place ≡ at.stop)) → ⊥
        by_case (inl e) = omega (arith, crowd.starts, same_before)
        by_case (inr (inl (f, n, c, ge, good, e))) = uncovered (place - 1) f n (omega arith) (omega arith) c good (omega arith) (omega arith)
        by_case (inr (inr e)) = omega (arith, crowd.ends, same_frames.1)

    pub no_crowd_frame : (start n : ℕ) → IsNext (drop place (old ++ more)) (Frame start n) → k + max_retries ≤ place + start + (n + overhead) → k + max_retries ≤ place
    no_crowd_frame start n next ends = elim (cases_lt place (k + max_retries)) [
      | inr ge ↦ ge
      | inl above ↦ elim (cases_lt k place) [
        | inl below ↦ absurd (no_crowd_across below above)
        | inr ge ↦ elim (cases_lt (place + start) k) [
          | inl past ↦ absurd (uncovered k (place + start) n (omega arith) (omega arith) (delivered_at start n next) (good_at start n next) past (omega arith))
          | inr le ↦ elim (cases_lt (place + start) (k + max_retries)) [
            | inl within ↦ (let bad = crowd.bad (place + start) le within in let good = good_at start n next in cc)
            | inr out ↦ absurd (omega (arith, next.0))
          ]
        ]
      ]
    ]

    pub no_crowd_waiting : (dropped : ℕ) → IsNext (drop place (old ++ more)) (Waiting dropped) → k + max_retries ≤ place
    no_crowd_waiting dropped next = elim (cases_lt place (k + max_retries)) [
      | inr ge ↦ ge
      | inl above ↦ elim (cases_lt k place) [
        | inl below ↦ absurd (no_crowd_across below above)
        | inr ge ↦ absurd (omega (arith, next.0, crowd.ends, same_frames.1, stop_waiting dropped next))
      ]
    ]

    -- a crowd that was not passed, with no frame between, is what the search finds
    pub crowd_found : place < k + max_retries → ((f : ℕ) → Contains at.frames f → place ≤ f → f < k + (max_retries - 1) → ⊥) → IsNext (drop place (old ++ more)) TooManyRetries
    crowd_found ahead none_between = by_case (some_answer verdict_of (drop place (old ++ more))).0 (some_answer verdict_of (drop place (old ++ more))).1
      where
        by_case : (next : Next) → IsNext (drop place (old ++ more)) next → IsNext (drop place (old ++ more)) TooManyRetries
        by_case (Frame start n) next = elim (cases_lt (place + start) (k + (max_retries - 1))) [
          | inl lt ↦ absurd (none_between (place + start) (delivered_at start n next) (omega arith) lt)
          | inr ge ↦ elim (cases_lt k place) [
            | inl below ↦ absurd (no_crowd_across below ahead)
            | inr above ↦ (let bad = crowd.bad (place + start) (omega arith) (omega (arith, next.0)) in let good = good_at start n next in cc)
          ]
        ]
        by_case (Waiting dropped) next = absurd (omega (arith, no_crowd_waiting dropped next))
        by_case TooManyRetries next = next
