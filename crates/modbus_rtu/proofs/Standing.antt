-- A reader stands for what it was given, and each search and each read carries that on.
use Rattle.std.proofs.Common.{◌≡◌, ◌⊎◌, inl, inr, ℕ, ◌+◌, ◌-◌, ◌<◌, ◌≤◌, List, [], ◌∷◌, ◌++◌, map, length, take, drop, refl, sym, ap, ◌∙◌, subst, arith, length-append, length-drop}
use Rattle.std.specs.Prelude.{Contains, slice_index}
use Rattle.std.proofs.lemmas.Bool.{cases_lt}
use Rattle.std.proofs.lemmas.List.{map-append, take-append-drop, take-take, take_all, take_at, take-append-le, drop-append-le, drop-drop, get_or-drop}
use Rattle.modbus_pdu.specs.SlavePdu.{SlavePdu}
use Rattle.modbus_pdu.specs.Message.{message}
use Rattle.modbus_rtu.specs.declared.verdict.Verdict.TheVariants.{Good}
use Rattle.modbus_rtu.specs.declared.search.Next.TheVariants.{Frame, Waiting, TooManyRetries}
use Rattle.modbus_rtu.specs.Frame.{verdict}
use Rattle.modbus_rtu.specs.Leftmost.{IsLeftmost}
use Rattle.modbus_rtu.specs.Next.{IsNext}
use Rattle.modbus_rtu.specs.Place.{IsStop, IsCrowd, IsPlace, frames_below}
use Rattle.modbus_link.specs.Reads.{last_cut, last_cut_but_one, IsRead, Rise}
use Rattle.modbus_rtu.specs.Stands.{frame_at, HasCrowd, IsFirstCrowd, IsUsedUp, IsTakenNext, StandsFor}
use Rattle.modbus_rtu.proofs.Verdicts.{verdict-drop, bad_within, verdict_of-nil}
use Rattle.modbus_rtu.proofs.Reading.{Reads, reading, reads_same, stop_within}
use Rattle.modbus_rtu.proofs.Reading.Reads.{stops}
use Rattle.modbus_rtu.proofs.LeftmostReads.{leftmost_from_reads, reads_from_leftmost}
use Rattle.modbus_rtu.proofs.Places.{Passes, passes_of_reads, Passes-append, passed_frames, stop_rises, before_place}
use Rattle.modbus_rtu.proofs.Fronts.{frames-append}
use Rattle.modbus_rtu.proofs.Steps.{place_frame, frames_frame, is_stop_waiting, frames_waiting, crowd_at, frames_before, frames_contain, no_crowd_across, no_crowd_frame, no_crowd_waiting, frames_crowd, crowd_found}
use Rattle.modbus_rtu.specs.Limits.{overhead, max_retries}

-- cuts
first_below : (total : ℕ) (cuts : List ℕ) → Rise total cuts → total ≤ last_cut_but_one total cuts
first_below total [] up = omega arith
first_below total (c ∷ []) up = omega arith
first_below total (c ∷ d ∷ cuts) up = omega (arith, up.0, first_below c (d ∷ cuts) up.1)

but_one_below : (total : ℕ) (cuts : List ℕ) → Rise total cuts → last_cut_but_one total cuts ≤ last_cut total cuts
but_one_below total [] up = omega arith
but_one_below total (c ∷ []) up = omega (arith, up.0)
but_one_below total (c ∷ d ∷ cuts) up = but_one_below c (d ∷ cuts) up.1

-- a read is the last, or went to no more than the last cut but one
last_or_earlier : (total : ℕ) (cuts : List ℕ) → Rise total cuts → (b e : ℕ) → IsRead total cuts b e → ((b ≡ last_cut_but_one total cuts) × (e ≡ last_cut total cuts)) ⊎ (e ≤ last_cut_but_one total cuts)
last_or_earlier total [] up b e read = absurd read
last_or_earlier total (c ∷ []) up b e (inl r) = inl r
last_or_earlier total (c ∷ []) up b e (inr r) = absurd r
last_or_earlier total (c ∷ d ∷ cuts) up b e (inl r) = inr (omega (arith, r.1, first_below c (d ∷ cuts) up.1))
last_or_earlier total (c ∷ d ∷ cuts) up b e (inr r) = last_or_earlier c (d ∷ cuts) up.1 b e r

read_bounds : (total : ℕ) (cuts : List ℕ) → Rise total cuts → (b e : ℕ) → IsRead total cuts b e → (b < e) × (e ≤ last_cut total cuts)
read_bounds total [] up b e read = absurd read
read_bounds total (c ∷ cuts) up b e (inl r) = (omega (arith, r.0, r.1, up.0), omega (arith, r.1, first_below c cuts up.1, but_one_below c cuts up.1))
read_bounds total (c ∷ cuts) up b e (inr r) = read_bounds c cuts up.1 b e r

last_cut-push : (total : ℕ) (cuts : List ℕ) (x : ℕ) → last_cut total (cuts ++ x ∷ []) ≡ x
last_cut-push total [] x = refl
last_cut-push total (c ∷ cuts) x = last_cut-push c cuts x

but_one-push : (total : ℕ) (cuts : List ℕ) (x : ℕ) → last_cut_but_one total (cuts ++ x ∷ []) ≡ last_cut total cuts
but_one-push total [] x = refl
but_one-push total (c ∷ []) x = refl
but_one-push total (c ∷ d ∷ cuts) x = but_one-push c (d ∷ cuts) x

Rise-push : (total : ℕ) (cuts : List ℕ) (x : ℕ) → Rise total cuts → last_cut total cuts < x → Rise total (cuts ++ x ∷ [])
Rise-push total [] x up lt = (lt, tt)
Rise-push total (c ∷ cuts) x up lt = (up.0, Rise-push c cuts x up.1 lt)

read-push : (total : ℕ) (cuts : List ℕ) (x b e : ℕ) → IsRead total (cuts ++ x ∷ []) b e → IsRead total cuts b e ⊎ ((b ≡ last_cut total cuts) × (e ≡ x))
read-push total [] x b e (inl r) = inr r
read-push total [] x b e (inr r) = absurd r
read-push total (c ∷ cuts) x b e (inl r) = inl (inl r)
read-push total (c ∷ cuts) x b e (inr r) = elim (read-push c cuts x b e r) [ inl r' ↦ inl (inr r') | inr r' ↦ inr r' ]

last_read : (total : ℕ) (cuts : List ℕ) → Rise total cuts → total < last_cut total cuts → IsRead total cuts (last_cut_but_one total cuts) (last_cut total cuts)
last_read total [] up lt = absurd (omega arith)
last_read total (c ∷ []) up lt = inl (refl, refl)
last_read total (c ∷ d ∷ cuts) up lt = inr (last_read c (d ∷ cuts) up.1 (omega (arith, up.1.0, first_below d cuts up.1.1, but_one_below d cuts up.1.1)))

-- the steps, for bytes that were read up to a cut before
record FrameStep (old now : List ℕ) (place start n : ℕ) : Type 0 where
  there : IsPlace old now (place + start + (n + overhead))
  frames : (frames : List ℕ) (stop : ℕ) → IsLeftmost now frames stop → frames_below (place + start + (n + overhead)) frames ≡ frames_below place frames ++ (place + start) ∷ []
  calm : (k : ℕ) → IsCrowd old now k → k + max_retries ≤ place + start + (n + overhead) → k + max_retries ≤ place
  good : verdict now (place + start) ≡ Good n
  before : (frames : List ℕ) (stop : ℕ) → IsLeftmost now frames stop → frames_below (place + start) frames ≡ frames_below place frames
  within : (frames : List ℕ) (stop : ℕ) → IsLeftmost now frames stop → Contains frames (place + start)

frame_step : (cut : ℕ) (bytes : List ℕ) (place start n : ℕ) → IsPlace (take cut bytes) bytes place → IsNext (drop place bytes) (Frame start n) → FrameStep (take cut bytes) bytes place start n
frame_step cut bytes place start n =
    let old = take cut bytes in
    let more = drop cut bytes in
    subst (λ now. IsPlace old now place → IsNext (drop place now) (Frame start n) → FrameStep old now place start n) (take-append-drop cut bytes)
    (λ at next. record {
      there = place_frame old more place at start n next;
      frames = frames_frame old more place at start n next;
      calm = λ k crowd. no_crowd_frame old more place at k crowd start n next;
      good = sym (verdict-drop (old ++ more) place start) ∙ next.2;
      before = frames_before old more place at start n next;
      within = frames_contain old more place at start n next;
    })

record WaitingStep (old now : List ℕ) (place dropped : ℕ) : Type 0 where
  stop : IsStop now (place + dropped)
  frames : (frames : List ℕ) (stop : ℕ) → IsLeftmost now frames stop → frames_below (place + dropped) frames ≡ frames_below place frames
  calm : (k : ℕ) → IsCrowd old now k → k + max_retries ≤ place

waiting_step : (cut : ℕ) (bytes : List ℕ) (place dropped : ℕ) → IsPlace (take cut bytes) bytes place → IsNext (drop place bytes) (Waiting dropped) → WaitingStep (take cut bytes) bytes place dropped
waiting_step cut bytes place dropped =
    let old = take cut bytes in
    let more = drop cut bytes in
    subst (λ now. IsPlace old now place → IsNext (drop place now) (Waiting dropped) → WaitingStep old now place dropped) (take-append-drop cut bytes)
    (λ at next. record {
      stop = is_stop_waiting old more place at dropped next;
      frames = frames_waiting old more place at dropped next;
      calm = λ k crowd. no_crowd_waiting old more place at k crowd dropped next;
    })

record CrowdStep (old now : List ℕ) (place : ℕ) : Type 0 where
  here : IsCrowd old now place
  first : (k : ℕ) → IsCrowd old now k → k < place → place < k + max_retries → ⊥
  frames : (frames : List ℕ) (stop : ℕ) → IsLeftmost now frames stop → frames_below (place + (max_retries - 1)) frames ≡ frames_below place frames

crowd_step : (cut : ℕ) (bytes : List ℕ) (place : ℕ) → IsPlace (take cut bytes) bytes place → IsNext (drop place bytes) TooManyRetries → CrowdStep (take cut bytes) bytes place
crowd_step cut bytes place =
    let old = take cut bytes in
    let more = drop cut bytes in
    subst (λ now. IsPlace old now place → IsNext (drop place now) TooManyRetries → CrowdStep old now place) (take-append-drop cut bytes)
    (λ at next. record {
      here = crowd_at old more place at next;
      first = λ k crowd. no_crowd_across old more place at k crowd;
      frames = frames_crowd old more place at next;
    })

crowd_found_at : (cut : ℕ) (bytes : List ℕ) (place k : ℕ) → IsPlace (take cut bytes) bytes place → IsCrowd (take cut bytes) bytes k → place < k + max_retries → ((frames : List ℕ) (stop : ℕ) → IsLeftmost bytes frames stop → (f : ℕ) → Contains frames f → place ≤ f → f < k + (max_retries - 1) → ⊥) → IsNext (drop place bytes) TooManyRetries
crowd_found_at cut bytes place k =
    let old = take cut bytes in
    let more = drop cut bytes in
    subst (λ now. IsPlace old now place → IsCrowd old now k → place < k + max_retries → ((frames : List ℕ) (stop : ℕ) → IsLeftmost now frames stop → (f : ℕ) → Contains frames f → place ≤ f → f < k + (max_retries - 1) → ⊥) → IsNext (drop place now) TooManyRetries) (take-append-drop cut bytes)
    (λ at crowd ahead none_between. crowd_found old more place at k crowd ahead (none_between at.frames at.stop at.reading))

before_at : (cut : ℕ) (bytes : List ℕ) (place : ℕ) → (at : IsPlace (take cut bytes) bytes place) → at.before ≤ place
before_at cut bytes place =
    subst (λ now. (at : IsPlace (take cut bytes) now place) → at.before ≤ place) (take-append-drop cut bytes)
    (before_place (take cut bytes) (drop cut bytes) place)

-- the stop after fewer bytes is no higher
stop_of_front : (e cut : ℕ) (bytes : List ℕ) (first last : ℕ) → e ≤ cut → IsStop (take e bytes) first → IsStop (take cut bytes) last → first ≤ last
stop_of_front e cut bytes first last le s s' =
    let split : take e bytes ++ drop e (take cut bytes) ≡ take cut bytes = ap (λ xs. xs ++ drop e (take cut bytes)) (sym (take-take e cut bytes le)) ∙ take-append-drop e (take cut bytes) in
    stop_rises (take e bytes) (drop e (take cut bytes)) first last s (rw split s')

-- the frame as it stands in the held bytes
frame_held : (bytes : List ℕ) (place start n : ℕ) → verdict bytes (place + start) ≡ Good n → frame_at bytes (place + start) ≡ message (slice_index (drop place bytes) start) (take n (drop (start + 1) (drop place bytes)))
frame_held bytes place start n good =
    let e : place + (start + 1) ≡ place + start + 1 = omega arith in
    rw (good, get_or-drop place bytes start 0, drop-drop (start + 1) place bytes, e) refl

module _ (bytes cuts held : List ℕ) (taken : List SlavePdu) (s : StandsFor bytes cuts held taken) where
  whole : take (last_cut 0 cuts) bytes ≡ bytes
  whole = take_all (last_cut 0 cuts) bytes (omega (arith, s.are_cuts.all))

  -- a crowd of an earlier read lies before the place
  earlier_below : (b e k : ℕ) → e ≤ last_cut_but_one 0 cuts → IsCrowd (take b bytes) (take e bytes) k → k + max_retries ≤ s.place
  earlier_below b e k le crowd =
      omega (arith, crowd.ends, before_at (last_cut_but_one 0 cuts) bytes s.place s.at, stop_of_front e (last_cut_but_one 0 cuts) bytes crowd.stop s.at.before le (crowd.frames, crowd.reading) s.at.from)

  -- so only the last read may have one
  no_crowd : (up_to : ℕ) → s.place ≤ up_to → ((k : ℕ) → IsCrowd (take (last_cut_but_one 0 cuts) bytes) bytes k → k + max_retries ≤ up_to → k + max_retries ≤ s.place) → (k : ℕ) → HasCrowd bytes cuts k → up_to < k + max_retries
  no_crowd up_to ge last k (b, e, read, crowd) = elim (last_or_earlier 0 cuts s.are_cuts.rise b e read) [
    | inr le ↦ absurd (omega (arith, earlier_below b e k le crowd, s.calm k (b, e, read, crowd)))
    | inl same ↦ elim (cases_lt up_to (k + max_retries)) [
      | inl lt ↦ lt
      | inr le ↦ absurd (omega (
        arith,
        s.calm k (b, e, read, crowd),
        last k (subst (λ now. IsCrowd (take (last_cut_but_one 0 cuts) bytes) now k) whole
            (subst (λ c. IsCrowd (take (last_cut_but_one 0 cuts) bytes) (take c bytes) k) same.1
            (subst (λ c. IsCrowd (take c bytes) (take e bytes) k) same.0 crowd))) le,
      ))
    ]
  ]

  pub stands_frame : (start n : ℕ) → IsNext held (Frame start n) → StandsFor bytes cuts (drop (start + (n + overhead)) held) (taken ++ message (slice_index held start) (take n (drop (start + 1) held)) ∷ [])
  stands_frame start n next =
      let step = frame_step (last_cut_but_one 0 cuts) bytes s.place start n s.at (rw s.holds at next) in
      record {
        are_cuts = s.are_cuts;
        place = s.place + start + (n + overhead);
        at = step.there;
        holds = rw (s.holds, drop-drop (start + (n + overhead)) s.place bytes) (ap (λ k. drop k bytes) (omega arith));
        calm = no_crowd (s.place + start + (n + overhead)) (omega arith) step.calm;
        took = λ frames stop l.
            rw (step.frames frames stop l, map-append (frame_at bytes) (frames_below s.place frames) ((s.place + start) ∷ []), frame_held bytes s.place start n step.good, ← s.holds)
            (ap (λ xs. xs ++ message (slice_index held start) (take n (drop (start + 1) held)) ∷ []) (s.took frames stop l));
      }

  -- the frame that was taken off is the next one of the reading
  pub next_taken : (start n : ℕ) → IsNext held (Frame start n) → IsTakenNext bytes cuts taken (message (slice_index held start) (take n (drop (start + 1) held)))
  next_taken start n next =
      let step = frame_step (last_cut_but_one 0 cuts) bytes s.place start n s.at (rw s.holds at next) in
      record {
        offset = s.place + start;
        calm = λ k crowd. omega (arith, no_crowd (s.place + start + (n + overhead)) (omega arith) step.calm k crowd);
        within = step.within;
        is = frame_held bytes s.place start n step.good ∙ rw (← s.holds) refl;
        earlier = λ frames stop l. rw (step.before frames stop l) (s.took frames stop l);
      }

  -- where the next offset is open, the place is the stop, and no crowd has been
  pub at_stop : (dropped : ℕ) → IsNext held (Waiting dropped) → IsStop bytes (s.place + dropped)
  at_stop dropped next = (waiting_step (last_cut_but_one 0 cuts) bytes s.place dropped s.at (rw s.holds at next)).stop

  pub none_crowded : (dropped : ℕ) → IsNext held (Waiting dropped) → (k : ℕ) → HasCrowd bytes cuts k → ⊥
  none_crowded dropped next k crowd =
      let step = waiting_step (last_cut_but_one 0 cuts) bytes s.place dropped s.at (rw s.holds at next) in
      let far = no_crowd (s.place + dropped + max_retries + k) (omega arith) (λ j c le. step.calm j c) k crowd in
      omega arith

  pub stands_waiting : (dropped : ℕ) → IsNext held (Waiting dropped) → StandsFor bytes cuts (drop dropped held) taken
  stands_waiting dropped next =
      let step = waiting_step (last_cut_but_one 0 cuts) bytes s.place dropped s.at (rw s.holds at next) in
      record {
        are_cuts = s.are_cuts;
        place = s.place + dropped;
        at = record {
          before = s.at.before;
          frames = step.stop.0;
          stop = s.place + dropped;
          from = s.at.from;
          reading = step.stop.1;
          at = inr (inr refl);
        };
        holds = rw (s.holds, drop-drop dropped s.place bytes) refl;
        calm = no_crowd (s.place + dropped) (omega arith) (λ k crowd le. step.calm k crowd);
        took = λ frames stop l. rw (step.frames frames stop l) (s.took frames stop l);
      }

  -- a read after that
  pub stands_read : (dropped : ℕ) → IsNext held (Waiting dropped) → (more : List ℕ) → 0 < length more →
      StandsFor (bytes ++ more) (cuts ++ length (bytes ++ more) ∷ []) (drop dropped held ++ more) taken
  stands_read dropped next more some = record {
    are_cuts = record {
      rise = Rise-push 0 cuts (length (bytes ++ more)) s.are_cuts.rise (omega (arith, s.are_cuts.all, length-append bytes more));
      all = last_cut-push 0 cuts (length (bytes ++ more));
    };
    place = place;
    at = record {
      before = place;
      frames = all.0;
      stop = all.1;
      from = rw front stop';
      reading = leftmost_from_reads (bytes ++ more) all.2;
      at = inl refl;
    };
    holds = rw (drop-append-le place bytes more (stop_within r), s.holds, drop-drop dropped s.place bytes) refl;
    calm = λ k (b, e, read, crowd). elim (read-push 0 cuts (length (bytes ++ more)) b e read) [
      | inl old ↦ (let in' = read_bounds 0 cuts s.are_cuts.rise b e old in
          absurd (none_crowded dropped next k (b, e, old, rw (take-append-le b bytes more (omega (arith, s.are_cuts.all, in'.0, in'.1)), take-append-le e bytes more (omega (arith, s.are_cuts.all, in'.1))) at crowd)))
      | inr new ↦ (let front_b : take b (bytes ++ more) ≡ bytes = rw (new.0, s.are_cuts.all) (take_at bytes more (length bytes) refl) in
          let from : IsStop bytes crowd.before = rw front_b at crowd.from in
          omega (arith, crowd.starts, (reads_same (reads_from_leftmost bytes from.1) refl r).1))
    ];
    took = λ frames stop l.
        s.took stop'.0 place stop'.1
        ∙ ap (map (frame_at bytes)) (sym (step.frames stop'.0 place stop'.1) ∙ passed_frames passed r)
        ∙ sym (frames-append more passed)
        ∙ ap (map (frame_at (bytes ++ more))) (sym (passed_frames (Passes-append more passed) (reads_from_leftmost (bytes ++ more) l)));
  }
    where
      place : ℕ
      place = s.place + dropped

      stop' : IsStop bytes place
      stop' = at_stop dropped next

      r : Reads bytes 0 stop'.0 place
      r = reads_from_leftmost bytes stop'.1

      step : WaitingStep (take (last_cut_but_one 0 cuts) bytes) bytes s.place dropped
      step = waiting_step (last_cut_but_one 0 cuts) bytes s.place dropped s.at (rw s.holds at next)

      passed : Passes bytes 0 stop'.0 place
      passed = passes_of_reads r

      all : (frames : List ℕ) × (stop : ℕ) × Reads (bytes ++ more) 0 frames stop
      all = reading (bytes ++ more) 0 (omega arith)

      front : take (last_cut_but_one 0 (cuts ++ length (bytes ++ more) ∷ [])) (bytes ++ more) ≡ bytes
      front = rw (but_one-push 0 cuts (length (bytes ++ more)), s.are_cuts.all) (take_at bytes more (length bytes) refl)

  -- nothing more can be taken from the held bytes
  pub used_up : (dropped : ℕ) → IsNext held (Waiting dropped) → IsUsedUp bytes cuts (drop dropped held) taken
  used_up dropped next =
      let stop' = at_stop dropped next in
      let step = waiting_step (last_cut_but_one 0 cuts) bytes s.place dropped s.at (rw s.holds at next) in
      let r = reads_from_leftmost bytes stop'.1 in
      record {
        frames = stop'.0;
        stop = s.place + dropped;
        reading = stop'.1;
        holds = rw (s.holds, drop-drop dropped s.place bytes) refl;
        took = s.took stop'.0 (s.place + dropped) stop'.1
            ∙ ap (map (frame_at bytes)) (sym (step.frames stop'.0 (s.place + dropped) stop'.1) ∙ passed_frames (passes_of_reads r) r);
        calm = none_crowded dropped next;
      }

  -- the crowd that was not passed, with no frame between, is what the next search finds
  pub found_crowd : (k : ℕ) → HasCrowd bytes cuts k → ((frames : List ℕ) (stop : ℕ) → IsLeftmost bytes frames stop → (f : ℕ) → Contains frames f → s.place ≤ f → f < k + (max_retries - 1) → ⊥) → IsNext held TooManyRetries
  found_crowd k (b, e, read, crowd) none_between = elim (last_or_earlier 0 cuts s.are_cuts.rise b e read) [
    | inr le ↦ absurd (omega (arith, earlier_below b e k le crowd, s.calm k (b, e, read, crowd)))
    | inl same ↦ rw s.holds (crowd_found_at (last_cut_but_one 0 cuts) bytes s.place k s.at
        (subst (λ now. IsCrowd (take (last_cut_but_one 0 cuts) bytes) now k) whole
        (subst (λ c. IsCrowd (take (last_cut_but_one 0 cuts) bytes) (take c bytes) k) same.1
        (subst (λ c. IsCrowd (take c bytes) (take e bytes) k) same.0 crowd)))
        (s.calm k (b, e, read, crowd)) none_between)
  ]

  some_cut : IsNext held TooManyRetries → 0 < last_cut 0 cuts
  some_cut next = omega (arith, bad_within held max_retries next, s.are_cuts.all, ap length s.holds, length-drop s.place bytes)

  -- twenty bad offsets are the first crowd
  pub first_crowd : IsNext held TooManyRetries → IsFirstCrowd bytes cuts taken s.place
  first_crowd next =
      let step = crowd_step (last_cut_but_one 0 cuts) bytes s.place s.at (rw s.holds at next) in
      record {
        crowd = (last_cut_but_one 0 cuts, last_cut 0 cuts, last_read 0 cuts s.are_cuts.rise (some_cut next), rw whole step.here);
        first = λ j (b, e, read, crowd). elim (last_or_earlier 0 cuts s.are_cuts.rise b e read) [
          | inr le ↦ absurd (omega (arith, earlier_below b e j le crowd, s.calm j (b, e, read, crowd)))
          | inl same ↦ elim (cases_lt j s.place) [
            | inr ge ↦ ge
            | inl lt ↦ absurd (step.first j
                (subst (λ now. IsCrowd (take (last_cut_but_one 0 cuts) bytes) now j) whole
                (subst (λ c. IsCrowd (take (last_cut_but_one 0 cuts) bytes) (take c bytes) j) same.1
                (subst (λ c. IsCrowd (take c bytes) (take e bytes) j) same.0 crowd)))
                lt (s.calm j (b, e, read, crowd)))
          ]
        ];
        took = λ frames stop l. rw (step.frames frames stop l) (s.took frames stop l);
      }

pub stands_opening : StandsFor [] [] [] []
stands_opening = record {
  are_cuts = record { rise = tt; all = refl };
  place = 0;
  at = record { before = 0; frames = []; stop = 0; from = ([], start); reading = start; at = inl refl };
  holds = refl;
  calm = λ k (b, e, read, crowd). absurd read;
  took = λ frames stop l. ap (map (frame_at [])) (ap (frames_below 0) (reads_same (stops (omega arith) verdict_of-nil) refl (reads_from_leftmost [] l)).0);
}
  where
    start : IsLeftmost [] [] 0
    start = leftmost_from_reads [] (stops (omega arith) verdict_of-nil)
