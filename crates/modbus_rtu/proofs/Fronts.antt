-- What a list of bytes delivers stays when bytes follow.
use Rattle.std.proofs.Common.{◌≡◌, ◌≢◌, inl, inr, ◌↔◌, ℕ, ◌+◌, ◌<◌, ◌≤◌, List, [], ◌∷◌, ◌++◌, map, length, take, drop, refl, sym, ap, ◌∙◌, subst, arith, length-drop, append_assoc}
use Rattle.std.specs.Prelude.{All, Contains, get_or}
use Rattle.std.proofs.lemmas.Bool.{cases_lt, lt-ltb, le-ltb}
use Rattle.std.proofs.lemmas.List.{take-append-drop, drop-append-le, take-append-le, get_or_append_left}
use Rattle.std.proofs.lemmas.List.Elements.{All-contains, All-from_get_or, Contains-get_or, Contains-append_left, Contains-append_cases}
use Rattle.modbus_rtu.specs.declared.verdict.Verdict.{Verdict}
use Rattle.modbus_rtu.specs.declared.verdict.Verdict.TheVariants.{Open, Bad, Good}
use Rattle.modbus_rtu.specs.Frame.{verdict}
use Rattle.modbus_rtu.specs.Leftmost.{IsLeftmost, IsUncovered}
use Rattle.modbus_rtu.specs.Place.{IsCrowd, frames_below}
use Rattle.modbus_rtu.specs.Stands.{HasCrowd, frame_at}
use Rattle.modbus_rtu.proofs.Verdicts.{verdict-append, judged_within, good_within, good_not_open, bad_not_open}
use Rattle.modbus_rtu.proofs.Reading.{Reads, stop_above}
use Rattle.modbus_rtu.proofs.LeftmostReads.{Rises, Rises-above, from_reads, reads_from_leftmost, front_or_later, none}
use Rattle.modbus_rtu.proofs.Places.{Passes, passes_of_reads, Passes-append, rest_of, passed_frames, none_below}
use Rattle.modbus_rtu.proofs.Places.Passes.{arrives, drops, delivers}
use Rattle.modbus_rtu.specs.Limits.{overhead, max_retries}

-- what is read of a frame stays
pub frame_at-append : (bytes more : List ℕ) (i : ℕ) → verdict bytes i ≢ Open → frame_at (bytes ++ more) i ≡ frame_at bytes i
frame_at-append bytes more i ne = by_verdict (verdict bytes i) refl
  where
    within : i < length bytes
    within = judged_within bytes i ne

    by_verdict : (v : Verdict) → verdict bytes i ≡ v → frame_at (bytes ++ more) i ≡ frame_at bytes i
    by_verdict Open e = absurd (ne e)
    by_verdict Bad e = rw (verdict-append bytes more i ne, e, get_or_append_left bytes more 0 i within) refl
    by_verdict (Good n) e =
        let fits : i + (n + overhead) ≤ length bytes = good_within bytes i n e in
        rw (
          verdict-append bytes more i ne,
          e,
          get_or_append_left bytes more 0 i within,
          drop-append-le (i + 1) bytes more (omega arith),
          take-append-le n (drop (i + 1) bytes) more (omega (arith, length-drop (i + 1) bytes)),
        ) refl

-- the frames that were passed are the same when bytes follow
pub frames-append : {bytes frames : List ℕ} {i place : ℕ} (more : List ℕ) → Passes bytes i frames place → map (frame_at (bytes ++ more)) frames ≡ map (frame_at bytes) frames
frames-append more arrives = refl
frames-append more (drops b p) = frames-append more p
frames-append {bytes} {i = i} more (delivers n g p) =
    let one : frame_at (bytes ++ more) i ≡ frame_at bytes i = frame_at-append bytes more i (good_not_open g) in
    cc (one, frames-append more p)

pub frames_same : (bytes more frames : List ℕ) (stop : ℕ) → IsLeftmost bytes frames stop → map (frame_at (bytes ++ more)) frames ≡ map (frame_at bytes) frames
frames_same bytes more frames stop l = frames-append more (passes_of_reads (reads_from_leftmost bytes l))

-- a reading of the bytes, and one of the whole
module _ (bytes more frames all : List ℕ) (stop last : ℕ) (l : IsLeftmost bytes frames stop) (whole : IsLeftmost (bytes ++ more) all last) where
  passed : Passes (bytes ++ more) 0 frames stop
  passed = Passes-append more (passes_of_reads (reads_from_leftmost bytes l))

  rest : (later : List ℕ) × (all ≡ frames ++ later) × Reads (bytes ++ more) stop later last
  rest = rest_of passed refl (reads_from_leftmost (bytes ++ more) whole)

  above : (f : ℕ) → Contains rest.0 f → stop ≤ f
  above f c = Rises-above stop rest.0 (from_reads (bytes ++ more) rest.2).rises f c

  pub front_frames : (later : List ℕ) × (all ≡ frames ++ later) × All (λ f. stop ≤ f) later
  front_frames = (rest.0, rest.1, All-from_get_or (λ f. stop ≤ f) rest.0 0 (λ k lt. above (get_or rest.0 k 0) (Contains-get_or rest.0 k 0 lt)))

  pub front_below : frames_below stop all ≡ frames
  front_below = passed_frames passed (reads_from_leftmost (bytes ++ more) whole)

  pub front_stop : stop ≤ last
  front_stop = stop_above rest.2

  pub front_delivered : (f : ℕ) → f < stop → Contains frames f ↔ Contains all f
  front_delivered f lt = (
    λ c. rw rest.1 (Contains-append_left frames rest.0 f c),
    λ c. elim (Contains-append_cases frames rest.0 f (rw rest.1 at c)) [
      | inl c' ↦ c'
      | inr c' ↦ absurd (omega (arith, above f c'))
    ],
  )

-- the frames up to one of them
split_at : (i f : ℕ) (frames : List ℕ) → Rises i frames → Contains frames f → (later : List ℕ) × (frames ≡ frames_below f frames ++ f ∷ later)
split_at i f [] r c = absurd (none f c)
split_at i f (g ∷ frames) r c = elim (cases_lt g f) [
  | inl below ↦ elim (front_or_later g f frames c) [
    | inl same ↦ absurd (omega arith)
    | inr c' ↦ (let later = split_at (g + 1) f frames r.1 c' in let e = lt-ltb g f below in (later.0, rw e (ap (λ xs. g ∷ xs) later.1)))
  ]
  | inr above ↦ elim (front_or_later g f frames c) [
    | inl same ↦ (let e = le-ltb g f above in let nothing : frames_below f frames ≡ [] = none_below f (g + 1) frames (omega arith) r.1 in
        (frames, rw (e, nothing) (ap (λ q. q ∷ frames) same)))
    | inr c' ↦ absurd (omega (arith, Rises-above (g + 1) frames r.1 f c'))
  ]
]

pub frames_around : (bytes frames : List ℕ) (stop f : ℕ) → IsLeftmost bytes frames stop → Contains frames f → (later : List ℕ) × (frames ≡ frames_below f frames ++ f ∷ later)
frames_around bytes frames stop f l c = split_at 0 f frames (from_reads bytes (reads_from_leftmost bytes l)).rises c

-- a crowd of a front
module _ (old now more frames : List ℕ) (k stop : ℕ) (crowd : IsCrowd old now k) (whole : IsLeftmost (now ++ more) frames stop) where
  bad_still : (i : ℕ) → k ≤ i → i < k + max_retries → verdict (now ++ more) i ≡ Bad
  bad_still i ge lt = verdict-append now more i (bad_not_open (crowd.bad i ge lt)) ∙ crowd.bad i ge lt

  uncovered_still : (i : ℕ) → k ≤ i → i < k + max_retries → IsUncovered (now ++ more) frames i
  uncovered_still i ge lt f c (n, good, before, inside) =
      let later = front_frames now more crowd.frames frames crowd.stop stop crowd.reading whole in
      let ends = crowd.ends in
      elim (Contains-append_cases crowd.frames later.0 f (rw later.1 at c)) [
        | inr c' ↦ absurd (omega (arith, All-contains (λ g. crowd.stop ≤ g) later.0 f later.2 c'))
        | inl c' ↦ (let was = ((crowd.reading.delivered f (All-contains (λ g. g < crowd.stop) crowd.frames f crowd.reading.below c')).0 c').0 in
            let same : verdict (now ++ more) f ≡ Good was.0 = verdict-append now more f (good_not_open was.1) ∙ was.1 in
            let e : n ≡ was.0 = cc in
            crowd.uncovered i ge lt f c' (was.0, was.1, before, omega arith))
      ]

pub crowd_still : (bytes cuts more frames : List ℕ) (k stop : ℕ) → HasCrowd bytes cuts k → IsLeftmost (bytes ++ more) frames stop → (i : ℕ) → k ≤ i → i < k + max_retries → (verdict (bytes ++ more) i ≡ Bad) × IsUncovered (bytes ++ more) frames i
crowd_still bytes cuts more frames k stop (b, e, read, crowd) whole =
    let joined : take e bytes ++ (drop e bytes ++ more) ≡ bytes ++ more = sym (append_assoc (take e bytes) (drop e bytes) more) ∙ ap (λ front. front ++ more) (take-append-drop e bytes) in
    subst (λ all. IsLeftmost all frames stop → (i : ℕ) → k ≤ i → i < k + max_retries → (verdict all i ≡ Bad) × IsUncovered all frames i) joined
    (λ l i ge lt. (bad_still (take b bytes) (take e bytes) (drop e bytes ++ more) frames k stop crowd l i ge lt, uncovered_still (take b bytes) (take e bytes) (drop e bytes ++ more) frames k stop crowd l i ge lt))
    whole
