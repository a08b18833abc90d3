-- A quiet line goes on as it was read.
use Rattle.std.proofs.Common.{◌≡◌, inl, inr, ℕ, ◌+◌, ◌<◌, ◌≤◌, List, [], ◌∷◌, ◌++◌, map, length, take, drop, refl, sym, ap, ◌∙◌, subst, arith, append_assoc}
use Rattle.std.proofs.lemmas.Grind.{common_steps}
use Rattle.std.proofs.lemmas.List.{take-append-drop, map-append}
use Rattle.std.proofs.lemmas.List.Elements.{All-contains, Contains-append_cases}
use Rattle.modbus_pdu.specs.SlavePdu.{SlavePdu}
use Rattle.modbus_rtu.specs.declared.verdict.Verdict.TheVariants.{Bad, Good}
use Rattle.modbus_rtu.specs.Frame.{verdict}
use Rattle.modbus_rtu.specs.Leftmost.{IsLeftmost, IsUncovered}
use Rattle.modbus_rtu.specs.Place.{IsCrowd, frames_below}
use Rattle.modbus_rtu.specs.Stands.{HasCrowd, IsTakenNext, IsUsedUp, frame_at}
use Rattle.modbus_rtu.specs.Quiet.{IsQuietLine}
use Rattle.modbus_rtu.proofs.Verdicts.{verdict-append, good_not_open, bad_not_open}
use Rattle.modbus_rtu.proofs.Reading.{Reads, reading, reads_same}
use Rattle.modbus_rtu.proofs.LeftmostReads.{Rises-above, from_reads, reads_from_leftmost, leftmost_from_reads}
use Rattle.modbus_rtu.proofs.Places.{Passes-append, passes_of_reads, rest_of}
use Rattle.modbus_rtu.proofs.Fronts.{frames_same, frames_around}
use Rattle.modbus_rtu.specs.Limits.{max_retries}

module _ (read rest : List ℕ) (messages : List SlavePdu) (quiet : IsQuietLine (read ++ rest) messages) where
  whole : Reads (read ++ rest) 0 quiet.frames (length (read ++ rest))
  whole = reads_from_leftmost (read ++ rest) quiet.reading

  more_frames : (frames : List ℕ) (stop : ℕ) → IsLeftmost read frames stop → (later : List ℕ) × (quiet.frames ≡ frames ++ later)
  more_frames frames stop l =
      let r = rest_of (Passes-append rest (passes_of_reads (reads_from_leftmost read l))) refl whole in
      (r.0, r.1)

  module _ (old now back : List ℕ) (joined : now ++ back ≡ read ++ rest) (k : ℕ) (c : IsCrowd old now k) where
    rest_reads : (later : List ℕ) × (quiet.frames ≡ c.frames ++ later) × Reads (now ++ back) c.stop later (length (read ++ rest))
    rest_reads = rest_of (Passes-append back (passes_of_reads (reads_from_leftmost now c.reading))) refl (subst (λ b. Reads b 0 quiet.frames (length (read ++ rest))) (sym joined) whole)

    bad_there : (i : ℕ) → k ≤ i → i < k + max_retries → verdict (read ++ rest) i ≡ Bad
    bad_there i ge lt = subst (λ b. verdict b i ≡ Bad) joined (verdict-append now back i (bad_not_open (c.bad i ge lt)) ∙ c.bad i ge lt)

    free_there : (i : ℕ) → k ≤ i → i < k + max_retries → IsUncovered (read ++ rest) quiet.frames i
    free_there i ge lt f within (n, good, above, inside) =
        let later = rest_reads in
        let ends = c.ends in
        elim (Contains-append_cases c.frames later.0 f (rw later.1 at within)) [
          | inr c' ↦ absurd (omega (arith, Rises-above c.stop later.0 (from_reads (now ++ back) later.2).rises f c'))
          | inl c' ↦ (let here_good = ((c.reading.delivered f (All-contains (λ g. g < c.stop) c.frames f c.reading.below c')).0 c').0 in
              let same : verdict (read ++ rest) f ≡ Good here_good.0 = subst (λ b. verdict b f ≡ Good here_good.0) joined (verdict-append now back f (good_not_open here_good.1) ∙ here_good.1) in
              let e : n ≡ here_good.0 = cc in
              c.uncovered i ge lt f c' (here_good.0, here_good.1, above, omega arith))
        ]

    no_crowd_at : ⊥
    no_crowd_at = quiet.few k (λ i ge lt. (bad_there i ge lt, free_there i ge lt))

  pub none_crowded : (cuts : List ℕ) (k : ℕ) → HasCrowd read cuts k → ⊥
  none_crowded cuts k (b, e, between, c) =
      no_crowd_at (take b read) (take e read) (drop e read ++ rest)
      (sym (append_assoc (take e read) (drop e read) rest) ∙ ap (λ front. front ++ rest) (take-append-drop e read)) k c

  pub taken_of_these : (cuts : List ℕ) (before : List SlavePdu) (message : SlavePdu) → IsTakenNext read cuts before message → (later : List SlavePdu) × (messages ≡ (before ++ message ∷ []) ++ later)
  taken_of_these cuts before message t =
      let r = reading read 0 (omega arith) in
      let l : IsLeftmost read r.0 r.1 = leftmost_from_reads read r.2 in
      let around = frames_around read r.0 r.1 t.offset l (t.within r.0 r.1 l) in
      let more = more_frames r.0 r.1 l in
      let g = frame_at (read ++ rest) in
      let first : map g r.0 ≡ (before ++ message ∷ []) ++ map (frame_at read) around.0 =
      frames_same read rest r.0 r.1 l ∙ ap (map (frame_at read)) around.1
      ∙ map-append (frame_at read) (frames_below t.offset r.0) (t.offset ∷ around.0)
      ∙ ap (λ xs. xs ++ frame_at read t.offset ∷ map (frame_at read) around.0) (sym (t.earlier r.0 r.1 l))
      ∙ ap (λ m. before ++ m ∷ map (frame_at read) around.0) t.is
      ∙ sym (append_assoc before (message ∷ []) (map (frame_at read) around.0)) in (
        map (frame_at read) around.0 ++ map g more.0,
        quiet.are ∙ ap (map g) more.1 ∙ map-append g r.0 more.0 ∙ ap (λ xs. xs ++ map g more.0) first
            ∙ append_assoc (before ++ message ∷ []) (map (frame_at read) around.0) (map g more.0),
      )

-- once all is read, nothing is held
pub none_held : (read cuts left : List ℕ) (messages before : List SlavePdu) → IsQuietLine read messages → IsUsedUp read cuts left before → left ≡ []
none_held read cuts left messages before quiet u =
    let stop : length read ≡ u.stop = (reads_same (reads_from_leftmost read quiet.reading) refl (reads_from_leftmost read u.reading)).1 in
    u.holds ∙ rw (← stop) (grind (arith, common_steps))
