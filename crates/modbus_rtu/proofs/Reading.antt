-- The leftmost reading, found from left to right.
use Rattle.std.proofs.Common.{◌≡◌, ℕ, zero, suc, ◌+◌, ◌<◌, ◌≤◌, List, [], ◌∷◌, ◌++◌, map, length, drop, refl, sym, ap, ◌∙◌, arith, length-drop}
use Rattle.modbus_rtu.specs.declared.verdict.Verdict.{Verdict}
use Rattle.modbus_rtu.specs.declared.verdict.Verdict.TheVariants.{Open, Bad, Good}
use Rattle.modbus_rtu.specs.Frame.{verdict}
use Rattle.modbus_rtu.proofs.Verdicts.{verdict-append, verdict-drop, judged_within, good_within, bad_not_open, good_not_open}
use Rattle.modbus_rtu.specs.Limits.{overhead}

-- from an offset that nothing covers, the frames and the stop
pub data Reads (bytes : List ℕ) : ℕ → List ℕ → ℕ → Type 0 where
  stops : {i : ℕ} → i ≤ length bytes → verdict bytes i ≡ Open → Reads bytes i [] i
  skips : {i stop : ℕ} {frames : List ℕ} → verdict bytes i ≡ Bad → Reads bytes (i + 1) frames stop → Reads bytes i frames stop
  takes : {i stop : ℕ} {frames : List ℕ} (n : ℕ) → verdict bytes i ≡ Good n → Reads bytes (i + (n + overhead)) frames stop → Reads bytes i (i ∷ frames) stop

abbrev pub Reading : List ℕ → ℕ → Type 0
Reading bytes i = (frames : List ℕ) × (stop : ℕ) × Reads bytes i frames stop

reading_step : (bytes : List ℕ) (i : ℕ) → i ≤ length bytes → ((j : ℕ) → i < j → j ≤ length bytes → Reading bytes j) → Reading bytes i
reading_step bytes i le next = by_verdict (verdict bytes i) refl
  where
    by_verdict : (v : Verdict) → verdict bytes i ≡ v → Reading bytes i
    by_verdict Open e = ([], i, stops le e)
    by_verdict Bad e =
        let lt : i < length bytes = judged_within bytes i (bad_not_open e) in
        let r = next (i + 1) (omega arith) (omega arith) in (r.0, r.1, skips e r.2)
    by_verdict (Good n) e =
        let fits : i + (n + overhead) ≤ length bytes = good_within bytes i n e in
        let r = next (i + (n + overhead)) (omega arith) fits in (i ∷ r.0, r.1, takes n e r.2)

reading_by : (fuel : ℕ) (bytes : List ℕ) (i : ℕ) → i ≤ length bytes → length bytes ≤ i + fuel → Reading bytes i
reading_by zero bytes i le enough = reading_step bytes i le (λ j lt le'. absurd (omega arith))
reading_by (suc fuel) bytes i le enough = reading_step bytes i le (λ j lt le'. reading_by fuel bytes j le' (omega arith))

-- there is one
pub reading : (bytes : List ℕ) (i : ℕ) → i ≤ length bytes → Reading bytes i
reading bytes i le = reading_by (length bytes) bytes i le (omega arith)

-- and no other
pub reads_same : {bytes frames others : List ℕ} {i j stop stop' : ℕ} → Reads bytes i frames stop → i ≡ j → Reads bytes j others stop' → (frames ≡ others) × (stop ≡ stop')
reads_same (stops le o) e (stops le' o') = (refl, e)
reads_same (stops le o) e (skips b r) = cc
reads_same (stops le o) e (takes n g r) = cc
reads_same (skips b r) e (stops le o) = cc
reads_same (skips b r) e (skips b' r') = reads_same r (ap (λ k. k + 1) e) r'
reads_same (skips b r) e (takes n g r') = cc
reads_same (takes n g r) e (stops le o) = cc
reads_same (takes n g r) e (skips b r') = cc
reads_same {bytes} (takes n g r) e (takes m g' r') =
    let same : n ≡ m = cc in
    let rest = reads_same r (omega arith) r' in
    (cc (rest.0), rest.1)

-- the stop lies within, at or above the start, and is open
pub stop_within : {bytes frames : List ℕ} {i stop : ℕ} → Reads bytes i frames stop → stop ≤ length bytes
stop_within (stops le o) = le
stop_within (skips b r) = stop_within r
stop_within (takes n g r) = stop_within r

pub stop_above : {bytes frames : List ℕ} {i stop : ℕ} → Reads bytes i frames stop → i ≤ stop
stop_above (stops le o) = omega arith
stop_above (skips b r) = let h = stop_above r in omega arith
stop_above (takes n g r) = let h = stop_above r in omega arith

pub stop_open : {bytes frames : List ℕ} {i stop : ℕ} → Reads bytes i frames stop → verdict bytes stop ≡ Open
stop_open (stops le o) = o
stop_open (skips b r) = stop_open r
stop_open (takes n g r) = stop_open r

-- With more bytes the reading goes on from the stop.
pub reads-append : {bytes frames more_frames : List ℕ} {i stop stop' : ℕ} (more : List ℕ) → Reads bytes i frames stop → Reads (bytes ++ more) stop more_frames stop' → Reads (bytes ++ more) i (frames ++ more_frames) stop'
reads-append more (stops le o) rest = rest
reads-append {bytes} {i = i} more (skips b r) rest = skips (verdict-append bytes more i (bad_not_open b) ∙ b) (reads-append more r rest)
reads-append {bytes} {i = i} more (takes n g r) rest = takes n (verdict-append bytes more i (good_not_open g) ∙ g) (reads-append more r rest)

-- A reading of what is left is a reading of the whole, with its offsets moved.
pub reads-shift : (bytes : List ℕ) (start : ℕ) → start ≤ length bytes → {frames : List ℕ} {i stop : ℕ} → Reads (drop start bytes) i frames stop → (j : ℕ) → j ≡ start + i → Reads bytes j (map (λ f. start + f) frames) (start + stop)
reads-shift bytes start within {i = i} (stops le o) j e =
    rw e (stops {i = start + i} (omega (arith, length-drop start bytes, le)) (sym (verdict-drop bytes start i) ∙ o))
reads-shift bytes start within {i = i} (skips b r) j e =
    rw e (skips (sym (verdict-drop bytes start i) ∙ b) (reads-shift bytes start within r (start + i + 1) (omega arith)))
reads-shift bytes start within {i = i} (takes n g r) j e =
    rw e (takes n (sym (verdict-drop bytes start i) ∙ g) (reads-shift bytes start within r (start + i + (n + overhead)) (omega arith)))
