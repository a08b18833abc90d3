-- What is read from left to right is the leftmost reading, and the leftmost reading is what is read so.
use Rattle.std.proofs.Common.{◌≡◌, ◌≢◌, ◌⊎◌, inl, inr, ◌↔◌, ℕ, zero, suc, ◌+◌, ◌<◌, ◌≤◌, List, [], ◌∷◌, length, get_or, refl, ap, subst, arith, add-one}
use Rattle.std.specs.Prelude.{Contains}
use Rattle.std.specs.List.Sorted.{IsStrictlyIncreasing}
use Rattle.std.proofs.lemmas.List.Elements.{All-contains, All-from_get_or, Contains-get_or}
use Rattle.std.proofs.lemmas.Bool.{cases_lt}
use Rattle.std.proofs.lemmas.List.{drop_all}
use Rattle.modbus_rtu.specs.declared.verdict.Verdict.{Verdict}
use Rattle.modbus_rtu.specs.declared.verdict.Verdict.TheVariants.{Open, Bad, Good}
use Rattle.modbus_rtu.specs.Frame.{verdict}
use Rattle.modbus_rtu.specs.Leftmost.{IsGood, IsUncovered, IsLeftmost}
use Rattle.modbus_rtu.proofs.Verdicts.{verdict_of-nil}
use Rattle.modbus_rtu.proofs.Reading.{Reads}
use Rattle.modbus_rtu.proofs.Reading.Reads.{stops, skips, takes}
use Rattle.modbus_rtu.specs.Limits.{overhead}

pub here : (x : ℕ) (xs : List ℕ) → Contains (x ∷ xs) x
here x xs = (0, omega arith, refl)

pub there : (x y : ℕ) (xs : List ℕ) → Contains xs y → Contains (x ∷ xs) y
there x y xs (k, lt, e) = (suc k, omega arith, e)

pub front_or_later : (x y : ℕ) (xs : List ℕ) → Contains (x ∷ xs) y → (x ≡ y) ⊎ Contains xs y
front_or_later x y xs (zero, lt, e) = inl e
front_or_later x y xs (suc k, lt, e) = inr (k, omega arith, e)

pub none : (y : ℕ) → Contains [] y → ⊥
none y (k, lt, e) = omega arith

-- each is at or above i, and above the one before
abbrev pub Rises : ℕ → List ℕ → Type 0
Rises i [] = Unit {0}
Rises i (f ∷ fs) = (i ≤ f) × Rises (f + 1) fs

Rises-earlier : (i j : ℕ) (fs : List ℕ) → i ≤ j → Rises j fs → Rises i fs
Rises-earlier i j [] le r = tt
Rises-earlier i j (f ∷ fs) le r = (omega (arith, r.0), r.1)

pub Rises-above : (i : ℕ) (fs : List ℕ) → Rises i fs → (f : ℕ) → Contains fs f → i ≤ f
Rises-above i [] r f c = absurd (none f c)
Rises-above i (g ∷ fs) r f c = elim (front_or_later g f fs c) [
  | inl e ↦ omega (arith, r.0)
  | inr c' ↦ omega (arith, r.0, Rises-above (g + 1) fs r.1 f c')
]

Rises-later : (i j : ℕ) (fs : List ℕ) → Rises i fs → ((f : ℕ) → Contains fs f → j ≤ f) → Rises j fs
Rises-later i j [] r above = tt
Rises-later i j (f ∷ fs) r above = (above f (here f fs), r.1)

increasing_from_Rises : (i : ℕ) (fs : List ℕ) → Rises i fs → IsStrictlyIncreasing fs
increasing_from_Rises i [] r k lt = absurd (omega arith)
increasing_from_Rises i (f ∷ []) r k lt = absurd (omega arith)
increasing_from_Rises i (f ∷ g ∷ fs) r zero lt = omega (arith, r.1.0)
increasing_from_Rises i (f ∷ g ∷ fs) r (suc k) lt = simp add-one (simp add-one at (increasing_from_Rises (f + 1) (g ∷ fs) r.1 k (omega arith)))

increasing-tail : (f : ℕ) (fs : List ℕ) → IsStrictlyIncreasing (f ∷ fs) → IsStrictlyIncreasing fs
increasing-tail f fs up k lt = simp add-one (simp add-one at (up (suc k) (omega arith)))

later_above : (f : ℕ) (fs : List ℕ) → IsStrictlyIncreasing (f ∷ fs) → (g : ℕ) → Contains fs g → f + 1 ≤ g
later_above f [] up g c = absurd (none g c)
later_above f (h ∷ fs) up g c =
    let first : f < h = up 0 (omega arith) in
    elim (front_or_later h g fs c) [
      | inl e ↦ omega arith
      | inr c' ↦ omega (arith, later_above h fs (increasing-tail f (h ∷ fs) up) g c')
    ]

Rises-from_increasing : (i : ℕ) (fs : List ℕ) → IsStrictlyIncreasing fs → ((f : ℕ) → Contains fs f → i ≤ f) → Rises i fs
Rises-from_increasing i [] up above = tt
Rises-from_increasing i (f ∷ fs) up above =
    (above f (here f fs), Rises-from_increasing (f + 1) fs (increasing-tail f fs up) (later_above f fs up))

-- the leftmost reading from an offset that nothing covers
pub record From (bytes : List ℕ) (i : ℕ) (frames : List ℕ) (stop : ℕ) : Type 0 where
  pub rises : Rises i frames
  pub below : (f : ℕ) → Contains frames f → f < stop
  pub reach : i ≤ stop
  pub delivered : (j : ℕ) → i ≤ j → j < stop → Contains frames j ↔ (IsGood bytes j × IsUncovered bytes frames j)
  pub whole : IsUncovered bytes frames stop
  pub none_open : (j : ℕ) → i ≤ j → j < stop → IsUncovered bytes frames j → verdict bytes j ≢ Open
  pub ends : (stop ≡ length bytes) ⊎ ((stop < length bytes) × (verdict bytes stop ≡ Open))

module _ (bytes : List ℕ) where
  -- nothing above i covers an offset up to it
  uncovered_at : (i : ℕ) (frames : List ℕ) (j : ℕ) → j ≤ i → Rises i frames → IsUncovered bytes frames j
  uncovered_at i frames j le r f c (n, good, above, covered) = omega (arith, Rises-above i frames r f c)

  -- the first frame covers nothing from its end on
  uncovered_later : (i n : ℕ) (frames : List ℕ) (j : ℕ) → verdict bytes i ≡ Good n → i + (n + overhead) ≤ j → IsUncovered bytes frames j → IsUncovered bytes (i ∷ frames) j
  uncovered_later i n frames j good past un f c (m, good', above, covered) = elim (front_or_later i f frames c) [
    | inl e ↦ (let same : m ≡ n = cc in omega arith)
    | inr c' ↦ un f c' (m, good', above, covered)
  ]

  uncovered_rest : (i : ℕ) (frames : List ℕ) (j : ℕ) → IsUncovered bytes (i ∷ frames) j → IsUncovered bytes frames j
  uncovered_rest i frames j un f c = un f (there i f frames c)

  ends_open : (stop : ℕ) → stop ≤ length bytes → verdict bytes stop ≡ Open → (stop ≡ length bytes) ⊎ ((stop < length bytes) × (verdict bytes stop ≡ Open))
  ends_open stop le open' = elim (cases_lt stop (length bytes)) [ inl lt ↦ inr (lt, open') | inr ge ↦ inl (omega arith) ]

  -- an offset is the first, or lies in the first frame, or beyond it
  three_ways : (i n j : ℕ) → i ≤ j → (i ≡ j) ⊎ (((i < j) × (j < i + (n + overhead))) ⊎ (i + (n + overhead) ≤ j))
  three_ways i n j ge = grind arith

  delivered_bad : (i stop : ℕ) (frames : List ℕ) → verdict bytes i ≡ Bad → From bytes (i + 1) frames stop → (j : ℕ) → i ≤ j → j < stop → Contains frames j ↔ (IsGood bytes j × IsUncovered bytes frames j)
  delivered_bad i stop frames bad rest j ge lt = elim (cases_lt i j) [
    | inl gt ↦ rest.delivered j (omega arith) lt
    | inr le ↦ (let same : i ≡ j = omega arith in (
      λ c. absurd (omega (arith, Rises-above (i + 1) frames rest.rises j c)),
      λ (good, un). (let e : verdict bytes j ≡ Good good.0 = good.1 in cc),
    ))
  ]

  none_open_bad : (i stop : ℕ) (frames : List ℕ) → verdict bytes i ≡ Bad → From bytes (i + 1) frames stop → (j : ℕ) → i ≤ j → j < stop → IsUncovered bytes frames j → verdict bytes j ≢ Open
  none_open_bad i stop frames bad rest j ge lt un open' = elim (cases_lt i j) [
    | inl gt ↦ rest.none_open j (omega arith) lt un open'
    | inr le ↦ (let same : i ≡ j = omega arith in cc)
  ]

  delivered_good : (i n stop : ℕ) (frames : List ℕ) → verdict bytes i ≡ Good n → From bytes (i + (n + overhead)) frames stop → (j : ℕ) → i ≤ j → j < stop → Contains (i ∷ frames) j ↔ (IsGood bytes j × IsUncovered bytes (i ∷ frames) j)
  delivered_good i n stop frames good rest j ge lt = elim (three_ways i n j ge) [
    | inl same ↦ (
      λ c. ((n, rw (← same) good), uncovered_at i (i ∷ frames) j (omega arith) (omega arith, Rises-earlier (i + 1) (i + (n + overhead)) frames (omega arith) rest.rises)),
      λ both. subst (λ k. Contains (i ∷ frames) k) same (here i frames),
    )
    | inr (inl inside) ↦ (
      λ c. elim (front_or_later i j frames c) [
        | inl e ↦ absurd (omega arith)
        | inr c' ↦ absurd (omega (arith, Rises-above (i + (n + overhead)) frames rest.rises j c'))
      ],
      λ both. absurd (both.1 i (here i frames) (n, good, inside.0, inside.1)),
    )
    | inr (inr past) ↦ (
      λ c. elim (front_or_later i j frames c) [
        | inl e ↦ absurd (omega arith)
        | inr c' ↦ (let both = (rest.delivered j past lt).0 c' in (both.0, uncovered_later i n frames j good past both.1))
      ],
      λ both. there i j frames ((rest.delivered j past lt).1 (both.0, uncovered_rest i frames j both.1)),
    )
  ]

  none_open_good : (i n stop : ℕ) (frames : List ℕ) → verdict bytes i ≡ Good n → From bytes (i + (n + overhead)) frames stop → (j : ℕ) → i ≤ j → j < stop → IsUncovered bytes (i ∷ frames) j → verdict bytes j ≢ Open
  none_open_good i n stop frames good rest j ge lt un open' = elim (three_ways i n j ge) [
    | inl same ↦ cc
    | inr (inl inside) ↦ un i (here i frames) (n, good, inside.0, inside.1)
    | inr (inr past) ↦ rest.none_open j past lt (uncovered_rest i frames j un) open'
  ]

  below_good : (i n stop : ℕ) (frames : List ℕ) → From bytes (i + (n + overhead)) frames stop → (f : ℕ) → Contains (i ∷ frames) f → f < stop
  below_good i n stop frames rest f c = elim (front_or_later i f frames c) [
    | inl e ↦ omega (arith, rest.reach)
    | inr c' ↦ rest.below f c'
  ]

  -- what is read from left to right is the leftmost reading
  pub from_reads : {frames : List ℕ} {i stop : ℕ} → Reads bytes i frames stop → From bytes i frames stop
  from_reads (stops {i = i} le o) = record {
    rises = tt;
    below = λ f c. absurd (none f c);
    reach = omega arith;
    delivered = λ j ge lt. absurd (omega arith);
    whole = λ f c. absurd (none f c);
    none_open = λ j ge lt. absurd (omega arith);
    ends = ends_open i le o;
  }
  from_reads {frames} (skips {i = i} {stop = stop} b r) =
      let rest = from_reads r in
      record {
        rises = Rises-earlier i (i + 1) frames (omega arith) rest.rises;
        below = rest.below;
        reach = omega (arith, rest.reach);
        delivered = delivered_bad i stop frames b rest;
        whole = rest.whole;
        none_open = none_open_bad i stop frames b rest;
        ends = rest.ends;
      }
  from_reads (takes {i = i} {stop = stop} {frames = frames} n g r) =
      let rest = from_reads r in
      record {
        rises = (omega arith, Rises-earlier (i + 1) (i + (n + overhead)) frames (omega arith) rest.rises);
        below = below_good i n stop frames rest;
        reach = omega (arith, rest.reach);
        delivered = delivered_good i n stop frames g rest;
        whole = uncovered_later i n frames stop g rest.reach rest.whole;
        none_open = none_open_good i n stop frames g rest;
        ends = rest.ends;
      }

  -- the leftmost reading from an offset is what is read from there
  empty_at_end : (i stop : ℕ) (frames : List ℕ) → stop ≤ i → From bytes i frames stop → frames ≡ []
  empty_at_end i stop [] le from = refl
  empty_at_end i stop (f ∷ fs) le from = absurd (omega (arith, from.rises.0, from.below f (here f fs)))

  stop_is_open : {i stop : ℕ} {frames : List ℕ} → From bytes i frames stop → (stop ≤ length bytes) × (verdict bytes stop ≡ Open)
  stop_is_open {stop = stop} from = elim from.ends [
    | inl e ↦ (omega arith, rw (e, drop_all (length bytes) bytes (omega arith)) verdict_of-nil)
    | inr both ↦ (omega (arith, both.0), both.1)
  ]

  after_bad : (i stop : ℕ) (frames : List ℕ) → i < stop → verdict bytes i ≡ Bad → From bytes i frames stop → From bytes (i + 1) frames stop
  after_bad i stop frames lt bad from = record {
    rises = Rises-later i (i + 1) frames from.rises above;
    below = from.below;
    reach = omega arith;
    delivered = λ j ge. from.delivered j (omega arith);
    whole = from.whole;
    none_open = λ j ge. from.none_open j (omega arith);
    ends = from.ends;
  }
    where
      above : (f : ℕ) → Contains frames f → i + 1 ≤ f
      above f c = elim (cases_lt i f) [
        | inl gt ↦ omega arith
        | inr le ↦ (let same : i ≡ f = omega (arith, Rises-above i frames from.rises f c) in
            let good = ((from.delivered f (omega arith) (from.below f c)).0 c).0 in
            let e : verdict bytes f ≡ Good good.0 = good.1 in cc)
      ]

  after_good : (i n stop : ℕ) (frames : List ℕ) → i < stop → verdict bytes i ≡ Good n → From bytes i (i ∷ frames) stop → From bytes (i + (n + overhead)) frames stop
  after_good i n stop frames lt good from = record {
    rises = Rises-later (i + 1) (i + (n + overhead)) frames from.rises.1 above;
    below = λ f c. from.below f (there i f frames c);
    reach = reach;
    delivered = λ j ge lt'. (let both = from.delivered j (omega arith) lt' in (
      λ c. (let k = both.0 (there i j frames c) in (k.0, uncovered_rest i frames j k.1)),
      λ k. elim (front_or_later i j frames (both.1 (k.0, uncovered_later i n frames j good ge k.1))) [
        | inl e ↦ absurd (omega arith)
        | inr c ↦ c
      ],
    ));
    whole = uncovered_rest i frames stop from.whole;
    none_open = λ j ge lt' un. from.none_open j (omega arith) lt' (uncovered_later i n frames j good ge un);
    ends = from.ends;
  }
    where
      past : (j : ℕ) → i < j → IsUncovered bytes (i ∷ frames) j → i + (n + overhead) ≤ j
      past j gt un = elim (cases_lt j (i + (n + overhead))) [
        | inl inside ↦ absurd (un i (here i frames) (n, good, gt, inside))
        | inr ge ↦ ge
      ]

      reach : i + (n + overhead) ≤ stop
      reach = past stop lt from.whole

      above : (f : ℕ) → Contains frames f → i + (n + overhead) ≤ f
      above f c =
          let gt = Rises-above (i + 1) frames from.rises.1 f c in
          let c' = there i f frames c in
          past f (omega arith) ((from.delivered f (omega arith) (from.below f c')).0 c').1

  first_is : (i : ℕ) (frames : List ℕ) → Rises i frames → Contains frames i → (rest : List ℕ) × (frames ≡ i ∷ rest)
  first_is i [] r c = absurd (none i c)
  first_is i (f ∷ fs) r c = elim (front_or_later f i fs c) [
    | inl e ↦ (fs, ap (λ x. x ∷ fs) e)
    | inr c' ↦ absurd (omega (arith, r.0, Rises-above (f + 1) fs r.1 i c'))
  ]

  abbrev Further : ℕ → ℕ → Type 0
  Further i stop = (j : ℕ) (frames : List ℕ) → i < j → j ≤ stop → From bytes j frames stop → Reads bytes j frames stop

  reads_step : (i stop : ℕ) (frames : List ℕ) → Further i stop → From bytes i frames stop → Reads bytes i frames stop
  reads_step i stop frames further from = elim (cases_lt i stop) [
    | inl lt ↦ by_verdict lt (verdict bytes i) refl
    | inr ge ↦ (let same : i ≡ stop = omega (arith, from.reach) in
        let e = empty_at_end i stop frames ge from in
        let o = stop_is_open from in
        rw (e, ← same) (stops {i = i} (omega (arith, o.0)) (rw same o.1)))
  ]
    where
      un : IsUncovered bytes frames i
      un = uncovered_at i frames i (omega arith) from.rises

      by_verdict : i < stop → (v : Verdict) → verdict bytes i ≡ v → Reads bytes i frames stop
      by_verdict lt Open e = absurd (from.none_open i (omega arith) lt un e)
      by_verdict lt Bad e = skips e (further (i + 1) frames (omega arith) (omega arith) (after_bad i stop frames lt e from))
      by_verdict lt (Good n) e =
          let f = first_is i frames from.rises ((from.delivered i (omega arith) lt).1 ((n, e), un)) in
          let again : From bytes i (i ∷ f.0) stop = rw f.1 at from in
          let next = after_good i n stop f.0 lt e again in
          rw f.1 (takes n e (further (i + (n + overhead)) f.0 (omega arith) next.reach next))

  reads_by : (fuel i stop : ℕ) (frames : List ℕ) → stop ≤ i + fuel → From bytes i frames stop → Reads bytes i frames stop
  reads_by zero i stop frames enough from = reads_step i stop frames (λ j fs gt le from'. absurd (omega arith)) from
  reads_by (suc fuel) i stop frames enough from = reads_step i stop frames (λ j fs gt le from'. reads_by fuel j stop fs (omega arith) from') from

  pub reads_from : {i stop : ℕ} {frames : List ℕ} → From bytes i frames stop → Reads bytes i frames stop
  reads_from {i} {stop} {frames} from = reads_by stop i stop frames (omega arith) from

  pub leftmost_from_reads : {frames : List ℕ} {stop : ℕ} → Reads bytes 0 frames stop → IsLeftmost bytes frames stop
  leftmost_from_reads {frames} {stop} r =
      let from = from_reads r in
      record {
        rising = increasing_from_Rises 0 frames from.rises;
        below = All-from_get_or (λ f. f < stop) frames 0 (λ k lt. from.below (get_or frames k 0) (Contains-get_or frames k 0 lt));
        delivered = λ i lt. from.delivered i (omega arith) lt;
        whole = from.whole;
        none_open = λ i lt. from.none_open i (omega arith) lt;
        ends = from.ends;
      }

  pub reads_from_leftmost : {frames : List ℕ} {stop : ℕ} → IsLeftmost bytes frames stop → Reads bytes 0 frames stop
  reads_from_leftmost {frames} {stop} l = reads_from (record {
    rises = Rises-from_increasing 0 frames l.rising (λ f c. omega arith);
    below = λ f c. All-contains (λ f. f < stop) frames f l.below c;
    reach = omega arith;
    delivered = λ i ge lt. l.delivered i lt;
    whole = l.whole;
    none_open = λ i ge lt. l.none_open i lt;
    ends = l.ends;
  })
