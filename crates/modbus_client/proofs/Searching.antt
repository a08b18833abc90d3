-- One look at the held bytes after a read carries the search on.
use Rattle.std.proofs.Common.{◌≡◌, ◌≢◌, ◌⊎◌, inl, inr, ℕ, zero, suc, ◌+◌, ◌-◌, ◌<◌, ◌≤◌, List, [], ◌∷◌, ◌++◌, length, take, drop, refl, sym, ap, ◌∙◌, subst, arith, length-append, length-take}
use Rattle.std.specs.Prelude.{Contains, slice_index, replicate}
use Rattle.std.proofs.lemmas.Bool.{cases_lt}
use Rattle.std.proofs.lemmas.List.{take-append-le, drop-append-le, drop-drop, drop_all, take_all, get_or_append_left, get_or-append-add, get_or-replicate, length-replicate}
use Rattle.std.proofs.lemmas.List.Elements.{Contains-append_left, Contains-push, Contains-push_cases}
use Rattle.modbus_rtu.specs.declared.verdict.Verdict.{Verdict}
use Rattle.modbus_rtu.specs.declared.verdict.Verdict.TheVariants.{Open, Bad, Good}
use Rattle.modbus_rtu.specs.ResponseHead.{response_verdict}
use Rattle.modbus_rtu.specs.declared.search.Next.TheVariants.{Frame, Waiting, TooManyRetries}
use Rattle.modbus_rtu.specs.Next.{AreBadBy, IsNextBy}
use Rattle.modbus_client.specs.Search.{verdict_when_read, IsLookedAt, counts_from, Share, ArePassed, reply, crowd, waiting, SearchFinds}
use Rattle.modbus_client.specs.Rtu.{Waits}
use Rattle.modbus_link.specs.Reads.{last_cut, Rise, AreCuts}

-- a front that was read earlier stays
seen_again : (bytes more : List ℕ) (offset cut : ℕ) → cut ≤ length bytes → verdict_when_read (bytes ++ more) offset cut ≡ verdict_when_read bytes offset cut
seen_again bytes more offset cut le = ap (λ front. response_verdict (drop offset front)) (take-append-le cut bytes more le)

-- after the last read all bytes are there
seen_now : (bytes : List ℕ) (offset : ℕ) → verdict_when_read bytes offset (length bytes) ≡ response_verdict (drop offset bytes)
seen_now bytes offset = ap (λ front. response_verdict (drop offset front)) (take_all (length bytes) bytes (omega arith))

bad_decided : {v w : Verdict} → v ≡ w → w ≡ Bad → v ≢ Open
bad_decided e b o = cc

good_decided : {v w : Verdict} {n : ℕ} → v ≡ w → w ≡ Good n → v ≢ Open
good_decided e b o = cc

-- a byte stands where an offset isn't open
decided_within : response_verdict [] ≡ Open → (bytes : List ℕ) (offset : ℕ) → response_verdict (drop offset bytes) ≢ Open → offset < length bytes
decided_within nothing_open bytes offset ne = elim (cases_lt offset (length bytes)) [
  | inl lt ↦ lt
  | inr past ↦ absurd (ne (ap response_verdict (drop_all offset bytes past) ∙ nothing_open))
]

looked_within : response_verdict [] ≡ Open → (bytes cuts : List ℕ) (from offset cut : ℕ) → IsLookedAt bytes cuts from offset cut → offset < length bytes
looked_within nothing_open bytes cuts from offset cut look =
    omega (arith, decided_within nothing_open (take cut bytes) offset look.decided, length-take cut bytes)

-- The search waited at an offset, a read gave more bytes, and the first m offsets from there on are bad in all of them.
module _ (bytes cuts more looks : List ℕ) (bounds : (c : ℕ) → Contains cuts c → c ≤ length bytes) (some : 0 < length more)
    (passed : ArePassed bytes cuts looks)
    (waits : (c : ℕ) → Contains cuts c → counts_from looks (length looks) ≤ c → verdict_when_read bytes (length looks) c ≡ Open)
    (m : ℕ) (few : m < 20) (bad : (i : ℕ) → i < m → response_verdict (drop (length looks + i) (bytes ++ more)) ≡ Bad) where
  all : List ℕ
  all = bytes ++ more

  abbrev now : ℕ
  now = length (bytes ++ more)

  abbrev n : ℕ
  n = length looks

  abbrev cuts_now : List ℕ
  cuts_now = cuts ++ now ∷ []

  abbrev looks_now : List ℕ
  looks_now = looks ++ replicate m now

  longer : length bytes < now
  longer = omega (arith, length-append bytes more, some)

  looks_length : length looks_now ≡ n + m
  looks_length = omega (arith, length-append looks (replicate m now), length-replicate m now)

  earlier : (k : ℕ) → k < n → slice_index looks_now k ≡ slice_index looks k
  earlier k lt = get_or_append_left looks (replicate m now) 0 k lt

  later : (i : ℕ) → i < m → slice_index looks_now (n + i) ≡ now
  later i lt = get_or-append-add looks (replicate m now) i 0 ∙ get_or-replicate m i now 0 lt

  look_bound : (k : ℕ) → k < n → slice_index looks k ≤ length bytes
  look_bound k lt = bounds (slice_index looks k) (passed.looked k lt).is_cut

  from_same : (k : ℕ) → k ≤ n → counts_from looks_now k ≡ counts_from looks k
  from_same zero le = refl
  from_same (suc k) le = earlier k (omega arith)

  from_bound : (k : ℕ) → k ≤ n → counts_from looks k ≤ length bytes
  from_bound zero le = omega arith
  from_bound (suc k) le = look_bound k (omega arith)

  from_now : (k i : ℕ) → i < m → k ≡ n + i + 1 → counts_from looks_now k ≡ now
  from_now zero i lt e = absurd (omega (arith, e))
  from_now (suc k) i lt e = let same : k ≡ n + i = omega (arith, e) in ap (λ j. slice_index looks_now j) same ∙ later i lt

  -- an offset that was looked at earlier
  looked_again : (from k cut : ℕ) → IsLookedAt bytes cuts from k cut → IsLookedAt (bytes ++ more) cuts_now from k cut
  looked_again from k cut look =
      let within : cut ≤ length bytes = bounds cut look.is_cut in
      record {
        is_cut = Contains-append_left cuts (now ∷ []) cut look.is_cut;
        counts = look.counts;
        decided = λ o. look.decided (sym (seen_again bytes more k cut within) ∙ o);
        first = λ c is from' before. elim (Contains-push_cases cuts now c is) [
          | inl old ↦ seen_again bytes more k c (bounds c old) ∙ look.first c old from' before
          | inr e ↦ absurd (omega (arith, e, within, longer, before))
        ];
      }

  -- an offset that is looked at now
  looked_now : (from k : ℕ) → from ≤ now → response_verdict (drop k (bytes ++ more)) ≢ Open
      → ((c : ℕ) → Contains cuts c → from ≤ c → verdict_when_read (bytes ++ more) k c ≡ Open) → IsLookedAt (bytes ++ more) cuts_now from k now
  looked_now from k le ne open_before = record {
    is_cut = Contains-push cuts now;
    counts = le;
    decided = λ o. ne (sym (seen_now (bytes ++ more) k) ∙ o);
    first = λ c is from' before. elim (Contains-push_cases cuts now c is) [
      | inl old ↦ open_before c old from'
      | inr e ↦ absurd (omega (arith, e, before))
    ];
  }

  -- until now the next offsets were open
  open_before : (i : ℕ) → i ≤ m → (c : ℕ) → Contains cuts c → counts_from looks_now (n + i) ≤ c → verdict_when_read (bytes ++ more) (n + i) c ≡ Open
  open_before zero le c is from' =
      let same : n + 0 ≡ n = omega arith in
      let counts : counts_from looks n ≤ c = rw (from_same n (omega arith)) at (rw same at from') in
      rw same (seen_again bytes more n c (bounds c is) ∙ waits c is counts)
  open_before (suc i) le c is from' =
      let counts : now ≤ c = rw (from_now (n + suc i) i (omega arith) (omega arith)) at from' in
      absurd (omega (arith, counts, bounds c is, longer))

  from_le : (i : ℕ) → i ≤ m → counts_from looks_now (n + i) ≤ now
  from_le zero le =
      let same : n + 0 ≡ n = omega arith in
      rw (same, from_same n (omega arith)) (omega (arith, from_bound n (omega arith), longer))
  from_le (suc i) le = rw (from_now (n + suc i) i (omega arith) (omega arith)) (omega arith)

  next_looked : (i : ℕ) → i ≤ m → response_verdict (drop (n + i) (bytes ++ more)) ≢ Open → IsLookedAt (bytes ++ more) cuts_now (counts_from looks_now (n + i)) (n + i) now
  next_looked i le ne = looked_now (counts_from looks_now (n + i)) (n + i) (from_le i le) ne (open_before i le)

  split : (k : ℕ) → k < length looks_now → (k < n) ⊎ ((i : ℕ) × (i < m) × (n + i ≡ k))
  split k lt = elim (cases_lt k n) [
    | inl lt' ↦ inl lt'
    | inr ge ↦ inr (k - n, omega (arith, lt, ge, looks_length), omega (arith, ge))
  ]

  abbrev LooksRight : ℕ → Type 0
  LooksRight k = IsLookedAt (bytes ++ more) cuts_now (counts_from looks_now k) k (slice_index looks_now k)

  abbrev IsBadAt : ℕ → Type 0
  IsBadAt k = verdict_when_read (bytes ++ more) k (slice_index looks_now k) ≡ Bad

  looked : (k : ℕ) → k < length looks_now → LooksRight k
  looked k lt = elim (split k lt) [
    | inl old ↦ rw (from_same k (omega (arith, old)), earlier k old) (looked_again (counts_from looks k) k (slice_index looks k) (passed.looked k old))
    | inr (i, few', e) ↦ subst LooksRight e (rw (later i few') (next_looked i (omega (arith, few')) (bad_decided refl (bad i few'))))
  ]

  all_bad : (k : ℕ) → k < length looks_now → IsBadAt k
  all_bad k lt = elim (split k lt) [
    | inl old ↦ rw (earlier k old) (seen_again bytes more k (slice_index looks k) (look_bound k old) ∙ passed.bad k old)
    | inr (i, few', e) ↦ subst IsBadAt e (rw (later i few') (seen_now (bytes ++ more) (n + i) ∙ bad i few'))
  ]

  -- a look that shares its cut with one of now is of now
  shares_now : (k cut : ℕ) → k + 20 ≤ length looks_now → n < k + 20 → Share looks_now k 20 cut → ⊥
  shares_now k cut le new share =
      let last : (k + 19 < n) ⊎ ((i : ℕ) × (i < m) × (n + i ≡ k + 19)) = split (k + 19) (omega (arith, le)) in
      elim last [
        | inl old ↦ absurd (omega (arith, old, new))
        | inr (i, few', e) ↦ (
            let is_now : cut ≡ now = sym (share 19 (omega arith)) ∙ ap (λ j. slice_index looks_now j) (sym e) ∙ later i few' in
            elim (split k (omega (arith, le))) [
              | inl old ↦ (
                  let zero' : k + 0 ≡ k = omega arith in
                  let first : slice_index looks k ≡ cut = sym (earlier k old) ∙ ap (λ j. slice_index looks_now j) (sym zero') ∙ share 0 (omega arith) in
                  absurd (omega (arith, first, is_now, look_bound k old, longer)))
              | inr (j, few'', e') ↦ absurd (omega (arith, e, e', few, few'))
            ])
      ]

  calm : (k cut : ℕ) → k + 20 ≤ length looks_now → Share looks_now k 20 cut → ⊥
  calm k cut le share = elim (cases_lt n (k + 20)) [
    | inl new ↦ shares_now k cut le new share
    | inr old ↦ passed.calm k cut old (λ i lt. sym (earlier (k + i) (omega (arith, old, lt))) ∙ share i lt)
  ]

  pub passed_more : ArePassed (bytes ++ more) cuts_now looks_now
  passed_more = record { looked = looked; bad = all_bad; calm = calm }

  -- how the next offset stands
  pub found_more : (len : ℕ) → response_verdict (drop (n + m) (bytes ++ more)) ≡ Good len → SearchFinds (bytes ++ more) cuts_now (reply (n + m) len)
  found_more len good =
      (looks_now, passed_more, (sym looks_length, now, next_looked m (omega arith) (good_decided refl good), seen_now (bytes ++ more) (n + m) ∙ good))

  pub crowd_more : m ≡ 19 → response_verdict (drop (n + m) (bytes ++ more)) ≡ Bad → SearchFinds (bytes ++ more) cuts_now (crowd (n + m))
  crowd_more full bad' = (
    looks_now,
    passed_more,
    (
      sym looks_length,
      now,
      next_looked m (omega arith) (bad_decided refl bad'),
      seen_now (bytes ++ more) (n + m) ∙ bad',
      n,
      omega (arith, full),
      λ i lt. later i (omega (arith, full, lt)),
    ),
  )

  pub waits_more : response_verdict (drop (n + m) (bytes ++ more)) ≡ Open → SearchFinds (bytes ++ more) cuts_now (waiting (n + m))
  waits_more open' = (
    looks_now,
    passed_more,
    (
      sym looks_length,
      λ c is from'. elim (Contains-push_cases cuts now c is) [
        | inl old ↦ open_before m (omega arith) c old from'
        | inr e ↦ rw (sym e) (seen_now (bytes ++ more) (n + m) ∙ open')
      ],
    ),
  )

-- Of all the cuts none lies past the bytes.
cut_bound : (total : ℕ) (cuts : List ℕ) → Rise total cuts → (c : ℕ) → Contains cuts c → (total < c) × (c ≤ last_cut total cuts)
cut_bound total [] up c (k, lt, e) = absurd (omega (arith, lt))
cut_bound total (first ∷ cuts) up c (zero, lt, e) = (omega (arith, up.0, e), omega (arith, e, last_above first cuts up.1))
  where
    last_above : (total : ℕ) (cuts : List ℕ) → Rise total cuts → total ≤ last_cut total cuts
    last_above total [] up = omega arith
    last_above total (c ∷ cuts) up = omega (arith, up.0, last_above c cuts up.1)
cut_bound total (first ∷ cuts) up c (suc k, lt, e) =
    let rest = cut_bound first cuts up.1 c (k, omega (arith, lt), e) in (omega (arith, up.0, rest.0), rest.1)

last_cut-push : (total : ℕ) (cuts : List ℕ) (x : ℕ) → last_cut total (cuts ++ x ∷ []) ≡ x
last_cut-push total [] x = refl
last_cut-push total (c ∷ cuts) x = last_cut-push c cuts x

Rise-push : (total : ℕ) (cuts : List ℕ) (x : ℕ) → Rise total cuts → last_cut total cuts < x → Rise total (cuts ++ x ∷ [])
Rise-push total [] x up lt = (lt, tt)
Rise-push total (c ∷ cuts) x up lt = (up.0, Rise-push c cuts x up.1 lt)

pub cuts_within : (bytes cuts : List ℕ) → AreCuts bytes cuts → (c : ℕ) → Contains cuts c → c ≤ length bytes
cuts_within bytes cuts are c is = omega (arith, cut_bound 0 cuts are.rise c is, are.all)

pub cuts_more : (bytes cuts more : List ℕ) → AreCuts bytes cuts → 0 < length more → AreCuts (bytes ++ more) (cuts ++ length (bytes ++ more) ∷ [])
cuts_more bytes cuts more are some = record {
  rise = Rise-push 0 cuts (length (bytes ++ more)) are.rise (omega (arith, are.all, length-append bytes more, some));
  all = last_cut-push 0 cuts (length (bytes ++ more));
}

-- with no byte the search waits at offset 0
pub waits_at_first : Waits [] [] []
waits_at_first = record {
  are_cuts = record { rise = tt; all = refl };
  place = 0;
  finds = (
    [],
    record { looked = λ k lt. absurd (omega arith); bad = λ k lt. absurd (omega arith); calm = λ k cut le share. absurd (omega arith) },
    (refl, λ cut is from. absurd (omega (arith, is.1))),
  );
  holds = refl;
}

-- the offset at which the search waits lies within
place_within : response_verdict [] ≡ Open → (bytes cuts : List ℕ) (place : ℕ) → SearchFinds bytes cuts (waiting place) → place ≤ length bytes
place_within nothing_open bytes cuts zero finds = omega arith
place_within nothing_open bytes cuts (suc k) (looks, passed, found) =
    omega (arith, looked_within nothing_open bytes cuts (counts_from looks k) k (slice_index looks k) (passed.looked k (omega (arith, found.0))))

pub place_is : response_verdict [] ≡ Open → (bytes cuts held : List ℕ) (s : Waits bytes cuts held) (more : List ℕ) → held ++ more ≡ drop s.place (bytes ++ more)
place_is nothing_open bytes cuts held s more =
    ap (λ h. h ++ more) s.holds ∙ sym (drop-append-le s.place bytes more (place_within nothing_open bytes cuts s.place s.finds))

-- what is held counts from the offset at which the search waits
held_from : (held more bytes : List ℕ) (place k : ℕ) → held ++ more ≡ drop place (bytes ++ more) → drop k (held ++ more) ≡ drop (place + k) (bytes ++ more)
held_from held more bytes place k e = ap (λ h. drop k h) e ∙ drop-drop k place (bytes ++ more)

-- The search waits, more bytes come, and the held bytes are looked at.
module _ (nothing_open : response_verdict [] ≡ Open) (bytes cuts held : List ℕ) (s : Waits bytes cuts held) (more : List ℕ) (some : 0 < length more) where
  -- the offset is the number of those that were passed
  at : s.place ≡ length s.finds.0
  at = s.finds.2.0

  from_place : (k : ℕ) → drop k (held ++ more) ≡ drop (length s.finds.0 + k) (bytes ++ more)
  from_place k = held_from held more bytes s.place k (place_is nothing_open bytes cuts held s more) ∙ ap (λ n. drop (n + k) (bytes ++ more)) at

  waits_at : (c : ℕ) → Contains cuts c → counts_from s.finds.0 (length s.finds.0) ≤ c → verdict_when_read bytes (length s.finds.0) c ≡ Open
  waits_at c is from = subst (λ n. verdict_when_read bytes n c ≡ Open) at (s.finds.2.1 c is (subst (λ n. counts_from s.finds.0 n ≤ c) (sym at) from))

  bad_from : (m : ℕ) → AreBadBy response_verdict (held ++ more) m → (i : ℕ) → i < m → response_verdict (drop (length s.finds.0 + i) (bytes ++ more)) ≡ Bad
  bad_from m bad i lt = ap response_verdict (sym (from_place i)) ∙ bad i lt

  -- a frame is the reply
  pub frame_found : (start len : ℕ) → IsNextBy response_verdict (held ++ more) (Frame start len)
      → SearchFinds (bytes ++ more) (cuts ++ length (bytes ++ more) ∷ []) (reply (s.place + start) len)
  frame_found start len (few, bad, good) =
      subst (λ n. SearchFinds (bytes ++ more) (cuts ++ length (bytes ++ more) ∷ []) (reply (n + start) len)) (sym at)
      (found_more bytes cuts more s.finds.0 (cuts_within bytes cuts s.are_cuts) some s.finds.1 waits_at start few (bad_from start bad) len
      (ap response_verdict (sym (from_place start)) ∙ good))

  -- twenty bad offsets are a crowd
  pub crowd_found : IsNextBy response_verdict (held ++ more) TooManyRetries
      → SearchFinds (bytes ++ more) (cuts ++ length (bytes ++ more) ∷ []) (crowd (s.place + 19))
  crowd_found bad =
      subst (λ n. SearchFinds (bytes ++ more) (cuts ++ length (bytes ++ more) ∷ []) (crowd (n + 19))) (sym at)
      (crowd_more bytes cuts more s.finds.0 (cuts_within bytes cuts s.are_cuts) some s.finds.1 waits_at 19 (omega arith)
      (λ i lt. bad_from 20 bad i (omega (arith, lt))) refl (bad_from 20 bad 19 (omega arith)))

  -- else it waits on
  pub waits_on : (dropped : ℕ) → IsNextBy response_verdict (held ++ more) (Waiting dropped)
      → Waits (bytes ++ more) (cuts ++ length (bytes ++ more) ∷ []) (drop dropped (held ++ more))
  waits_on dropped (few, bad, open') = record {
    are_cuts = cuts_more bytes cuts more s.are_cuts some;
    place = s.place + dropped;
    finds = subst (λ n. SearchFinds (bytes ++ more) (cuts ++ length (bytes ++ more) ∷ []) (waiting (n + dropped))) (sym at)
        (waits_more bytes cuts more s.finds.0 (cuts_within bytes cuts s.are_cuts) some s.finds.1 waits_at dropped few (bad_from dropped bad)
        (ap response_verdict (sym (from_place dropped)) ∙ open'));
    holds = held_from held more bytes s.place dropped (place_is nothing_open bytes cuts held s more);
  }

  pub rest_from : (k : ℕ) → drop k (held ++ more) ≡ drop (s.place + k) (bytes ++ more)
  rest_from k = held_from held more bytes s.place k (place_is nothing_open bytes cuts held s more)
