-- A search stands in one way.
use Rattle.std.proofs.Common.{◌≡◌, inl, inr, ℕ, zero, suc, ◌+◌, ◌<◌, ◌≤◌, List, length, refl, sym, ap, ◌∙◌, subst, arith}
use Rattle.std.specs.Prelude.{Contains, slice_index}
use Rattle.std.proofs.lemmas.Bool.{cases_lt}
use Rattle.modbus_rtu.specs.declared.verdict.Verdict.{Verdict}
use Rattle.modbus_rtu.specs.declared.verdict.Verdict.TheVariants.{Open, Bad, Good}
use Rattle.modbus_client.specs.Search.{verdict_when_read, IsLookedAt, counts_from, Share, ArePassed, SearchState, reply, crowd, waiting, IsFoundAfter, SearchFinds}

module _ (bytes cuts : List ℕ) where
  -- an offset is looked at in one cut
  same_cut : (from k c d : ℕ) → IsLookedAt bytes cuts from k c → IsLookedAt bytes cuts from k d → c ≡ d
  same_cut from k c d l l' = elim (cases_lt c d) [
    | inl lt ↦ absurd (l.decided (l'.first c l.is_cut l.counts lt))
    | inr ge ↦ elim (cases_lt d c) [
      | inl lt ↦ absurd (l'.decided (l.first d l'.is_cut l'.counts lt))
      | inr ge' ↦ omega (arith, ge, ge')
    ]
  ]

  module _ (xs ys : List ℕ) (p : ArePassed bytes cuts xs) (q : ArePassed bytes cuts ys) where
    same_looks : (k : ℕ) → k < length xs → k < length ys → slice_index xs k ≡ slice_index ys k
    same_looks zero lt lt' = same_cut 0 0 (slice_index xs 0) (slice_index ys 0) (p.looked 0 lt) (q.looked 0 lt')
    same_looks (suc k) lt lt' =
        let e : slice_index xs k ≡ slice_index ys k = same_looks k (omega (arith, lt)) (omega (arith, lt')) in
        let l : IsLookedAt bytes cuts (slice_index ys k) (suc k) (slice_index xs (suc k)) =
        subst (λ from. IsLookedAt bytes cuts from (suc k) (slice_index xs (suc k))) e (p.looked (suc k) lt) in
        same_cut (slice_index ys k) (suc k) (slice_index xs (suc k)) (slice_index ys (suc k)) l (q.looked (suc k) lt')

    same_from : (k : ℕ) → k ≤ length xs → k ≤ length ys → counts_from xs k ≡ counts_from ys k
    same_from zero le le' = refl
    same_from (suc k) le le' = same_looks k (omega (arith, le)) (omega (arith, le'))

    module _ (shorter : length xs < length ys) where
      look : (offset : ℕ) → offset ≡ length xs → IsLookedAt bytes cuts (counts_from xs offset) offset (slice_index ys offset)
      look offset e =
          subst (λ from. IsLookedAt bytes cuts from offset (slice_index ys offset)) (sym (same_from offset (omega (arith, e)) (omega (arith, e, shorter))))
          (q.looked offset (omega (arith, e, shorter)))

      bad_at : (offset : ℕ) → offset ≡ length xs → verdict_when_read bytes offset (slice_index ys offset) ≡ Bad
      bad_at offset e = q.bad offset (omega (arith, e, shorter))

      shares : (first cut i : ℕ) → first + 19 ≡ length xs → Share xs first 19 cut → slice_index ys (first + 19) ≡ cut → i < 20 → slice_index ys (first + i) ≡ cut
      shares first cut i e share last lt = elim (cases_lt i 19) [
        | inl lt' ↦ sym (same_looks (first + i) (omega (arith, e, lt')) (omega (arith, e, lt', shorter))) ∙ share i lt'
        | inr ge ↦ (let is : i ≡ 19 = omega (arith, ge, lt) in subst (λ j. slice_index ys (first + j) ≡ cut) (sym is) last)
      ]

      not_shorter : (f : SearchState) → IsFoundAfter bytes cuts xs f → ⊥
      not_shorter (reply offset len) (e, cut, l, good) =
          let same : cut ≡ slice_index ys offset = same_cut (counts_from xs offset) offset cut (slice_index ys offset) l (look offset e) in
          let bad = bad_at offset e in
          cc (ap (λ c. verdict_when_read bytes offset c) same, good, bad)
      not_shorter (crowd offset) (e, cut, l, bad, first, is, share) =
          let same : cut ≡ slice_index ys offset = same_cut (counts_from xs offset) offset cut (slice_index ys offset) l (look offset e) in
          let last : slice_index ys (first + 19) ≡ cut = ap (λ k. slice_index ys k) is ∙ sym same in
          q.calm first cut (omega (arith, e, is, shorter)) (λ i lt. shares first cut i (is ∙ e) share last lt)
      not_shorter (waiting offset) (e, waits) =
          let l = look offset e in l.decided (waits (slice_index ys offset) l.is_cut l.counts)

    -- with as many passed, the next offset stands in one way
    module _ (equal : length xs ≡ length ys) where
      moved : (offset other : ℕ) → offset ≡ length xs → other ≡ length ys → (cut : ℕ) → IsLookedAt bytes cuts (counts_from ys other) other cut → IsLookedAt bytes cuts (counts_from xs offset) offset cut
      moved offset other e e' cut l =
          let same : other ≡ offset = e' ∙ sym equal ∙ sym e in
          let l' : IsLookedAt bytes cuts (counts_from ys offset) offset cut = subst (λ k. IsLookedAt bytes cuts (counts_from ys k) k cut) same l in
          subst (λ from. IsLookedAt bytes cuts from offset cut) (sym (same_from offset (omega (arith, e)) (omega (arith, e, equal)))) l'

      same_seen : (offset other : ℕ) → offset ≡ length xs → other ≡ length ys → (c d : ℕ) → IsLookedAt bytes cuts (counts_from xs offset) offset c
          → IsLookedAt bytes cuts (counts_from ys other) other d → verdict_when_read bytes offset c ≡ verdict_when_read bytes other d
      same_seen offset other e e' c d l l' =
          let same : c ≡ d = same_cut (counts_from xs offset) offset c d l (moved offset other e e' d l') in
          let at : offset ≡ other = e ∙ equal ∙ sym e' in
          ap (λ k. verdict_when_read bytes offset k) same ∙ ap (λ k. verdict_when_read bytes k d) at

      not_waiting : (offset other : ℕ) → offset ≡ length xs → other ≡ length ys → (d : ℕ) → IsLookedAt bytes cuts (counts_from ys other) other d
          → ((cut : ℕ) → Contains cuts cut → counts_from xs offset ≤ cut → verdict_when_read bytes offset cut ≡ Open) → ⊥
      not_waiting offset other e e' d l waits = let l' = moved offset other e e' d l in l'.decided (waits d l'.is_cut l'.counts)

  same_reply : (offset other n m : ℕ) → offset ≡ other → n ≡ m → reply offset n ≡ reply other m
  same_reply offset other n m e e' = ap (λ k. reply k n) e ∙ ap (λ k. reply other k) e'

  good_same : {v w : Verdict} {n m : ℕ} → v ≡ w → v ≡ Good n → w ≡ Good m → n ≡ m
  good_same e g h = cc (e, g, h)

  good_bad : {v w : Verdict} {n : ℕ} → v ≡ w → v ≡ Good n → w ≡ Bad → ⊥
  good_bad e g h = cc (e, g, h)

  same_found : (xs ys : List ℕ) (p : ArePassed bytes cuts xs) (q : ArePassed bytes cuts ys) → length xs ≡ length ys → (f g : SearchState)
      → IsFoundAfter bytes cuts xs f → IsFoundAfter bytes cuts ys g → f ≡ g
  same_found xs ys p q equal (reply offset n) (reply other m) (e, c, l, good) (e', d, l', good') =
      same_reply offset other n m (e ∙ equal ∙ sym e') (good_same (same_seen xs ys p q equal offset other e e' c d l l') good good')
  same_found xs ys p q equal (reply offset n) (crowd other) (e, c, l, good) (e', d, l', bad, first, is, share) =
      absurd (good_bad (same_seen xs ys p q equal offset other e e' c d l l') good bad)
  same_found xs ys p q equal (reply offset n) (waiting other) (e, c, l, good) (e', waits) = absurd (not_waiting ys xs q p (sym equal) other offset e' e c l waits)
  same_found xs ys p q equal (crowd offset) (reply other m) (e, c, l, bad, first, is, share) (e', d, l', good') =
      absurd (good_bad (sym (same_seen xs ys p q equal offset other e e' c d l l')) good' bad)
  same_found xs ys p q equal (crowd offset) (crowd other) f g = ap crowd (f.0 ∙ equal ∙ sym g.0)
  same_found xs ys p q equal (crowd offset) (waiting other) (e, c, l, bad, first, is, share) (e', waits) = absurd (not_waiting ys xs q p (sym equal) other offset e' e c l waits)
  same_found xs ys p q equal (waiting offset) (reply other m) (e, waits) (e', d, l', good') = absurd (not_waiting xs ys p q equal offset other e e' d l' waits)
  same_found xs ys p q equal (waiting offset) (crowd other) (e, waits) (e', d, l', bad, first, is, share) = absurd (not_waiting xs ys p q equal offset other e e' d l' waits)
  same_found xs ys p q equal (waiting offset) (waiting other) (e, waits) (e', waits') = ap waiting (e ∙ equal ∙ sym e')

  pub one_search : (f g : SearchState) → SearchFinds bytes cuts f → SearchFinds bytes cuts g → f ≡ g
  one_search f g (xs, p, found) (ys, q, found') = elim (cases_lt (length xs) (length ys)) [
    | inl lt ↦ absurd (not_shorter xs ys p q lt f found)
    | inr ge ↦ elim (cases_lt (length ys) (length xs)) [
      | inl lt ↦ absurd (not_shorter ys xs q p lt g found')
      | inr ge' ↦ same_found xs ys p q (omega (arith, ge, ge')) f g found found'
    ]
  ]
