-- Splits, joins and the load of the count of numbers keep the rule.
use Rattle.std.proofs.Common.{◌≡◌, ◌≢◌, ℕ, ◌<◌, ◌≤◌, inl, inr, List, [], ◌∷◌, ◌++◌, length, get_or, set, sym, refl, ap, ◌∙◌, subst, ⊎_elim, arith, cond, nat_lt, Bool, true, false, Option, Some, None}
use mathlib.Core.Option as core
use lib.ListN.{get_elem?}
use lib.Seq.{set-get_or}
use Rattle.atomic_table.specs.Table.{step, keeps, Allows, Splits, Joins}
use Rattle.atomic_table.proofs.Lists.{at_set, at_snoc, at_longer, set_again}
use Rattle.modbus_store.specs.Legal.{Call, IsLegal, StartsWith}
use Rattle.modbus_store.specs.Views.{Opening, resting, View, split_view, spent_view}
use Rattle.modbus_store.specs.Lock.{tickets_of, numbers_of, IsServing, HasTicket, LockAccount, NumberFits, Fits, Kept}
use Rattle.modbus_store.specs.Plays.{Mine, longer, joined_view, with_ticket, LoadedDrawn}
use Rattle.modbus_store.specs.Events.{KeptWith, Leads, AddsCall, LeavesHistory}
use Rattle.modbus_store.proofs.Lists.{in_range, total-snoc}
use Rattle.modbus_store.proofs.Histories.{legal-front, starts_whole, starts_none, front_of_front, calls_between}
use Rattle.modbus_store.proofs.Keeps.{St, off, same_at, serving_stays, rebuilt, held_as, allowed, draws_with, takes_ticket_with, looks_with, counts_with, advances_with, rings_with}

some_none : {A : Type 0} (x : A) → ◌≡◌ {A = Option A} (Some x) None → ⊥
some_none x e = cc

module _ (o : Opening) where
  -- STEP 10
  pub loads_with : (log : List Call) (slots id : ℕ) (me : Mine) → Leads o log log id me 3 (λ x. x) (LoadedDrawn (step slots 3 0 0 core.none) me)
  loads_with log slots id me s kept at =
      let k = kept.0 in
      let v = me.0 in let a = k.a in let r : ℕ = get_or s.words 3 0 in
      let is : r ≡ a.seats = ap (λ (ws : List ℕ). get_or ws 3 0) k.words_are in
      let f = k.each id v at in
      let few = k.few in
      let w = with_ticket r v in (
        w,
        keeps,
        tt,
        rebuilt o s k id v w at a log kept.1 k.bells (set s.words 3 r) s.homes (set-get_or s.words 3 0 ∙ k.words_are) few k.legal k.unused (omega arith) (omega arith) (λ j u other e g. g)
            record {
              same = f.same;
              alone = f.alone;
              number = number_of a id r v v.number f.number;
              seen = f.seen;
              drawn = omega arith;
              joined = f.joined;
              stage = f.stage;
            }
            (held_as o s k id v w at (λ t x. x))
            (⊎_elim (λ h. inl h) (λ h. inr (h.0, h.1, serving_stays s.views id (a.holder a.served) v w at (λ x. x) h.2)) k.placed),
        (
          refl,
          omega arith,
          (λ n e. let l = (subst (NumberFits o a id v) e f.number).0 in omega arith),
          f.joined.0,
          f.joined.1,
          (λ live. subst (λ (x : Opening). IsLegal x.tables v.seen) (sym (f.same live)) (legal-front o.tables v.seen f.seen.0 (subst (IsLegal o.tables) f.seen.1 k.legal))),
          (λ n e. (subst (NumberFits o a id v) e f.number).3),
        ),
      )
    where
      number_of : (a : LockAccount) (id r : ℕ) (v : View) (x : Option ℕ) → NumberFits o a id v x → NumberFits o a id (with_ticket r v) x
      number_of a id r v None g = g
      number_of a id r v (Some n) g = g

  pub loads : (slots id : ℕ) (me : Mine) → Allows (Kept o) slots id me 3 (λ x. x) (LoadedDrawn (step slots 3 0 0 core.none) me)
  loads slots id me = allowed o slots id me 3 (λ x. x) (LoadedDrawn (step slots 3 0 0 core.none) me) (λ log. log) (λ log. loads_with log slots id me)

  -- STEP 8
  pub splits_with : (log : List Call) (id : ℕ) (v : View) (n : ℕ) → v.live ≡ true → v.number ≡ Some n → Splits (KeptWith o log) id v v (split_view v)
  splits_with log id v n live some s with_log at =
      let k = with_log.0 in
      let a = k.a in
      let f = k.each id v at in
      let w = split_view v in
      let views = s.views ++ w ∷ [] in
      let nobody : (j : ℕ) (u : View) → get_elem? s.views j ≡ core.some u → u.first ≡ true → ⊥ = λ j u e t.
      let g = k.each j u e in let one = (g.alone t).0 in let p = in_range s.views j u e in let q = in_range s.views id v at in
      let same : j ≡ id = omega arith in
      some_none n (sym some ∙ (ap (λ (x : View). x.number) (sym (same_at s.views j id u v same e at)) ∙ (g.alone t).2)) in
      let old : (j : ℕ) (u : View) → get_elem? s.views j ≡ core.some u → Fits o a (length views) s.homes j u = λ j u e. let g = k.each j u e in
      record { same = g.same; alone = λ t. absurd (nobody j u e t); number = g.number; seen = g.seen; drawn = g.drawn; joined = g.joined; stage = g.stage } in
      let new : (j : ℕ) → Fits o a (length views) s.homes j w = λ j.
      record { same = λ _. f.same live; alone = λ t. absurd (off t); number = (refl, refl); seen = f.seen; drawn = omega arith; joined = (starts_none v.seen, starts_none v.seen); stage = tt } in
      let kept : Kept o record { words = s.words; homes = s.homes; views = views } = record {
        a = a;
        bells = k.bells;
        words_are = k.words_are;
        few = k.few;
        legal = k.legal;
        unused = k.unused;
        tickets = let t = k.tickets in omega (arith, total-snoc (λ (x : View). tickets_of x.stage) s.views w);
        numbers = let t = k.numbers in omega (arith, total-snoc (λ (x : View). numbers_of x.number) s.views w);
        each = λ j u e. ⊎_elim (old j u) (λ (t : w ≡ u). subst (Fits o a (length views) s.homes j) t (new j)) (at_snoc s.views w u j e);
        held = λ t low high. let h = k.held t low high in (h.0, at_longer s.views (w ∷ []) (a.holder t) h.0 h.1, h.2);
        placed = ⊎_elim (λ h. inl h) (λ h. inr (h.0, h.1, (h.2.0, at_longer s.views (w ∷ []) (a.holder a.served) h.2.0 h.2.1, h.2.2))) k.placed;
      } in
      subst (λ (vs : List View). KeptWith o log record { words = s.words; homes = s.homes; views = vs ++ w ∷ [] }) (sym (set_again s.views id v at)) (kept, with_log.1)

  pub splits : (id : ℕ) (v : View) (n : ℕ) → v.live ≡ true → v.number ≡ Some n → Splits (Kept o) id v v (split_view v)
  splits id v n live some s k at = (splits_with k.a.log id v n live some s (k, refl) at).0

  -- STEP 9
  module _ (a : LockAccount) (v w : View) (seen_v : StartsWith a.log v.seen) (seen_w : StartsWith a.log w.seen) where
    -- by which of the two lists is longer
    glued_lists : (b : Bool) → nat_lt (length v.seen) (length w.seen) ≡ b
        → StartsWith a.log (cond b w.seen v.seen) × StartsWith (cond b w.seen v.seen) v.seen × StartsWith (cond b w.seen v.seen) w.seen
    glued_lists true e = let l : length v.seen < length w.seen = grind arith in (seen_w, front_of_front a.log v.seen w.seen seen_v seen_w (omega arith), starts_whole w.seen)
    glued_lists false e = let l : length w.seen ≤ length v.seen = grind arith in (seen_v, starts_whole v.seen, front_of_front a.log w.seen v.seen seen_w seen_v l)

    glued_number : (id : ℕ) (x : Option ℕ) → NumberFits o a id v x → NumberFits o a id (joined_view v w) x
    glued_number id None g = g
    glued_number id (Some n) g = let h = glued_lists (nat_lt (length v.seen) (length w.seen)) refl in
        (g.0, g.1, g.2, calls_between n a.log v.seen (longer v.seen w.seen) h.0 h.1 (g.2 ∙ sym g.3) ∙ g.3)

  spends : (log : List Call) (s : St) → KeptWith o log s → (other : ℕ) (w : View) → get_elem? s.views other ≡ core.some w → w.stage ≡ resting → KeptWith o log record { words = s.words; homes = s.homes; views = set s.views other spent_view }
  spends log s kept other w there rests =
      let k = kept.0 in
      let a = k.a in
      rebuilt o s k other w spent_view there a log kept.1 k.bells s.words s.homes k.words_are k.few k.legal k.unused (omega (arith, ap tickets_of rests)) (omega arith) (λ j u _ e p. p)
      record { same = λ e. absurd (off e); alone = λ e. absurd (off e); number = (refl, refl); seen = starts_none a.log; drawn = omega arith; joined = (([], refl), ([], refl)); stage = tt }
      (held_as o s k other w spent_view there (λ t (x : HasTicket t w.stage). subst (HasTicket t) rests x))
      (⊎_elim (λ p. inl p) (λ p. inr (p.0, p.1, serving_stays s.views other (a.holder a.served) w spent_view there (λ x. subst IsServing rests x) p.2)) k.placed)

  pub joins_with : (log : List Call) (id : ℕ) (v : View) (other : ℕ) (w : View) → w.stage ≡ resting → Joins (KeptWith o log) id v other w (joined_view v w) spent_view
  joins_with log id v other w rests s kept at apart there =
      let k = kept.0 in
      let a = k.a in
      let both = joined_view v w in
      let f = k.each id v at in
      let was : get_elem? s.views other ≡ core.some w = ⊎_elim (λ (t : (other ≡ id) × (both ≡ w)). absurd (apart t.0)) (λ (t : (other ≢ id) × (get_elem? s.views other ≡ core.some w)). t.1) (at_set s.views id other both w there) in
      let g = k.each other w was in
      let h = glued_lists a v w f.seen g.seen (nat_lt (length v.seen) (length w.seen)) refl in
      let first : KeptWith o log record { words = s.words; homes = s.homes; views = set s.views id both } =
      rebuilt o s k id v both at a log kept.1 k.bells s.words s.homes k.words_are k.few k.legal k.unused (omega arith) (omega arith) (λ j u _ e p. p)
      record { same = f.same; alone = f.alone; number = glued_number a v w f.seen g.seen id v.number f.number; seen = h.0; drawn = f.drawn; joined = (h.1, h.2); stage = f.stage }
      (held_as o s k id v both at (λ t x. x))
      (⊎_elim (λ p. inl p) (λ p. inr (p.0, p.1, serving_stays s.views id (a.holder a.served) v both at (λ x. x) p.2)) k.placed) in
      spends log record { words = s.words; homes = s.homes; views = set s.views id both } first other w there rests

  pub joins : (id : ℕ) (v : View) (other : ℕ) (w : View) → w.stage ≡ resting → Joins (Kept o) id v other w (joined_view v w) spent_view
  joins id v other w rests s k at apart there = (joins_with k.a.log id v other w rests s (k, refl) at apart there).0

-- THE EVENT
pub adds_call : (o : Opening) (history : List Call) (id : ℕ) (me : Mine) → AddsCall o history id me
adds_call o history id me c t known stage some live right fits = counts_with o history 1 id c me.0 me.1 t known stage some live right fits

pub leaves_history : (o : Opening) (history : List Call) (id : ℕ) (me : Mine) → LeavesHistory o history id me
leaves_history o history id me = record {
  draws_number = λ n none low. draws_with o history 1 id me n none low;
  draws_ticket = λ n some rests. takes_ticket_with o history 1 id me n some rests;
  looks = λ n t some waits live. looks_with o history 1 id me.0 me.1 n t some waits live;
  advances = λ n t known y has stage some live ok. advances_with o history 1 id me y t known n has stage some live ok;
  loads = loads_with o history 1 id me;
  rings = λ i f above. rings_with o history id me i f above;
  splits = λ n live some. splits_with o history id me.0 n live some;
  joins = λ other w rests. joins_with o history id me.0 other w rests;
}
