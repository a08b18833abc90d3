-- Each step keeps the rule.
use Rattle.std.proofs.Common.{◌≡◌, ◌≢◌, ℕ, zero, suc, ◌+◌, ◌%◌, ◌^◌, ◌<◌, ◌≤◌, ◌-◌, inl, inr, List, [], ◌∷◌, ◌++◌, length, get_or, set, sym, refl, ap, ◌∙◌, subst, ⊎_elim, arith, cond, eqb, eq-eqb, ne_eqb, Bool, true, false, true≢false, Option, Some, None, length-set, length-append}
use Rattle.std.proofs.Math.Nat.{mod-add-mod, mod-eq_of_lt}
use mathlib.Core.Logic.{dite}
use mathlib.Core.Option as core
use native.Mathlib.Decide.{ℕ_discrete}
use lib.ListN.{get_elem?}
use lib.Seq.{set-get_or}
use prog.Atomic.{either}
use Rattle.atomic_table.specs.Table.{State, Act, step, keeps, takes, gives, stepped, opening, Allows, Valid, carried_after}
use Rattle.atomic_table.proofs.Lists.{set_again, set_here, set_else, one_turn, exchanged}
use Rattle.modbus_store.specs.declared.lock.Stored.{Stored}
use Rattle.modbus_store.specs.Legal.{Call, answer_to, replay, IsLegal, calls_by, StartsWith}
use Rattle.modbus_store.specs.Views.{Opening, CallStage, resting, waiting, serving, View, newcomer}
use Rattle.modbus_store.specs.Lock.{tickets_of, numbers_of, tickets_in, numbers_in, IsServing, HasTicket, LockAccount, words_kept, Homes, away, home, Holds, StageFits, NumberFits, Fits, Placed, AllHeld, Kept}
use Rattle.modbus_store.specs.Plays.{Mine, with_number, with_stage, ticket_of, known_of, with_call_counted, DrewNumber, DrewTicket, LookedServing, CountsCall, Advanced}
use Rattle.modbus_store.specs.Events.{KeptWith, Leads}
use Rattle.modbus_store.proofs.Lists.{in_range, total-set, total-le, each_set}
use Rattle.modbus_store.proofs.Histories.{legal-append, calls_by_more, calls_by_mine, starts_whole, starts_more, starts_trans, none_in_front}

abbrev pub S : Type 0
S = Option Stored

abbrev pub St : Type 0
St = State S View

pub off : false ≡ true → ⊥
off e = true≢false (sym e)

pub same_at : (vs : List View) (i j : ℕ) (v u : View) → i ≡ j → get_elem? vs i ≡ core.some v → get_elem? vs j ≡ core.some u → v ≡ u
same_at vs i j v u e p q = core.some-injective v u (sym p ∙ (ap (get_elem? vs) e ∙ q))

-- the view at h has a stage of this kind, also after another view was changed, or this one to a view of the kind
pub stage_stays : (P : CallStage → Type 0) (vs : List View) (id h : ℕ) (v w : View) → get_elem? vs id ≡ core.some v → (P v.stage → P w.stage)
    → (u : View) × (get_elem? vs h ≡ core.some u) × P u.stage → (u : View) × (get_elem? (set vs id w) h ≡ core.some u) × P u.stage
stage_stays P vs id h v w at more is = dite (ℕ_discrete h id)
    (λ e. (w, ap (get_elem? (set vs id w)) e ∙ set_here vs id w (in_range vs id v at), more (subst (λ (x : View). P x.stage) (same_at vs h id is.0 v e is.1 at) is.2)))
    (λ other. (is.0, set_else vs id h w other ∙ is.1, is.2))

pub serving_stays : (vs : List View) (id h : ℕ) (v w : View) → get_elem? vs id ≡ core.some v → (IsServing v.stage → IsServing w.stage)
    → (u : View) × (get_elem? vs h ≡ core.some u) × IsServing u.stage → (u : View) × (get_elem? (set vs id w) h ≡ core.some u) × IsServing u.stage
serving_stays = stage_stays IsServing

module _ (o : Opening) where
  tickets_few : (a : LockAccount) (count : ℕ) (homes : Homes) (j : ℕ) (v : View) → (x : Option ℕ) → NumberFits o a j v x → tickets_of v.stage ≤ numbers_of x
  tickets_few a count homes j v None f = omega (arith, ap tickets_of f.0)
  tickets_few a count homes j v (Some n) f = one v.stage
    where
      one : (st : CallStage) → tickets_of st ≤ 1
      one resting = omega arith
      one (waiting t) = omega arith
      one (serving t known) = omega arith

  -- no more tickets are out than there are numbers
  pub drawn_few : (s : St) (k : Kept o s) → k.a.drawn ≤ k.a.served + 2 ^ 32
  drawn_few s k = let t = k.tickets in let n = k.numbers in let f = k.few in
      let le : tickets_in s.views ≤ numbers_in s.views = total-le (λ (v : View). tickets_of v.stage) (λ (v : View). numbers_of v.number) s.views
      (λ j v e. tickets_few k.a (length s.views) s.homes j v v.number (k.each j v e).number) in omega arith

  module _ (s : St) (k : Kept o s) (id : ℕ) (v w : View) (at : get_elem? s.views id ≡ core.some v) where
    pub rebuilt : (b : LockAccount) (log : List Call) → b.log ≡ log → (bells : List ℕ) (ws : List ℕ) (hs : Homes) → ws ≡ words_kept b bells → b.seats ≤ 2 ^ 32 → IsLegal o.tables b.log → ((n : ℕ) → b.seats ≤ n → calls_by n b.log ≡ [])
        → b.served + k.a.drawn + tickets_of w.stage ≡ b.drawn + k.a.served + tickets_of v.stage
        → k.a.seats + numbers_of w.number ≤ b.seats + numbers_of v.number
        → ((j : ℕ) (u : View) → j ≢ id → get_elem? s.views j ≡ core.some u → Fits o k.a (length s.views) s.homes j u → Fits o b (length s.views) hs j u)
        → Fits o b (length s.views) hs id w
        → AllHeld o b (set s.views id w)
        → Placed o b hs (set s.views id w)
        → KeptWith o log record { words = ws; homes = hs; views = set s.views id w }
    rebuilt b log same bells ws hs words few legal unused tickets numbers others mine held placed = let kt = k.tickets in let kn = k.numbers in
        let ts = total-set (λ (x : View). tickets_of x.stage) s.views id v w at in let ns = total-set (λ (x : View). numbers_of x.number) s.views id v w at in (
          record {
            a = b;
            bells = bells;
            words_are = words;
            few = few;
            legal = legal;
            unused = unused;
            tickets = omega arith;
            numbers = omega arith;
            each = subst (λ (c : ℕ). (j : ℕ) (u : View) → get_elem? (set s.views id w) j ≡ core.some u → Fits o b c hs j u) (sym (length-set s.views id w))
                (each_set (Fits o b (length s.views) hs) s.views id w mine (λ j u other e. others j u other e (k.each j u e)));
            held = held;
            placed = placed;
          },
          same,
        )

    -- the tickets that are held, where the step changes none
    pub held_as : ((t : ℕ) → HasTicket t v.stage → HasTicket t w.stage) → AllHeld o k.a (set s.views id w)
    held_as same t low high = stage_stays (HasTicket t) s.views id (k.a.holder t) v w at (same t) (k.held t low high)

  -- a step that changes nothing
  unmoved : (log : List Call) (s : St) (k : KeptWith o log s) (id : ℕ) (v : View) (cs : List (ℕ × S)) (i : ℕ) → get_elem? s.views id ≡ core.some v → KeptWith o log (stepped s i (get_or s.words i 0) id cs v keeps)
  unmoved log s k id v cs i at = subst (λ (x : List ℕ × List View). KeptWith o log record { words = x.0; homes = s.homes; views = x.1 }) (λ i'. (sym (set-get_or s.words i 0) i', sym (set_again s.views id v at) i')) k

  -- a step that leads on from each history keeps the rule
  pub allowed : (slots id : ℕ) (me : Mine) (i : ℕ) (f : ℕ → ℕ) (then : ℕ → Mine → Type 0) (after : List Call → List Call)
      → ((log : List Call) → Leads o log (after log) id me i f then) → Allows (Kept o) slots id me i f then
  allowed slots id me i f then after leads s k wide at small = let x = leads k.a.log s (k, refl) at in (x.0, x.1, x.2, x.3.0, x.4)

  -- A step on a bell
  pub rings_with : (log : List Call) (id : ℕ) (me : Mine) (i : ℕ) (f : ℕ → ℕ) → 4 ≤ i → Leads o log log id me i f (λ r m'. m' ≡ me)
  rings_with log id me i f above s kept at =
      let k = kept.0 in
      let j = i - 4 in
      let is : suc (suc (suc (suc j))) ≡ i = omega arith in
      let n = f (get_or s.words i 0) in
      let words : set s.words i n ≡ words_kept k.a (set k.bells j n) = (λ z. set (k.words_are z) (sym is z) n) in (
        me.0,
        keeps,
        tt,
        subst (λ (vs : List View). KeptWith o log record { words = set s.words i n; homes = s.homes; views = vs }) (sym (set_again s.views id me.0 at))
            (record { a = k.a; bells = set k.bells j n; words_are = words; few = k.few; legal = k.legal; unused = k.unused; tickets = k.tickets; numbers = k.numbers; each = k.each; held = k.held; placed = k.placed }, kept.1),
        refl,
      )

  pub rings : (slots id : ℕ) (me : Mine) (i : ℕ) (f : ℕ → ℕ) → 4 ≤ i → Allows (Kept o) slots id me i f (λ r m'. m' ≡ me)
  rings slots id me i f above = allowed slots id me i f (λ r m'. m' ≡ me) (λ log. log) (λ log. rings_with log id me i f above)

  -- STEP 1
  module _ (a : LockAccount) (id : ℕ) where
    abbrev one_number : LockAccount
    one_number = record a { seats = a.seats + 1; who = λ k. cond (eqb k a.seats) id (a.who k) }

    number_after : (j : ℕ) (u : View) (x : Option ℕ) → NumberFits o a j u x → NumberFits o one_number j u x
    number_after j u None f = f
    number_after j u (Some n) f = let l = f.0 in (omega arith, ap (λ (b : Bool). cond b id (a.who n)) (ne_eqb n a.seats (λ e. omega arith)) ∙ f.1, f.2, f.3)

  pub draws_with : (log : List Call) (slots id : ℕ) (me : Mine) (n : ℕ) → me.0.number ≡ None → n < 2 ^ 32
      → Leads o log log id me 3 (λ x. either (eqb x n) (n + 1) x) (DrewNumber (step slots 3 n (n + 1) core.none) me)
  draws_with log slots id me n none low s kept at =
      let k = kept.0 in
      let v = me.0 in let a = k.a in let b = one_number a id in let r : ℕ = get_or s.words 3 0 in
      let is : r ≡ a.seats = ap (λ (ws : List ℕ). get_or ws 3 0) k.words_are in
      let f = k.each id v at in
      let nf : NumberFits o a id v None = subst (NumberFits o a id v) none f.number in
      let F : ℕ → Type 0 = λ x. (w : View) × (c : Act S) × Valid s.homes me.1 c × KeptWith o log (stepped s 3 x id me.1 w c) × DrewNumber (step slots 3 n (n + 1) core.none) me r (w, carried_after me.1 c) in
      let zero_first : v.first ≡ true → r ≡ 0 = λ t. is ∙ (f.alone t).1 in
      exchanged r n (n + 1) F
      (λ hit. let here : a.seats ≡ n = sym is ∙ hit in (
        with_number r v,
        keeps,
        tt,
        rebuilt s k id v (with_number r v) at b log kept.1 k.bells (set s.words 3 (n + 1)) s.homes
            (ap (λ (ws : List ℕ). set ws 3 (n + 1)) k.words_are ∙ ap (λ (x : ℕ). a.drawn % 2 ^ 64 ∷ a.served % 2 ^ 64 ∷ length a.log ∷ (x + 1) ∷ k.bells) (sym here))
            (omega arith)
            k.legal
            (λ m l. k.unused m (omega arith))
            (omega arith)
            (omega (arith, ap numbers_of none))
            (λ j u other e g. record {
              same = g.same;
              alone = λ t. absurd (let c = (g.alone t).0 in let p = in_range s.views j u e in let q = in_range s.views id v at in other (omega arith));
              number = number_after a id j u u.number g.number;
              seen = g.seen;
              drawn = let d = g.drawn in omega arith;
              joined = g.joined;
              stage = g.stage;
            })
            record {
              same = f.same;
              alone = λ t. absurd (off t);
              number = (omega arith, ap (λ (x : Bool). cond x id (a.who r)) (eq-eqb r a.seats is), k.unused r (omega arith) ∙ sym nf.1, none_in_front r a.log v.seen f.seen (k.unused r (omega arith)) ∙ sym nf.1);
              seen = f.seen;
              drawn = let d = f.drawn in omega arith;
              joined = f.joined;
              stage = subst (StageFits o b s.homes id) (sym nf.0) tt;
            }
            (held_as s k id v (with_number r v) at (λ t x. x))
            (⊎_elim (λ h. inl h) (λ h. inr (h.0, h.1, serving_stays s.views id (a.holder a.served) v (with_number r v) at (λ x. x) h.2)) k.placed),
        (zero_first, (λ _. (refl, none_in_front r a.log v.seen f.seen (k.unused r (omega arith)))), λ miss. absurd (miss hit)),
      ))
      (λ miss. (v, keeps, tt, unmoved log s kept id v me.1 3 at, (zero_first, (λ hit. absurd (miss hit)), λ _. refl)))

  pub draws : (slots id : ℕ) (me : Mine) (n : ℕ) → me.0.number ≡ None → n < 2 ^ 32
      → Allows (Kept o) slots id me 3 (λ x. either (eqb x n) (n + 1) x) (DrewNumber (step slots 3 n (n + 1) core.none) me)
  draws slots id me n none low = allowed slots id me 3 (λ x. either (eqb x n) (n + 1) x) (DrewNumber (step slots 3 n (n + 1) core.none) me) (λ log. log) (λ log. draws_with log slots id me n none low)

  -- STEP 2
  module _ (a : LockAccount) (id : ℕ) where
    abbrev one_ticket : LockAccount
    one_ticket = record a { drawn = a.drawn + 1; holder = λ t. cond (eqb t a.drawn) id (a.holder t) }

    held_before : (t : ℕ) → t < a.drawn → one_ticket.holder t ≡ a.holder t
    held_before t l = ap (λ (b : Bool). cond b id (a.holder t)) (ne_eqb t a.drawn (λ e. omega arith))

    stage_after_ticket : (homes : Homes) (j : ℕ) (st : CallStage) → StageFits o a homes j st → StageFits o one_ticket homes j st
    stage_after_ticket homes j resting f = tt
    stage_after_ticket homes j (waiting t) f = let l = f.1 in (f.0, omega arith, held_before t l ∙ f.2)
    stage_after_ticket homes j (serving t known) f = let l = f.1 in (f.0, omega arith, held_before t l ∙ f.2, f.3, f.4)

    number_after_ticket : (j : ℕ) (u : View) (x : Option ℕ) → NumberFits o a j u x → NumberFits o one_ticket j u x
    number_after_ticket j u None f = f
    number_after_ticket j u (Some n) f = f

  -- the tickets that are held, and one more
  ticket_held : (s : St) (k : Kept o s) (id : ℕ) (v : View) → v.stage ≡ resting → get_elem? s.views id ≡ core.some v
      → AllHeld o (one_ticket k.a id) (set s.views id (with_stage (waiting k.a.drawn) v))
  ticket_held s k id v rests at t low high = dite (ℕ_discrete t k.a.drawn)
      (λ last. (w, ap (get_elem? (set s.views id w)) (ap (λ (x : Bool). cond x id (k.a.holder t)) (eq-eqb t k.a.drawn last)) ∙ set_here s.views id w (in_range s.views id v at), sym last))
      (λ other. subst (λ (h : ℕ). (u : View) × (get_elem? (set s.views id w) h ≡ core.some u) × HasTicket t u.stage) (sym (held_before k.a id t (omega arith)))
      (stage_stays (HasTicket t) s.views id (k.a.holder t) v w at (λ (x : HasTicket t v.stage). absurd (subst (HasTicket t) rests x)) (k.held t low (omega arith))))
    where
      w : View
      w = with_stage (waiting k.a.drawn) v

  pub takes_ticket_with : (log : List Call) (slots id : ℕ) (me : Mine) (n : ℕ) → me.0.number ≡ Some n → me.0.stage ≡ resting
      → Leads o log log id me 0 (λ x. (x + 1) % 2 ^ 64) (DrewTicket (step slots 0 1 0 core.none) me)
  takes_ticket_with log slots id me n some rests s kept at =
      let k = kept.0 in
      let v = me.0 in let a = k.a in let b = one_ticket a id in let r : ℕ = get_or s.words 0 0 in
      let is : r ≡ a.drawn % 2 ^ 64 = ap (λ (ws : List ℕ). get_or ws 0 0) k.words_are in
      let f = k.each id v at in
      let kt = k.tickets in
      let w = with_stage (waiting a.drawn) v in (
        w,
        keeps,
        tt,
        rebuilt s k id v w at b log kept.1 k.bells (set s.words 0 ((r + 1) % 2 ^ 64)) s.homes
            (ap (λ (ws : List ℕ). set ws 0 ((get_or ws 0 0 + 1) % 2 ^ 64)) k.words_are ∙ ap (λ (x : ℕ). x ∷ a.served % 2 ^ 64 ∷ length a.log ∷ a.seats ∷ k.bells) (mod-add-mod a.drawn (2 ^ 64) 1))
            k.few
            k.legal
            k.unused
            (omega (arith, ap tickets_of rests))
            (omega arith)
            (λ j u other e g. record {
              same = g.same;
              alone = g.alone;
              number = number_after_ticket a id j u u.number g.number;
              seen = g.seen;
              drawn = g.drawn;
              joined = g.joined;
              stage = stage_after_ticket a id s.homes j u.stage g.stage;
            })
            record {
              same = f.same;
              alone = f.alone;
              number = subst (NumberFits o b id w) (sym some) (subst (NumberFits o a id v) some f.number);
              seen = f.seen;
              drawn = f.drawn;
              joined = f.joined;
              stage = (omega arith, omega arith, ap (λ (x : Bool). cond x id (a.holder a.drawn)) (eq-eqb a.drawn a.drawn refl));
            }
            (ticket_held s k id v rests at)
            (⊎_elim (λ h. inl h)
            (λ (h : (s.homes ≡ away) × (a.served < a.drawn) × ((u : View) × (get_elem? s.views (a.holder a.served) ≡ core.some u) × IsServing u.stage)). let l = h.1 in
            inr (
              h.0,
              omega arith,
              subst (λ (x : ℕ). (u : View) × (get_elem? (set s.views id w) x ≡ core.some u) × IsServing u.stage) (sym (held_before a id a.served l))
                  (serving_stays s.views id (a.holder a.served) v w at (λ y. subst IsServing rests y) h.2),
            ))
            k.placed),
        (a.drawn, is, refl),
      )

  pub takes_ticket : (slots id : ℕ) (me : Mine) (n : ℕ) → me.0.number ≡ Some n → me.0.stage ≡ resting
      → Allows (Kept o) slots id me 0 (λ x. (x + 1) % 2 ^ 64) (DrewTicket (step slots 0 1 0 core.none) me)
  takes_ticket slots id me n some rests = allowed slots id me 0 (λ x. (x + 1) % 2 ^ 64) (DrewTicket (step slots 0 1 0 core.none) me) (λ log. log) (λ log. takes_ticket_with log slots id me n some rests)

  -- STEP 3
  abbrev number_stays : (a : LockAccount) (j : ℕ) (u w : View) (n : ℕ) → u.number ≡ Some n → w.number ≡ Some n → w.mine ≡ u.mine → w.seen ≡ u.seen → NumberFits o a j u u.number → (n < a.seats) × (a.who n ≡ j) × (calls_by n a.log ≡ u.mine) × (calls_by n u.seen ≡ u.mine)
  number_stays a j u w n e d m q f = subst (NumberFits o a j u) e f

  stage_when_away : (a : LockAccount) (homes : Homes) (j : ℕ) (st : CallStage) → StageFits o a homes j st → StageFits o a away j st
  stage_when_away a homes j resting f = tt
  stage_when_away a homes j (waiting t) f = f
  stage_when_away a homes j (serving t known) f = (f.0, f.1, f.2, f.3, refl)

  -- the look, and that who gets the turn knows the history
  abbrev pub Looked : List Call → ℕ → Mine → ℕ → Mine → Type 0
  Looked log slots me r m' = LookedServing (step slots 1 0 0 core.none) me r m' × (r ≡ ticket_of me.0.stage % 2 ^ 64 → known_of m'.0.stage ≡ log)

  pub looks_with : (log : List Call) (slots id : ℕ) (v : View) (cs : List (ℕ × S)) (n t : ℕ) → v.number ≡ Some n → v.stage ≡ waiting t → v.live ≡ true
      → Leads o log log id (v, cs) 1 (λ x. x) (Looked log slots (v, cs))
  looks_with log slots id v cs n t some waits live s kept at =
      let k = kept.0 in
      let a = k.a in let r : ℕ = get_or s.words 1 0 in
      let is : r ≡ a.served % 2 ^ 64 = ap (λ (ws : List ℕ). get_or ws 1 0) k.words_are in
      let f = k.each id v at in
      let mine : StageFits o a s.homes id (waiting t) = subst (StageFits o a s.homes id) waits f.stage in
      let own : (n < a.seats) × (a.who n ≡ id) × (calls_by n a.log ≡ v.mine) × (calls_by n v.seen ≡ v.mine) = subst (NumberFits o a id v) some f.number in
      let mine_0 = mine.0 in let mine_1 = mine.1 in
      let few = drawn_few s k in
      dite (ℕ_discrete r (ticket_of v.stage % 2 ^ 64))
      (λ hit. let turn : a.served ≡ t = one_turn a.served t (2 ^ 64) mine_0 (omega arith) (sym is ∙ (hit ∙ ap (λ (x : CallStage). ticket_of x % 2 ^ 64) waits)) in
      let w = with_stage (serving (ticket_of v.stage) a.log) v in
      let same_ticket : ticket_of v.stage ≡ t = ap ticket_of waits in
      ⊎_elim
      (λ (h : (y : Stored) × (s.homes ≡ home y) × Holds o a.log y). (
        w,
        takes 0 (Some h.0),
        ap (λ (hs : Homes). get_elem? hs 0) h.1,
        rebuilt s k id v w at a log kept.1 k.bells (set s.words 1 r) (set s.homes 0 core.none)
            (set-get_or s.words 1 0 ∙ k.words_are)
            k.few
            k.legal
            k.unused
            (omega (arith, ap tickets_of waits))
            (omega arith)
            (λ j u other e g. record {
              same = g.same;
              alone = g.alone;
              number = g.number;
              seen = g.seen;
              drawn = g.drawn;
              joined = g.joined;
              stage = subst (λ (hs : Homes). StageFits o a hs j u.stage) (sym (ap (λ (hs : Homes). set hs 0 core.none) h.1)) (stage_when_away a s.homes j u.stage g.stage);
            })
            record {
              same = f.same;
              alone = f.alone;
              number = subst (NumberFits o a id w) (sym some) own;
              seen = f.seen;
              drawn = f.drawn;
              joined = f.joined;
              stage = (same_ticket ∙ sym turn, subst (λ (x : ℕ). x < a.drawn) (sym same_ticket) mine.1, ap a.holder same_ticket ∙ mine.2, refl, ap (λ (hs : Homes). set hs 0 core.none) h.1);
            }
            (held_as s k id v w at (λ u (x : HasTicket u v.stage). same_ticket ∙ subst (HasTicket u) waits x))
            (inr (
              ap (λ (hs : Homes). set hs 0 core.none) h.1,
              omega arith,
              (w, ap (get_elem? (set s.views id w)) (ap a.holder turn ∙ mine.2) ∙ set_here s.views id w (in_range s.views id v at), tt),
            )),
        (
          (
            (λ _. (
              a.log,
              h.0,
              refl,
              subst (λ (x : Opening). Holds x a.log h.0) (sym (f.same live)) h.2,
              subst (λ (x : Opening). IsLegal x.tables a.log) (sym (f.same live)) k.legal,
              f.seen,
              (λ m e. subst (λ (x : Option ℕ). (number : NumberFits o a id v x) → (calls_by m a.log ≡ v.mine) × (calls_by m v.seen ≡ v.mine)) (sym e) (λ g. (g.2, g.3)) f.number),
            )),
            (λ miss. absurd (miss hit)),
          ),
          (λ _. kept.1),
        ),
      ))
      (λ (h : (s.homes ≡ away) × (a.served < a.drawn) × ((u : View) × (get_elem? s.views (a.holder a.served) ≡ core.some u) × IsServing u.stage)).
      absurd (subst IsServing waits (subst (λ (x : View). IsServing x.stage) (same_at s.views (a.holder a.served) id h.2.0 v (ap a.holder turn ∙ mine.2) h.2.1 at) h.2.2)))
      k.placed)
      (λ miss. (v, keeps, tt, unmoved log s kept id v cs 1 at, (((λ hit. absurd (miss hit)), λ _. refl), λ hit. absurd (miss hit))))

  pub looks_serving : (slots id : ℕ) (v : View) (cs : List (ℕ × S)) (n t : ℕ) → v.number ≡ Some n → v.stage ≡ waiting t → v.live ≡ true
      → Allows (Kept o) slots id (v, cs) 1 (λ x. x) (LookedServing (step slots 1 0 0 core.none) (v, cs))
  looks_serving slots id v cs n t some waits live s k wide at small = let x = looks_with k.a.log slots id v cs n t some waits live s (k, refl) at in (x.0, x.1, x.2, x.3.0, x.4.0)

  -- STEP 5
  module _ (a : LockAccount) (e : Call) where
    abbrev one_entry : LockAccount
    one_entry = record a { log = a.log ++ e ∷ [] }

    number_after_entry : (id j : ℕ) (u : View) (x : Option ℕ) → a.who e.number ≡ id → j ≢ id → NumberFits o a j u x → NumberFits o one_entry j u x
    number_after_entry id j u None own other f = f
    number_after_entry id j u (Some n) own other f = (f.0, f.1, calls_by_more n a.log e (λ same. other (sym f.1 ∙ (ap a.who (sym same) ∙ own))) ∙ f.2, f.3)

    stage_after_entry : (homes : Homes) (id j : ℕ) (st : CallStage) → a.holder a.served ≡ id → j ≢ id → StageFits o a homes j st → StageFits o one_entry homes j st
    stage_after_entry homes id j resting own other f = tt
    stage_after_entry homes id j (waiting t) own other f = f
    stage_after_entry homes id j (serving t known) own other f = absurd (other (sym f.2 ∙ (ap a.holder f.0 ∙ own)))

  counts_at : (log : List Call) (slots id : ℕ) (e : Call) (v : View) (cs : List (ℕ × S)) (t : ℕ) (known : List Call) → v.number ≡ Some e.number → v.live ≡ true
      → e.outcome ≡ answer_to (replay v.opening.tables known) e → length known + 1 < 2 ^ 64
      → Leads o log (log ++ e ∷ []) id (with_stage (serving t known) v, cs) 2 (λ x. (x + 1) % 2 ^ 64) (CountsCall e (step slots 2 1 0 core.none) (with_stage (serving t known) v, cs))
  counts_at log slots id e v cs t known some live right fits s kept at =
      let k = kept.0 in
      let a = k.a in let b = one_entry a e in let r : ℕ = get_or s.words 2 0 in
      let old = with_stage (serving t known) v in
      let f = k.each id old at in
      let mine = f.stage in
      let own : (e.number < a.seats) × (a.who e.number ≡ id) × (calls_by e.number a.log ≡ v.mine) × (calls_by e.number v.seen ≡ v.mine) = subst (NumberFits o a id old) some f.number in
      let w = with_call_counted e old in
      let all : known ≡ a.log = mine.3 in
      let grown : known ++ e ∷ [] ≡ a.log ++ e ∷ [] = ap (λ (l : List Call). l ++ e ∷ []) all in
      let served : a.holder a.served ≡ id = ap a.holder (sym mine.0) ∙ mine.2 in
      let more : (length a.log + 1) % 2 ^ 64 ≡ length (a.log ++ e ∷ []) = mod-eq_of_lt (omega (arith, ap (length {A = Call}) all)) ∙ omega (arith, length-append a.log (e ∷ [])) in
      let calls : calls_by e.number (a.log ++ e ∷ []) ≡ v.mine ++ e ∷ [] = calls_by_mine e.number a.log e refl ∙ ap (λ (l : List Call). l ++ e ∷ []) own.2 in
      let answered : e.outcome ≡ answer_to (replay o.tables a.log) e = right ∙ (λ i. answer_to (replay (f.same live i).tables (all i)) e) in (
        w,
        keeps,
        tt,
        rebuilt s k id old w at b (log ++ e ∷ []) (ap (λ (l : List Call). l ++ e ∷ []) kept.1) k.bells (set s.words 2 ((r + 1) % 2 ^ 64)) s.homes
            (ap (λ (ws : List ℕ). set ws 2 ((get_or ws 2 0 + 1) % 2 ^ 64)) k.words_are ∙ ap (λ (x : ℕ). a.drawn % 2 ^ 64 ∷ a.served % 2 ^ 64 ∷ x ∷ a.seats ∷ k.bells) more)
            k.few
            (legal-append o.tables a.log (e ∷ []) k.legal (answered, tt))
            (λ m l. calls_by_more m a.log e (λ same. let lt = own.0 in omega arith) ∙ k.unused m l)
            (omega arith)
            (omega arith)
            (λ j u other d g. record {
              same = g.same;
              alone = g.alone;
              number = number_after_entry a e id j u u.number own.1 other g.number;
              seen = starts_more a.log (e ∷ []) u.seen g.seen;
              drawn = g.drawn;
              joined = g.joined;
              stage = stage_after_entry a e s.homes id j u.stage served other g.stage;
            })
            record {
              same = f.same;
              alone = f.alone;
              number = subst (NumberFits o b id w) (sym some) (own.0, own.1, calls, ap (calls_by e.number) grown ∙ calls);
              seen = subst (StartsWith (a.log ++ e ∷ [])) (sym grown) (starts_whole (a.log ++ e ∷ []));
              drawn = f.drawn;
              joined = let grows : StartsWith (known ++ e ∷ []) v.seen = subst (λ (l : List Call). StartsWith l v.seen) (sym grown) (starts_more a.log (e ∷ []) v.seen f.seen) in
                  (starts_trans (known ++ e ∷ []) v.seen v.left grows f.joined.0, starts_trans (known ++ e ∷ []) v.seen v.right grows f.joined.1);
              stage = (mine.0, mine.1, mine.2, grown, mine.4);
            }
            (held_as s k id old w at (λ u x. x))
            (⊎_elim (λ (h : (y : Stored) × (s.homes ≡ home y) × Holds o a.log y). absurd (at_home_or_away h.0 s.homes h.1 mine.4))
            (λ h. inr (h.0, h.1, serving_stays s.views id (a.holder a.served) old w at (λ x. x) h.2)) k.placed),
        refl,
      )
    where
      at_home_or_away : (y : Stored) (hs : Homes) → hs ≡ home y → hs ≡ away → ⊥
      at_home_or_away y hs p q = core.some-ne-none (Some y) (core.some-injective (core.some (Some y)) core.none (ap (λ (x : Homes). get_elem? x 0) (sym p ∙ q)))

  pub counts_with : (log : List Call) (slots id : ℕ) (e : Call) (v : View) (cs : List (ℕ × S)) (t : ℕ) (known : List Call) → v.stage ≡ serving t known → v.number ≡ Some e.number → v.live ≡ true
      → e.outcome ≡ answer_to (replay v.opening.tables known) e → length known + 1 < 2 ^ 64
      → Leads o log (log ++ e ∷ []) id (v, cs) 2 (λ x. (x + 1) % 2 ^ 64) (CountsCall e (step slots 2 1 0 core.none) (v, cs))
  counts_with log slots id e v cs t known is some live right fits =
      subst (λ (st : CallStage). Leads o log (log ++ e ∷ []) id (with_stage st v, cs) 2 (λ x. (x + 1) % 2 ^ 64) (CountsCall e (step slots 2 1 0 core.none) (with_stage st v, cs))) (sym is) (counts_at log slots id e v cs t known some live right fits)

  pub counts : (slots id : ℕ) (e : Call) (v : View) (cs : List (ℕ × S)) (t : ℕ) (known : List Call) → v.stage ≡ serving t known → v.number ≡ Some e.number → v.live ≡ true
      → e.outcome ≡ answer_to (replay v.opening.tables known) e → length known + 1 < 2 ^ 64
      → Allows (Kept o) slots id (v, cs) 2 (λ x. (x + 1) % 2 ^ 64) (CountsCall e (step slots 2 1 0 core.none) (v, cs))
  counts slots id e v cs t known is some live right fits =
      allowed slots id (v, cs) 2 (λ x. (x + 1) % 2 ^ 64) (CountsCall e (step slots 2 1 0 core.none) (v, cs)) (λ log. log ++ e ∷ []) (λ log. counts_with log slots id e v cs t known is some live right fits)

  -- STEP 7
  module _ (a : LockAccount) where
    abbrev one_served : LockAccount
    one_served = record a { served = a.served + 1 }

    stage_after_served : (hs hs' : Homes) (id j : ℕ) (st : CallStage) → a.holder a.served ≡ id → j ≢ id → StageFits o a hs j st → StageFits o one_served hs' j st
    stage_after_served hs hs' id j resting own other f = tt
    stage_after_served hs hs' id j (waiting t) own other f = let le = f.0 in
        let ne : a.served ≢ t = λ e. other (sym f.2 ∙ (ap a.holder (sym e) ∙ own)) in (omega arith, f.1, f.2)
    stage_after_served hs hs' id j (serving t known) own other f = absurd (other (sym f.2 ∙ (ap a.holder f.0 ∙ own)))

    number_after_served : (j : ℕ) (u : View) (x : Option ℕ) → NumberFits o a j u x → NumberFits o one_served j u x
    number_after_served j u None f = f
    number_after_served j u (Some n) f = f

  advances_at : (log : List Call) (slots id : ℕ) (v : View) (y : Stored) (t : ℕ) (known : List Call) (n : ℕ) → v.number ≡ Some n → v.live ≡ true → Holds v.opening known y
      → Leads o log log id (with_stage (serving t known) v, (0, Some y) ∷ []) 1 (λ x. (x + 1) % 2 ^ 64) (Advanced (step slots 1 1 0 core.none) (with_stage (serving t known) v, (0, Some y) ∷ []))
  advances_at log slots id v y t known n some live ok s kept at =
      let k = kept.0 in
      let a = k.a in let b = one_served a in let r : ℕ = get_or s.words 1 0 in
      let old = with_stage (serving t known) v in
      let f = k.each id old at in
      let mine = f.stage in
      let w = with_stage resting old in
      let all : known ≡ a.log = mine.3 in
      let served : a.holder a.served ≡ id = ap a.holder (sym mine.0) ∙ mine.2 in
      let homes : set s.homes 0 (core.some (Some y)) ≡ home y = ap (λ (hs : Homes). set hs 0 (core.some (Some y))) mine.4 in (
        w,
        gives,
        tt,
        rebuilt s k id old w at b log kept.1 k.bells (set s.words 1 ((r + 1) % 2 ^ 64)) (set s.homes 0 (core.some (Some y)))
            (ap (λ (ws : List ℕ). set ws 1 ((get_or ws 1 0 + 1) % 2 ^ 64)) k.words_are ∙ ap (λ (x : ℕ). a.drawn % 2 ^ 64 ∷ x ∷ length a.log ∷ a.seats ∷ k.bells) (mod-add-mod a.served (2 ^ 64) 1))
            k.few
            k.legal
            k.unused
            (omega arith)
            (omega arith)
            (λ j u other d g. record {
              same = g.same;
              alone = g.alone;
              number = number_after_served a j u u.number g.number;
              seen = g.seen;
              drawn = g.drawn;
              joined = g.joined;
              stage = stage_after_served a s.homes (set s.homes 0 (core.some (Some y))) id j u.stage served other g.stage;
            })
            record {
              same = f.same;
              alone = f.alone;
              number = subst (NumberFits o b id w) (sym some) (subst (NumberFits o a id old) some f.number);
              seen = f.seen;
              drawn = f.drawn;
              joined = f.joined;
              stage = tt;
            }
            (λ u low high. stage_stays (HasTicket u) s.views id (a.holder u) old w at (λ (x : HasTicket u old.stage). absurd (let first = mine.0 in let same : t ≡ u = x in omega arith)) (k.held u (omega arith) high))
            (inl (y, homes, subst (λ (x : Opening × List Call). Holds x.0 x.1 y) (λ i. (f.same live i, all i)) ok)),
        refl,
      )

  advances : (log : List Call) (slots id : ℕ) (v : View) (y : Stored) (t : ℕ) (known : List Call) (n : ℕ) → v.stage ≡ serving t known → v.number ≡ Some n → v.live ≡ true → Holds v.opening known y
      → Leads o log log id (v, (0, Some y) ∷ []) 1 (λ x. (x + 1) % 2 ^ 64) (Advanced (step slots 1 1 0 core.none) (v, (0, Some y) ∷ []))
  advances log slots id v y t known n is some live ok =
      subst (λ (st : CallStage). Leads o log log id (with_stage st v, (0, Some y) ∷ []) 1 (λ x. (x + 1) % 2 ^ 64) (Advanced (step slots 1 1 0 core.none) (with_stage st v, (0, Some y) ∷ []))) (sym is)
      (advances_at log slots id v y t known n some live ok)

  pub advances_with : (log : List Call) (slots id : ℕ) (me : Mine) (y : Stored) (t : ℕ) (known : List Call) (n : ℕ) → me.1 ≡ (0, Some y) ∷ [] → me.0.stage ≡ serving t known → me.0.number ≡ Some n → me.0.live ≡ true → Holds me.0.opening known y
      → Leads o log log id me 1 (λ x. (x + 1) % 2 ^ 64) (Advanced (step slots 1 1 0 core.none) me)
  advances_with log slots id me y t known n has is some live ok =
      subst (λ (cs : List (ℕ × S)). Leads o log log id (me.0, cs) 1 (λ x. (x + 1) % 2 ^ 64) (Advanced (step slots 1 1 0 core.none) (me.0, cs))) (sym has) (advances log slots id me.0 y t known n is some live ok)

  pub advances_as : (slots id : ℕ) (me : Mine) (y : Stored) (t : ℕ) (known : List Call) (n : ℕ) → me.1 ≡ (0, Some y) ∷ [] → me.0.stage ≡ serving t known → me.0.number ≡ Some n → me.0.live ≡ true → Holds me.0.opening known y
      → Allows (Kept o) slots id me 1 (λ x. (x + 1) % 2 ^ 64) (Advanced (step slots 1 1 0 core.none) me)
  advances_as slots id me y t known n has is some live ok =
      allowed slots id me 1 (λ x. (x + 1) % 2 ^ 64) (Advanced (step slots 1 1 0 core.none) me) (λ log. log) (λ log. advances_with log slots id me y t known n has is some live ok)

-- THE START
abbrev start : LockAccount
start = record { log = []; drawn = 0; served = 0; seats = 0; who = λ n. 0; holder = λ t. 0 }

start_fits : (o : Opening) (y : Stored) → Fits o start 1 (home y) 0 (newcomer o)
start_fits o y = record { same = λ _. refl; alone = λ _. (refl, refl, refl); number = (refl, refl); seen = ([], refl); drawn = omega arith; joined = (([], refl), ([], refl)); stage = tt }

start_each : (o : Opening) (y : Stored) (j : ℕ) (v : View) → get_elem? (newcomer o ∷ []) j ≡ core.some v → Fits o start 1 (home y) j v
start_each o y zero v e = subst (Fits o start 1 (home y) 0) (core.some-injective (newcomer o) v e) (start_fits o y)
start_each o y (suc j) v e = absurd (core.some-ne-none v (sym e))

pub begins : (o : Opening) (y : Stored) (bells : List ℕ) → Holds o [] y → Kept o (opening (0 ∷ 0 ∷ 0 ∷ 0 ∷ bells) (Some y ∷ []) (newcomer o))
begins o y bells holds = record {
  a = start;
  bells = bells;
  words_are = refl;
  few = omega arith;
  legal = tt;
  unused = λ n l. refl;
  tickets = refl;
  numbers = omega arith;
  each = start_each o y;
  held = λ t low high. absurd (omega arith);
  placed = inl (y, refl, holds);
}
