-- What the rule of the lock comes to, and that a list of calls has one legal history.
use Rattle.std.proofs.Common.{◌≡◌, ℕ, ◌≤◌, ◌<◌, inl, inr, List, [], ◌∷◌, sym, refl, ap, ◌∙◌, subst, arith, ⊎_elim, Some, map, get_or}
use Rattle.modbus_service.specs.Outcome.{silence}
use Rattle.modbus_store.specs.Tables.{Tables}
use Rattle.modbus_store.specs.Legal.{Call, call, CallAsked, asking_of, answer_to, tables_after, IsLegal, calls_by, StartsWith}
use Rattle.modbus_store.specs.Views.{Opening, CallStage, resting, waiting, serving, View}
use Rattle.modbus_store.specs.Lock.{HasTicket, Kept, NumberFits, StageFits}
use Rattle.modbus_store.specs.Orderly.{Knows, seats, IsOrderly}
use Rattle.modbus_store.proofs.Keeps.{St, drawn_few}
use Rattle.modbus_store.proofs.Histories.{front_of_front, legal-front, calls_by-append}

-- the call as it is answered here
abbrev answered : Tables → CallAsked → Call
answered t a = call a.number a.slave a.asked (answer_to t (call a.number a.slave a.asked silence))

-- the history of these calls
abbrev history_of : Tables → List CallAsked → List Call
history_of t [] = []
history_of t (a ∷ all) = answered t a ∷ history_of (tables_after t (answered t a)) all

history_legal : (t : Tables) (all : List CallAsked) → IsLegal t (history_of t all)
history_legal t [] = tt
history_legal t (a ∷ all) = (refl, history_legal (tables_after t (answered t a)) all)

history_asks : (t : Tables) (all : List CallAsked) → map asking_of (history_of t all) ≡ all
history_asks t [] = refl
history_asks t (a ∷ all) = λ i. a ∷ history_asks (tables_after t (answered t a)) all i

pub one_history : (t : Tables) (all : List CallAsked) → (history : List Call) × IsLegal t history × (map asking_of history ≡ all)
one_history t all = (history_of t all, history_legal t all, history_asks t all)

-- a legal history is the one of its calls
history_is : (t : Tables) (cs : List Call) → IsLegal t cs → cs ≡ history_of t (map asking_of cs)
history_is t [] legal = refl
history_is t (c ∷ cs) legal = λ i. call c.number c.slave c.asked (legal.0 i) ∷ history_is (tables_after t c) cs legal.1 i

pub no_other_history : (t : Tables) (one other : List Call) → IsLegal t one → IsLegal t other → map asking_of one ≡ map asking_of other → one ≡ other
no_other_history t one other p q same = history_is t one p ∙ (ap (history_of t) same ∙ sym (history_is t other q))

module _ (o : Opening) (s : St) (k : Kept o s) where
  words : seats s ≡ k.a.seats
  words = ap (λ (ws : List ℕ). get_or ws 3 0) k.words_are

  number_of : (j : ℕ) (v : View) (n : ℕ) → Knows s j v → v.number ≡ Some n → (n < k.a.seats) × (k.a.who n ≡ j) × (calls_by n k.a.log ≡ v.mine) × (calls_by n v.seen ≡ v.mine)
  number_of j v n at is = subst (NumberFits o k.a j v) is (k.each j v at).number

  ticket_of_stage : (j t : ℕ) (st : CallStage) → StageFits o k.a s.homes j st → HasTicket t st → (k.a.served ≤ t) × (t < k.a.drawn) × (k.a.holder t ≡ j)
  ticket_of_stage j t resting f h = absurd h
  ticket_of_stage j t (waiting own) f h = subst (λ (x : ℕ). (k.a.served ≤ x) × (x < k.a.drawn) × (k.a.holder x ≡ j)) h f
  ticket_of_stage j t (serving own known) f h = subst (λ (x : ℕ). (k.a.served ≤ x) × (x < k.a.drawn) × (k.a.holder x ≡ j)) h (let e = f.0 in omega arith, f.1, f.2)

  ticket_in : (j t : ℕ) (v : View) → Knows s j v → HasTicket t v.stage → (k.a.served ≤ t) × (t < k.a.drawn) × (k.a.holder t ≡ j)
  ticket_in j t v at h = ticket_of_stage j t v.stage (k.each j v at).stage h

  seen_legal : (j : ℕ) (v : View) → Knows s j v → IsLegal o.tables v.seen
  seen_legal j v at = let f = (k.each j v at).seen in legal-front o.tables v.seen f.0 (subst (IsLegal o.tables) f.1 k.legal)

  -- the calls of a number in a front of the history
  own_in_front : (i j : ℕ) (v w : View) (n : ℕ) → Knows s i v → Knows s j w → v.number ≡ Some n → StartsWith v.mine (calls_by n w.seen)
  own_in_front i j v w n at there is =
      let f = (k.each j w there).seen in
      (calls_by n f.0, sym (number_of i v n at is).2 ∙ (ap (calls_by n) f.1 ∙ calls_by-append n w.seen f.0))

  pub orderly : IsOrderly o s
  orderly = record {
    history = k.a.log;
    drawn = k.a.drawn;
    served = k.a.served;
    ticket = ap (λ (ws : List ℕ). get_or ws 0 0) k.words_are;
    serves = ap (λ (ws : List ℕ). get_or ws 1 0) k.words_are;
    count = ap (λ (ws : List ℕ). get_or ws 2 0) k.words_are;
    few_seats = let f = k.few in omega (arith, words);
    few_tickets = drawn_few o s k;
    legal = k.legal;
    unused = λ n above. k.unused n (omega (arith, words));
    opening = λ j v at. (k.each j v at).same;
    unnumbered = λ j v at is. subst (NumberFits o k.a j v) is (k.each j v at).number;
    alone = λ j v at first. let f = (k.each j v at).alone first in (f.0, words ∙ f.1, f.2);
    numbers = λ j v n at is. let below = (number_of j v n at is).0 in omega (arith, words);
    numbers_differ = λ i j v w n at there a b. sym (number_of i v n at a).1 ∙ (number_of j w n there b).1;
    last_drawn = λ j v at. let f = (k.each j v at).drawn in omega (arith, words);
    tickets = λ j v t at h. let f = ticket_in j t v at h in (f.0, f.1);
    tickets_differ = λ i j v w t at there a b. sym (ticket_in i t v at a).2 ∙ (ticket_in j t w there b).2;
    tickets_held = λ t low high. let h = k.held t low high in (k.a.holder t, h.0, h.1, h.2);
    turn = λ j v t known at is. let f = subst (StageFits o k.a s.homes j) is (k.each j v at).stage in (f.0, f.3, f.4);
    slot = ⊎_elim (λ h. inl h) (λ h. inr (h.0, (k.a.holder k.a.served, h.2.0, h.2.1, h.2.2))) k.placed;
    seen = λ j v at. ((k.each j v at).seen, seen_legal j v at);
    in_line = λ i j v w at there le. front_of_front k.a.log v.seen w.seen (k.each i v at).seen (k.each j w there).seen le;
    own = λ j v n at is. let f = number_of j v n at is in (f.2, f.3);
    own_elsewhere = own_in_front;
    joined = λ j v at. (k.each j v at).joined;
  }
