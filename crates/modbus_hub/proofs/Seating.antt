-- Connections that take turns at one service, over one event after another.
use Rattle.std.proofs.Common.{◌≡◌, ◌≢◌, inl, inr, ℕ, ◌+◌, List, [], ◌∷◌, ◌++◌, length, Option, Some, None, IsSome, refl, sym, ap, ◌∙◌, subst, append_assoc, append-nil, Ok, arith, Bool, true, false, IsTrue}
use Rattle.std.proofs.lemmas.Bool.{cases_eq}
use Rattle.std.proofs.lemmas.List.Elements.{All-nil}
use Rattle.modbus_link.specs.Line.{LinkMeaning}
use Rattle.modbus_link.specs.Passes.{Passes, passes_none}
use Rattle.modbus_server.specs.Framing.{Framing}
use Rattle.modbus_server.specs.Exchanges.{ReplyFits}
use Rattle.modbus_service.specs.Answering.{Answering}
use Rattle.modbus_hub.specs.declared.turn.Turn.{Turn}
use Rattle.modbus_hub.specs.declared.turn.Turn.TheVariants.{Waiting, Spent, Over}
use Rattle.modbus_hub.specs.declared.turn.TurnLimits.{TurnLimits}
use Rattle.modbus_hub.specs.Turn.{SeatState, SeatStands, TurnLeaves, TakesTurn, IsWithin, is_going_on, is_spent, ends_of}
use Rattle.slab.specs.Slab.{Slab, get, Updates}
use Rattle.modbus_hub.specs.Events.{Event, Refusal, came, refused, told, turned, dropped, Place, Account, begun_with, KeyAccount, after_turn, account_of, by_key, HasAnyTurn, TurnsAmong}
use Rattle.modbus_hub.specs.Seats.{PolledMeaning, polled_by, turns, EndsSo, EndsTurn, RunsOn, AsksNone, IsSeatedAs, AllStand, SeatsStay, AreSeated, SeatsGoOn, IsTurnOf, ServesInTurn, Admits, IsDrop, is_spent_at}
use Rattle.modbus_hub.proofs.Histories.{at_key, off_key, account_more, account_told, account_other, runs_both, runs_told, turn_among, turn_serves}
use Rattle.modbus_link.specs.Outside.{Rose}

-- the seat that a turn leaves
abbrev pub left_by : {L : Type 0} → Turn → Place L → Option (Place L)
left_by Waiting place = Some place
left_by Spent place = Some place
left_by (Over result) place = None

-- a write of a value, and then another at the same key
pub updates_both : {X : Type 0} (a b c : Slab X) (key : ℕ) (x y : Option X) → Updates a b key x → Updates b c key y → Updates a c key y
updates_both a b c key x y first second = record { changed = second.changed; others = λ other differs. second.others other differs ∙ first.others other differs }

-- a turn has the same limits as before
pub go_under : (F : Framing) {S : Type 0} (A : Answering S) {L : Type 0} (link : LinkMeaning L) (not_ready : L → ℕ) (now then : TurnLimits) (P : List (Event L) → List (Event L) → Type 0)
    (a b : Slab (Place L)) (s t : S) → now ≡ then → SeatsGoOn F A (polled_by link not_ready now) P a b s t → SeatsGoOn F A (polled_by link not_ready then) P a b s t
go_under F A link not_ready now then P a b s t e goes = subst (λ (n : TurnLimits). SeatsGoOn F A (polled_by link not_ready n) P a b s t) e goes

-- a link came, and was dropped for this
abbrev pub Refuses : {L : Type 0} → Refusal → L → List (Event L) → List (Event L) → Type 0
Refuses cause link history more = more ≡ refused cause link ∷ []

-- the turn of a key is one of a connection that is there, and no other had a turn
abbrev pub Turned : {L : Type 0} → ℕ → List (Event L) → List (Event L) → Type 0
Turned key history more = ServesInTurn history more × HasAnyTurn key more × TurnsAmong (λ k. k ≡ key) more

asks_both : {L : Type 0} (earlier xs ys : List (Event L)) → AsksNone earlier xs → AsksNone (earlier ++ xs) ys → AsksNone earlier (xs ++ ys)
asks_both earlier [] ys first second = subst (λ (l : List (Event _)). AsksNone l ys) (append-nil earlier) second
asks_both earlier (came key link ∷ xs) ys (none, first) second =
    (none, asks_both (earlier ++ came key link ∷ []) xs ys first (subst (λ (l : List (Event _)). AsksNone l ys) (sym (append_assoc earlier (came key link ∷ []) xs)) second))
asks_both earlier (refused cause link ∷ xs) ys first second =
    asks_both (earlier ++ refused cause link ∷ []) xs ys first (subst (λ (l : List (Event _)). AsksNone l ys) (sym (append_assoc earlier (refused cause link ∷ []) xs)) second)
asks_both earlier (dropped key ∷ xs) ys first second =
    asks_both (earlier ++ dropped key ∷ []) xs ys first (subst (λ (l : List (Event _)). AsksNone l ys) (sym (append_assoc earlier (dropped key ∷ []) xs)) second)
asks_both earlier (told key x ∷ xs) ys first second = absurd first
asks_both earlier (turned key link turn ∷ xs) ys first second = absurd first

-- where the service is not asked
module _ (F : Framing) {L : Type 0} (M : LinkMeaning L) where
  abbrev Seated : KeyAccount L → Option (Place L) → Type 0
  Seated account slot = IsSeatedAs F M account slot

  record Entry (slot : KeyAccount L) (place : Place L) : Type 0 where
    account : Account L
    is : slot ≡ Some account
    is_open : IsTrue place.seat.process.connection.is_open
    stands : SeatStands F M turns account.first account.own place.seat
    last : place.seat.link ≡ account.last
    spent : place.is_spent ≡ account.is_spent
    between : account.in_turn ≡ 0

  seated_some : (account : KeyAccount L) (place : Place L) → Seated account (Some place) → Entry account place
  seated_some None place s = absurd s
  seated_some (Some account) place (is_open, stands, last, spent, between) = record { account = account; is = refl; is_open = is_open; stands = stands; last = last; spent = spent; between = between }

  seated_none : (account : KeyAccount L) → Seated account None → account ≡ None
  seated_none None s = refl
  seated_none (Some account) s = absurd s

  reseated : (a b : KeyAccount L) (p q : Option (Place L)) → a ≡ b → p ≡ q → Seated a p → Seated b q
  reseated a b p q e f s = subst (λ (x : KeyAccount L). Seated x q) e (subst (λ (x : Option (Place L)). Seated a x) f s)

  -- nothing more happens, or some more and then some more
  pub stay_same : (P : List (Event L) → List (Event L) → Type 0) (a b : Slab (Place L)) → ((key : ℕ) → get b key ≡ get a key)
      → ((history : List (Event L)) → AllStand F M history a → P history []) → SeatsStay F M P a b
  stay_same P a b same tells history all = (
    [],
    tt,
    subst (λ (h : List (Event L)). AllStand F M h b) (sym (append-nil history)) (λ key.
        reseated (account_of key None history) (account_of key None history) (get a key) (get b key) refl (sym (same key)) (all key)),
    tells history all,
  )

  pub stay_both : (P Q R : List (Event L) → List (Event L) → Type 0) (a b c : Slab (Place L)) → SeatsStay F M P a b → SeatsStay F M Q b c
      → ((history xs ys : List (Event L)) → P history xs → Q (history ++ xs) ys → R history (xs ++ ys)) → SeatsStay F M R a c
  stay_both P Q R a b c first second joins history all =
      let on = first history all in
      let last = second (history ++ on.0) on.2 in (
        on.0 ++ last.0,
        asks_both history on.0 last.0 on.1 last.1,
        subst (λ (h : List (Event L)). AllStand F M h c) (append_assoc history on.0 last.0) last.2,
        joins history on.0 last.0 on.3 last.3,
      )

  pub stay_as : (P Q : List (Event L) → List (Event L) → Type 0) (a b : Slab (Place L)) → SeatsStay F M P a b
      → ((history more : List (Event L)) → P history more → Q history more) → SeatsStay F M Q a b
  stay_as P Q a b first says history all = let on = first history all in (on.0, on.1, on.2, says history on.0 on.3)

  -- what one event is, which changes the slot of one key
  one_event : (e : Event L) (key : ℕ) (olds news : Slab (Place L)) (slot : Option (Place L)) (history : List (Event L))
      → Updates olds news key slot → AllStand F M history olds
      → ((k : ℕ) → k ≢ key → account_of k (account_of k None history) (e ∷ []) ≡ account_of k None history)
      → Seated (account_of key (account_of key None history) (e ∷ [])) slot
      → AllStand F M (history ++ e ∷ []) news
  one_event e key olds news slot history u all other own k =
      elim (cases_eq k key) [
        | inl same ↦
            subst (λ (n : ℕ). Seated (account_of n None (history ++ e ∷ [])) (get news n)) (sym same)
            (reseated (account_of key (account_of key None history) (e ∷ [])) (account_of key None (history ++ e ∷ [])) slot (get news key)
            (sym (account_more key None history (e ∷ []))) (sym u.changed) own)
        | inr differs ↦
            reseated (account_of k None history) (account_of k None (history ++ e ∷ [])) (get olds k) (get news k)
            (sym (account_more k None history (e ∷ []) ∙ other k differs)) (sym (u.others k differs)) (all k)
      ]

  -- a connection that begins
  begun : (link : L) (place : Place L) → place.seat.link ≡ link → place.seat.process.connection.held ≡ [] → place.seat.process.connection.waiting ≡ []
      → place.seat.process.left ≡ turns → F.StandsFor [] [] [] [] → SeatStands F M turns link [] place.seat
  begun link place is held waiting left stands = record {
    bytes = [];
    made = [];
    written = [];
    exchanges = [];
    told = refl;
    passes = subst (λ (l : L). Passes (ends_of M link) (ends_of M l) [] [] []) (sym is) (passes_none (ends_of M link));
    stands = record {
      stands = record {
        taken = [];
        stands = subst (λ (h : List ℕ). F.StandsFor [] [] h []) (sym held) stands;
        asked = refl;
        fit = All-nil (ReplyFits F);
        wrote = waiting;
        late = ([], sym waiting);
      };
      rises = refl;
      rooms = tt;
      spends = omega (arith, left);
    };
  }

  pub admitted : (E : Type 0) (link : L) (key : ℕ) (place : Place L) (olds news : Slab (Place L)) → Updates olds news key (Some place) → get olds key ≡ None
      → place.seat.link ≡ link → place.seat.process.connection.held ≡ [] → place.seat.process.connection.waiting ≡ [] → IsTrue place.seat.process.connection.is_open
      → place.seat.process.left ≡ turns → place.is_spent ≡ false → F.StandsFor [] [] [] [] → SeatsStay F M (Admits {E = E} link (Ok key)) olds news
  admitted E link key place olds news u vacant is held waiting is_open left unspent stands history all =
      let none : account_of key None history ≡ None =
      seated_none (account_of key None history) (subst (λ (p : Option (Place L)). Seated (account_of key None history) p) vacant (all key)) in
      let account = at_key key key (Some (begun_with link)) (account_of key None history) refl in (
        came key link ∷ [],
        (none, tt),
        one_event (came key link) key olds news (Some place) history u all
            (λ k differs. off_key k key (Some (begun_with link)) (account_of k None history) (λ e. differs (sym e)))
            (subst (λ (a : KeyAccount L). Seated a (Some place)) (sym account) (is_open, begun link place is held waiting left stands, is, unspent, refl)),
        refl,
      )

  pub turned_away : (cause : Refusal) (link : L) (olds news : Slab (Place L)) → ((key : ℕ) → get news key ≡ get olds key)
      → SeatsStay F M (Refuses cause link) olds news
  turned_away cause link olds news same history all = (
    refused cause link ∷ [],
    tt,
    λ k. reseated (account_of k None history) (account_of k None (history ++ refused cause link ∷ [])) (get olds k) (get news k)
        (sym (account_more k None history (refused cause link ∷ []))) (sym (same k)) (all k),
    refl,
  )

  pub let_go : (key : ℕ) (olds news : Slab (Place L)) → Updates olds news key None → SeatsStay F M IsDrop olds news
  let_go key olds news u history all =
      let account = at_key key key None (account_of key None history) refl in (
        dropped key ∷ [],
        tt,
        one_event (dropped key) key olds news None history u all
            (λ k differs. off_key k key None (account_of k None history) (λ e. differs (sym e)))
            (subst (λ (a : KeyAccount L). Seated a None) (sym account) tt),
        tt,
      )

  -- a seat whose connection stays, and whose marks alone changed
  pub kept_marked : (key : ℕ) (olds news : Slab (Place L)) (place now : Place L) → get olds key ≡ Some place → now.seat ≡ place.seat → now.is_spent ≡ place.is_spent
      → Updates olds news key (Some now) → SeatsStay F M IsDrop olds news
  kept_marked key olds news place now here same spent u history all = (
    [],
    tt,
    subst (λ (h : List (Event L)). AllStand F M h news) (sym (append-nil history)) (λ k.
        elim (cases_eq k key) [
          | inl is ↦
              subst (λ (n : ℕ). Seated (account_of n None history) (get news n)) (sym is)
              (subst (λ (p : Option (Place L)). Seated (account_of key None history) p) (sym u.changed)
              (unmarked (account_of key None history) (subst (λ (p : Option (Place L)). Seated (account_of key None history) p) here (all key))))
          | inr differs ↦ subst (λ (p : Option (Place L)). Seated (account_of k None history) p) (sym (u.others k differs)) (all k)
        ]),
    tt,
  )
    where
      unmarked : (account : KeyAccount L) → Seated account (Some place) → Seated account (Some now)
      unmarked None s = absurd s
      unmarked (Some account) (is_open, stands, last, spends, between) = (
        subst (λ (seat : SeatState L). IsTrue seat.process.connection.is_open) (sym same) is_open,
        subst (λ (seat : SeatState L). SeatStands F M turns account.first account.own seat) (sym same) stands,
        subst (λ (seat : SeatState L). seat.link ≡ account.last) (sym same) last,
        spent ∙ spends,
        between,
      )

  no_open : (b : Bool) → b ≡ false → b ≡ true → ⊥
  no_open b e f = cc

  none_seated : (slot : Option (Place L)) → Seated None slot → slot ≡ None
  none_seated None s = refl
  none_seated (Some place) s = absurd s

  unspent : (slot : Option (Place L)) → slot ≡ None → IsTrue (is_spent_at slot) → ⊥
  unspent slot e spent = no_open (is_spent_at slot) (ap is_spent_at e) spent

  turned_by : (key : ℕ) (turn : Option Turn) (olds : Slab (Place L)) (history more : List (Event L)) → AllStand F M history olds
      → IsTrue (is_spent_at (get olds key)) → IsTurnOf key turn history more → Turned key history more
  turned_by key None olds history more each spent (none, account) =
      absurd (unspent (get olds key) (none_seated (get olds key) (subst (λ (a : KeyAccount L). Seated a (get olds key)) account (each key))) spent)
  turned_by key (Some turn) olds history more each spent (fresh, last, e) = (
    turn_serves key (Some turn) history more (fresh, last, e),
    (by_key key fresh, [], last, turn, e),
    turn_among key (Some turn) history more (fresh, last, e),
  )

  -- a connection whose last turn was cut off has an account
  pub there_if_spent : (account : KeyAccount L) (slot : Option (Place L)) → Seated account slot → IsTrue (is_spent_at slot) → IsSome account
  there_if_spent None None s spent = absurd (no_open false refl spent)
  there_if_spent None (Some place) s spent = absurd s
  there_if_spent (Some account) slot s spent = refl

  -- what is told, and that it was no turn
  pub stay_aside : (P : List (Event L) → List (Event L) → Type 0) (a b : Slab (Place L)) → SeatsStay F M P a b → SeatsStay F M (λ history more. P history more × AsksNone history more) a b
  stay_aside P a b stays history all = let on = stays history all in (on.0, on.1, on.2, (on.3, on.1))

module _ (F : Framing) {S : Type 0} (A : Answering S) {L : Type 0} (M : PolledMeaning L) where
  runs_aside : (earlier xs : List (Event L)) (s : S) → AsksNone earlier xs → RunsOn F A M earlier s xs s
  runs_aside earlier [] s none = refl
  runs_aside earlier (came key link ∷ xs) s (vacant, none) = (s, (vacant, refl), runs_aside (earlier ++ came key link ∷ []) xs s none)
  runs_aside earlier (refused cause link ∷ xs) s none = (s, refl, runs_aside (earlier ++ refused cause link ∷ []) xs s none)
  runs_aside earlier (dropped key ∷ xs) s none = (s, refl, runs_aside (earlier ++ dropped key ∷ []) xs s none)
  runs_aside earlier (told key x ∷ xs) s none = absurd none
  runs_aside earlier (turned key link turn ∷ xs) s none = absurd none

  -- what happens without the service leaves it as it is
  pub seated_aside : (start service : S) (history more : List (Event L)) (old new : Slab (Place L)) → AreSeated F A M start history old service → AsksNone history more
      → AllStand F M.link (history ++ more) new → AreSeated F A M start (history ++ more) new service
  seated_aside start service history more old new all none stand =
      record { run = runs_both F A M [] history more start service service all.run (runs_aside history more service none); each = stand }

  pub go_aside : (P : List (Event L) → List (Event L) → Type 0) (a b : Slab (Place L)) (s : S) → SeatsStay F M.link P a b → SeatsGoOn F A M P a b s s
  go_aside P a b s stays start history all =
      let on = stays history all.each in (on.0, seated_aside start s history on.0 a b all on.1 on.2, on.3)

  pub go_same : (P : List (Event L) → List (Event L) → Type 0) (a : Slab (Place L)) (s : S) → ((history : List (Event L)) → P history []) → SeatsGoOn F A M P a a s s
  go_same P a s tells = go_aside P a a s (stay_same F M.link P a a (λ key. refl) (λ history all. tells history))

  pub go_both : (P Q R : List (Event L) → List (Event L) → Type 0) (a b c : Slab (Place L)) (s t u : S) → SeatsGoOn F A M P a b s t → SeatsGoOn F A M Q b c t u
      → ((history xs ys : List (Event L)) → P history xs → Q (history ++ xs) ys → R history (xs ++ ys)) → SeatsGoOn F A M R a c s u
  go_both P Q R a b c s t u first second joins start history all =
      let on = first start history all in
      let last = second start (history ++ on.0) on.1 in (
        on.0 ++ last.0,
        subst (λ (h : List (Event L)). AreSeated F A M start h c u) (append_assoc history on.0 last.0) last.1,
        joins history on.0 last.0 on.2 last.2,
      )

  pub go_as : (P Q : List (Event L) → List (Event L) → Type 0) (a b : Slab (Place L)) (s t : S) → SeatsGoOn F A M P a b s t
      → ((history more : List (Event L)) → P history more → Q history more) → SeatsGoOn F A M Q a b s t
  go_as P Q a b s t first says start history all = let on = first start history all in (on.0, on.1, says history on.0 on.2)

  -- what is told, and how the connections stood before
  pub go_standing : (P : List (Event L) → List (Event L) → Type 0) (a b : Slab (Place L)) (s t : S) → SeatsGoOn F A M P a b s t
      → SeatsGoOn F A M (λ history more. P history more × AllStand F M.link history a) a b s t
  go_standing P a b s t goes start history all = let on = goes start history all in (on.0, on.1, (on.2, all.each))

  -- there is no connection under the key that goes on
  pub is_absent : (key : ℕ) (olds news : Slab (Place L)) (s : S) → get olds key ≡ None → ((k : ℕ) → get news k ≡ get olds k) → SeatsGoOn F A M (IsTurnOf key None) olds news s s
  is_absent key olds news s none same =
      go_aside (IsTurnOf key None) olds news s (stay_same F M.link (IsTurnOf key None) olds news same (λ history all.
      (refl, seated_none F M.link (account_of key None history) (subst (λ (p : Option (Place L)). IsSeatedAs F M.link (account_of key None history) p) none (all key)))))

  pub is_closed : (key : ℕ) (olds news : Slab (Place L)) (s : S) (place : Place L) → get olds key ≡ Some place → place.seat.process.connection.is_open ≡ false
      → ((k : ℕ) → get news k ≡ get olds k) → SeatsGoOn F A M (IsTurnOf key None) olds news s s
  is_closed key olds news s place here shut same =
      go_aside (IsTurnOf key None) olds news s (stay_same F M.link (IsTurnOf key None) olds news same (λ history all.
      let entry = seated_some F M.link (account_of key None history) place (subst (λ (p : Option (Place L)). IsSeatedAs F M.link (account_of key None history) p) here (all key)) in
      absurd (no_open F M.link place.seat.process.connection.is_open shut entry.is_open)))

  pub turned_where : (key : ℕ) (turn : Option Turn) (olds news : Slab (Place L)) (s t : S) → IsTrue (is_spent_at (get olds key)) → SeatsGoOn F A M (IsTurnOf key turn) olds news s t
      → SeatsGoOn F A M (Turned key) olds news s t
  turned_where key turn olds news s t spent goes start history all =
      let on = goes start history all in (on.0, on.1, turned_by F M.link key turn olds history on.0 all.each spent on.2)

  -- the connection under a key had its turn
  module _ (key : ℕ) (olds news : Slab (Place L)) (old new : Place L) (before after : S) (here : get olds key ≡ Some old) where
    ends_so : (account : Account L) (ends : S) (turn : Turn) → old.seat.link ≡ account.last → (turn ≡ Waiting → Rose (M.not_ready old.seat.link) (M.not_ready new.seat.link))
        → TurnLeaves F A M.link turns account.first account.own new.seat ends after turn → EndsSo F A M account new.seat.link ends after turn
    ends_so account ends Waiting last waited leaves = (leaves.0, subst (λ (l : L). Rose (M.not_ready l) (M.not_ready new.seat.link)) last (waited refl))
    ends_so account ends Spent last waited leaves = leaves.0
    ends_so account ends (Over result) last waited leaves = leaves

    sits_so : (account : Account L) (ends : S) (turn : Turn) → new.seat.process.connection.is_open ≡ is_going_on turn → new.is_spent ≡ is_spent turn
        → TurnLeaves F A M.link turns account.first account.own new.seat ends after turn → IsSeatedAs F M.link (after_turn new.seat.link turn (Some account)) (left_by turn new)
    sits_so account ends Waiting is_open spent leaves = (is_open, leaves.1, refl, spent, refl)
    sits_so account ends Spent is_open spent leaves = (is_open, leaves.1, refl, spent, refl)
    sits_so account ends (Over result) is_open spent leaves = tt

    pub served : (turn : Turn) → TakesTurn F A M.link M.limits old.seat new.seat before after turn → new.seat.process.connection.is_open ≡ is_going_on turn
        → (turn ≡ Waiting → Rose (M.not_ready old.seat.link) (M.not_ready new.seat.link)) → new.is_spent ≡ is_spent turn
        → Updates olds news key (left_by turn new) → SeatsGoOn F A M (IsTurnOf key (Some turn)) olds news before after
    served turn takes is_open waited spent u start history all =
        let entry = seated_some F M.link (account_of key None history) old (subst (λ (p : Option (Place L)). IsSeatedAs F M.link (account_of key None history) p) here (all.each key)) in
        let was = entry.account in
        let fresh = takes.0 in
        let on = takes.5 turns was.first was.own entry.stands in
        let now : Account L = record was { own = was.own ++ fresh; in_turn = was.in_turn + length fresh } in
        let count : length fresh ≡ now.in_turn = let between = entry.between in omega (arith, between) in
        let within : IsWithin M.link M.limits now.last new.seat.link now.in_turn turn =
        subst (λ (n : ℕ). IsWithin M.link M.limits now.last new.seat.link n turn) count
        (subst (λ (l : L). IsWithin M.link M.limits l new.seat.link (length fresh) turn) entry.last takes.3) in
        let last : List (Event L) = turned key new.seat.link turn ∷ [] in
        let more : List (Event L) = by_key key fresh ++ last in
        let then_told : account_of key None (history ++ by_key key fresh) ≡ Some now =
        account_more key None history (by_key key fresh) ∙ ap (λ (a : KeyAccount L). account_of key a (by_key key fresh)) entry.is ∙ account_told key was fresh in
        let then_ends : account_of key None (history ++ more) ≡ after_turn new.seat.link turn (Some now) =
        ap (λ (h : List (Event L)). account_of key None h) (sym (append_assoc history (by_key key fresh) last))
        ∙ account_more key None (history ++ by_key key fresh) last ∙ ap (λ (a : KeyAccount L). account_of key a last) then_told
        ∙ at_key key key (after_turn new.seat.link turn (Some now)) (Some now) refl in
        let others : (k : ℕ) → k ≢ key → account_of k None (history ++ more) ≡ account_of k None history =
        λ k differs. account_more k None history more ∙ account_more k (account_of k None history) (by_key key fresh) last
        ∙ ap (λ (a : KeyAccount L). account_of k a last) (account_other k key (account_of k None history) fresh (λ e. differs (sym e)))
        ∙ off_key k key (after_turn new.seat.link turn (account_of k None history)) (account_of k None history) (λ e. differs (sym e)) in
        let ending = subst (λ (a : KeyAccount L). EndsTurn F A M a new.seat.link takes.1 after turn) (sym then_told) (within, ends_so now takes.1 turn entry.last waited on) in (
          more,
          record {
            run = runs_both F A M [] history more start before after all.run
                (runs_both F A M history (by_key key fresh) last before takes.1 after (runs_told F A M key was fresh history before takes.1 entry.is takes.2) (after, ending, refl));
            each = λ k.
                elim (cases_eq k key) [
                  | inl same ↦
                      subst (λ (n : ℕ). IsSeatedAs F M.link (account_of n None (history ++ more)) (get news n)) (sym same)
                      (reseated F M.link (after_turn new.seat.link turn (Some now)) (account_of key None (history ++ more)) (left_by turn new) (get news key)
                      (sym then_ends) (sym u.changed) (sits_so now takes.1 turn is_open spent on))
                  | inr differs ↦
                      reseated F M.link (account_of k None history) (account_of k None (history ++ more)) (get olds k) (get news k)
                      (sym (others k differs)) (sym (u.others k differs)) (all.each k)
                ];
          },
          (fresh, new.seat.link, refl),
        )
