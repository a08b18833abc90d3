-- Histories of what happened to many connections.
use Rattle.std.proofs.Common.{◌≡◌, ◌≢◌, inl, inr, ℕ, ◌+◌, ◌==◌, Bool, true, false, List, [], ◌∷◌, ◌++◌, length, Option, Some, None, IsSome, refl, sym, ap, ◌∙◌, subst, append_assoc, append-nil, eq-eqb, ne_eqb, arith}
use Rattle.std.proofs.lemmas.Bool.{cases_eq}
use Rattle.std.specs.Prelude.{if◌then◌else◌}
use Rattle.modbus_service.specs.Answering.{Answering}
use Rattle.modbus_server.specs.Framing.{Framing}
use Rattle.modbus_hub.specs.declared.turn.Turn.{Turn}
use Rattle.modbus_hub.specs.Turn.{Said, RunOver}
use Rattle.modbus_hub.specs.Events.{Event, came, refused, told, turned, dropped, Account, KeyAccount, told_more, after_turn, account_after, account_of, by_key, HasAnyTurn, TurnsAmong, turns_of, links_of}
use Rattle.modbus_hub.specs.Seats.{PolledMeaning, AsksNone, RunsOn, IsTurnOf, StaysOrTurns, DropsNone, ServesInTurn}

none_more : (n : ℕ) → n ≡ 0 + n
none_more n = omega arith

count_more : (b : Bool) (n m k : ℕ) → n ≡ m + k → (if b then n + 1 else n) ≡ (if b then m + 1 else m) + k
count_more true n m k e = omega (arith, e)
count_more false n m k e = e

turns_told : (L : Type 0) (key j : ℕ) (xs : List Said) → turns_of {L = L} key (by_key j xs) ≡ 0
turns_told L key j [] = refl
turns_told L key j (x ∷ xs) = turns_told L key j xs

module _ {L : Type 0} where
  pub at_key : (key j : ℕ) (here there : KeyAccount L) → j ≡ key → (if j == key then here else there) ≡ here
  at_key key j here there e = ap (λ (b : Bool). if b then here else there) (eq-eqb j key e)

  pub off_key : (key j : ℕ) (here there : KeyAccount L) → j ≢ key → (if j == key then here else there) ≡ there
  off_key key j here there e = ap (λ (b : Bool). if b then here else there) (ne_eqb j key e)

  pub account_more : (key : ℕ) (account : KeyAccount L) (xs ys : List (Event L)) → account_of key account (xs ++ ys) ≡ account_of key (account_of key account xs) ys
  account_more key account [] ys = refl
  account_more key account (x ∷ xs) ys = account_more key (account_after key account x) xs ys

  account_as : (account : Account L) (own own' : List Said) (n n' : ℕ) → own ≡ own' → n ≡ n'
      → Some (record account { own = own; in_turn = n }) ≡ Some (record account { own = own'; in_turn = n' })
  account_as account own own' n n' e f =
      ap (λ (l : List Said). Some (record account { own = l; in_turn = n })) e ∙ ap (λ (m : ℕ). Some (record account { own = own'; in_turn = m })) f

  -- the account of a key after what its connection was told
  pub account_told : (key : ℕ) (account : Account L) (fresh : List Said)
      → account_of key (Some account) (by_key key fresh) ≡ Some (record account { own = account.own ++ fresh; in_turn = account.in_turn + length fresh })
  account_told key account [] =
      account_as account account.own (account.own ++ []) account.in_turn (account.in_turn + length {A = Said} []) (sym (append-nil account.own)) (omega arith)
  account_told key account (x ∷ xs) =
      ap (λ (a : KeyAccount L). account_of key a (by_key key xs)) (at_key key key (told_more x (Some account)) (Some account) refl)
      ∙ account_told key (record account { own = account.own ++ x ∷ []; in_turn = account.in_turn + 1 }) xs
      ∙ account_as account ((account.own ++ x ∷ []) ++ xs) (account.own ++ x ∷ xs) (account.in_turn + 1 + length xs) (account.in_turn + length (x ∷ xs)) (append_assoc account.own (x ∷ []) xs) (omega arith)

  -- and after what another was told
  pub account_other : (key j : ℕ) (account : KeyAccount L) (fresh : List Said) → j ≢ key → account_of key account (by_key j fresh) ≡ account
  account_other key j account [] e = refl
  account_other key j account (x ∷ xs) e =
      ap (λ (a : KeyAccount L). account_of key a (by_key j xs)) (off_key key j (told_more x account) account e) ∙ account_other key j account xs e

  pub links_more : (xs ys : List (Event L)) → links_of (xs ++ ys) ≡ links_of xs ++ links_of ys
  links_more [] ys = refl
  links_more (came key link ∷ xs) ys = ap (λ (l : List L). link ∷ l) (links_more xs ys)
  links_more (refused cause link ∷ xs) ys = ap (λ (l : List L). link ∷ l) (links_more xs ys)
  links_more (told key x ∷ xs) ys = links_more xs ys
  links_more (turned key link turn ∷ xs) ys = links_more xs ys
  links_more (dropped key ∷ xs) ys = links_more xs ys

  pub links_told : (key : ℕ) (xs : List Said) → links_of {L = L} (by_key key xs) ≡ []
  links_told key [] = refl
  links_told key (x ∷ xs) = links_told key xs

  -- more happens before or after a turn
  pub turn_before : (key : ℕ) (xs ys : List (Event L)) → HasAnyTurn key ys → HasAnyTurn key (xs ++ ys)
  turn_before key xs ys (earlier, later, link, turn, e) =
      (xs ++ earlier, later, link, turn, ap (λ (l : List (Event L)). xs ++ l) e ∙ sym (append_assoc xs earlier (turned key link turn ∷ later)))

  pub turn_after : (key : ℕ) (xs ys : List (Event L)) → HasAnyTurn key xs → HasAnyTurn key (xs ++ ys)
  turn_after key xs ys (earlier, later, link, turn, e) =
      (earlier, later ++ ys, link, turn, ap (λ (l : List (Event L)). l ++ ys) e ∙ append_assoc earlier (turned key link turn ∷ later) ys)

  pub turns_more : (key : ℕ) (xs ys : List (Event L)) → turns_of key (xs ++ ys) ≡ turns_of key xs + turns_of key ys
  turns_more key [] ys = none_more (turns_of key ys)
  turns_more key (came j link ∷ xs) ys = turns_more key xs ys
  turns_more key (refused cause link ∷ xs) ys = turns_more key xs ys
  turns_more key (told j x ∷ xs) ys = turns_more key xs ys
  turns_more key (turned j link turn ∷ xs) ys = count_more (j == key) (turns_of key (xs ++ ys)) (turns_of key xs) (turns_of key ys) (turns_more key xs ys)
  turns_more key (dropped j ∷ xs) ys = turns_more key xs ys

  -- what happens without the service is no turn
  pub turns_aside : (key : ℕ) (earlier more : List (Event L)) → AsksNone earlier more → turns_of key more ≡ 0
  turns_aside key earlier [] none = refl
  turns_aside key earlier (came j link ∷ more) (vacant, none) = turns_aside key (earlier ++ came j link ∷ []) more none
  turns_aside key earlier (refused cause link ∷ more) none = turns_aside key (earlier ++ refused cause link ∷ []) more none
  turns_aside key earlier (dropped j ∷ more) none = turns_aside key (earlier ++ dropped j ∷ []) more none
  turns_aside key earlier (told j x ∷ more) none = absurd none
  turns_aside key earlier (turned j link turn ∷ more) none = absurd none

  last_turn : (key j : ℕ) (last : L) (turn : Turn) (b : Bool) → (j == key) ≡ b → turns_of key (turned j last turn ∷ []) ≡ (if b then 1 else 0)
  last_turn key j last turn b e = ap (λ (c : Bool). if c then 1 else 0) e

  -- the turn of one key is one
  pub turn_among : (key : ℕ) (turn : Option Turn) (history more : List (Event L)) → IsTurnOf key turn history more → TurnsAmong (λ k. k ≡ key) more
  turn_among key None history more (none, account) k = inl (ap (turns_of k) none)
  turn_among key (Some turn) history more (fresh, last, e) k =
      let sum = turns_more k (by_key key fresh) (turned key last turn ∷ []) in
      let before = turns_told L k key fresh in
      let all = ap (turns_of k) e in
      elim (cases_eq k key) [
        | inl same ↦ let one = last_turn k key last turn true (eq-eqb key k (sym same)) in inr (same, omega (arith, all, sum, before, one))
        | inr differs ↦ let none = last_turn k key last turn false (ne_eqb key k (λ f. differs (sym f))) in inl (omega (arith, all, sum, before, none))
      ]

  pub among_as : (P Q : ℕ → Type 0) (xs : List (Event L)) → TurnsAmong P xs → ((key : ℕ) → P key → Q key) → TurnsAmong Q xs
  among_as P Q xs first says key =
      elim (first key) [
        | inl none ↦ inl none
        | inr one ↦ inr (says key one.0, one.1)
      ]

  -- turns of some, and then of others
  pub among_both : (P Q R : ℕ → Type 0) (xs ys : List (Event L)) → TurnsAmong P xs → TurnsAmong Q ys → ((key : ℕ) → P key → R key) → ((key : ℕ) → Q key → R key)
      → ((key : ℕ) → P key → Q key → ⊥) → TurnsAmong R (xs ++ ys)
  among_both P Q R xs ys first second left right apart key =
      let sum = turns_more key xs ys in
      elim (first key) [
        | inl none ↦
            elim (second key) [
              | inl nothing ↦ inl (omega (arith, sum, none, nothing))
              | inr one ↦ inr (right key one.0, omega (arith, sum, none, one.1))
            ]
        | inr had ↦
            elim (second key) [
              | inl nothing ↦ inr (left key had.0, omega (arith, sum, had.1, nothing))
              | inr one ↦ absurd (apart key had.0 one.0)
            ]
      ]

  -- where nothing happens each connection stays
  pub stays_none : (history : List (Event L)) → StaysOrTurns history []
  stays_none history key here = inr (subst (λ (h : List (Event L)). IsSome (account_of key None h)) (sym (append-nil history)) here)

  stays_both : (history xs ys : List (Event L)) → StaysOrTurns history xs → StaysOrTurns (history ++ xs) ys → StaysOrTurns history (xs ++ ys)
  stays_both history xs ys first second key here =
      elim (first key here) [
        | inl had ↦ inl (turn_after key xs ys had)
        | inr there ↦
            elim (second key there) [
              | inl had ↦ inl (turn_before key xs ys had)
              | inr stays ↦ inr (subst (λ (h : List (Event L)). IsSome (account_of key None h)) (append_assoc history xs ys) stays)
            ]
      ]

  pub none_both : (xs ys : List (Event L)) → DropsNone xs → DropsNone ys → DropsNone (xs ++ ys)
  none_both [] ys first second = second
  none_both (came key link ∷ xs) ys first second = none_both xs ys first second
  none_both (refused cause link ∷ xs) ys first second = none_both xs ys first second
  none_both (told key x ∷ xs) ys first second = none_both xs ys first second
  none_both (turned key link turn ∷ xs) ys first second = none_both xs ys first second
  none_both (dropped key ∷ xs) ys first second = absurd first

  none_turned : (key : ℕ) (last : L) (turn : Turn) (fresh : List Said) → DropsNone (by_key key fresh ++ turned key last turn ∷ [])
  none_turned key last turn [] = tt
  none_turned key last turn (x ∷ xs) = none_turned key last turn xs

  pub serves_both : (history xs ys : List (Event L)) → ServesInTurn history xs → ServesInTurn (history ++ xs) ys → ServesInTurn history (xs ++ ys)
  serves_both history xs ys first second = (
    links_more xs ys ∙ ap (λ (l : List L). l ++ links_of ys) first.0 ∙ second.0,
    stays_both history xs ys first.1 second.1,
    none_both xs ys first.2 second.2,
  )

  -- what the turn of one key does to the account of another
  other_account : (key k : ℕ) (turn : Turn) (last : L) (fresh : List Said) (history : List (Event L)) → k ≢ key
      → account_of k None (history ++ (by_key key fresh ++ turned key last turn ∷ [])) ≡ account_of k None history
  other_account key k turn last fresh history differs =
      account_more k None history (by_key key fresh ++ turned key last turn ∷ [])
      ∙ account_more k (account_of k None history) (by_key key fresh) (turned key last turn ∷ [])
      ∙ ap (λ (a : KeyAccount L). account_of k a (turned key last turn ∷ [])) (account_other k key (account_of k None history) fresh (λ e. differs (sym e)))
      ∙ off_key k key (after_turn last turn (account_of k None history)) (account_of k None history) (λ e. differs (sym e))

  -- in a turn no link comes, and each other connection stays
  pub turn_serves : (key : ℕ) (turn : Option Turn) (history more : List (Event L)) → IsTurnOf key turn history more → ServesInTurn history more
  turn_serves key None history more (none, account) = subst (λ (l : List (Event L)). ServesInTurn history l) (sym none) (refl, stays_none history, tt)
  turn_serves key (Some turn) history more (fresh, last, e) =
      subst (λ (l : List (Event L)). ServesInTurn history l) (sym e) (
        links_more (by_key key fresh) (turned key last turn ∷ []) ∙ ap (λ (l : List L). l ++ []) (links_told key fresh),
        λ k here.
            elim (cases_eq k key) [
              | inl same ↦ inl (subst (λ (n : ℕ). HasAnyTurn n (by_key key fresh ++ turned key last turn ∷ [])) (sym same) (by_key key fresh, [], last, turn, refl))
              | inr differs ↦ inr (subst (λ (a : KeyAccount L). IsSome a) (sym (other_account key k turn last fresh history differs)) here)
            ],
        none_turned key last turn fresh,
      )

module _ (F : Framing) {S : Type 0} (A : Answering S) {L : Type 0} (M : PolledMeaning L) where
  pub runs_both : (earlier xs ys : List (Event L)) (a b c : S) → RunsOn F A M earlier a xs b → RunsOn F A M (earlier ++ xs) b ys c → RunsOn F A M earlier a (xs ++ ys) c
  runs_both earlier [] ys a b c first second =
      subst (λ (s : S). RunsOn F A M earlier s ys c) first (subst (λ (l : List (Event L)). RunsOn F A M l b ys c) (append-nil earlier) second)
  runs_both earlier (x ∷ xs) ys a b c (next, step, rest) second =
      (next, step, runs_both (earlier ++ x ∷ []) xs ys next b c rest (subst (λ (l : List (Event L)). RunsOn F A M l b ys c) (sym (append_assoc earlier (x ∷ []) xs)) second))

  is_some : (account : Account L) (slot : KeyAccount L) → slot ≡ Some account → IsSome slot
  is_some account slot e = subst (λ (a : KeyAccount L). IsSome a) (sym e) refl

  -- the service's own run is one of the connection under a key
  pub runs_told : (key : ℕ) (account : Account L) (fresh : List Said) (earlier : List (Event L)) (a b : S) → account_of key None earlier ≡ Some account → RunOver A a fresh b
      → RunsOn F A M earlier a (by_key key fresh) b
  runs_told key account [] earlier a b here run = run
  runs_told key account (x ∷ xs) earlier a b here (next, step, rest) =
      let on : account_of key None (earlier ++ told key x ∷ []) ≡ Some (record account { own = account.own ++ x ∷ []; in_turn = account.in_turn + 1 }) =
      account_more key None earlier (told key x ∷ []) ∙ ap (λ (slot : KeyAccount L). account_of key slot (told key x ∷ [])) here
      ∙ at_key key key (told_more x (Some account)) (Some account) refl in
      (next, (is_some account (account_of key None earlier) here, step), runs_told key (record account { own = account.own ++ x ∷ []; in_turn = account.in_turn + 1 }) xs (earlier ++ told key x ∷ []) next b on rest)
