-- The rule of the lock, over all views. The words are `ticket`, `serving`, `count` and `seats`, and two that passes sleep on, of which the
-- rule says nothing. In the proof tickets count on past 2^64.
use Rattle.std.specs.Prelude.{◌≡◌, ℕ, ◌+◌, ◌%◌, ◌^◌, ◌<◌, ◌≤◌, true, false, Bool, ◌⊎◌, List, [], ◌∷◌, length, Option, Some, None, is_some}
use mathlib.Core.Option as core
use lib.ListN.{get_elem?}
use Rattle.atomic_table.specs.Table.{State}
use Rattle.modbus_store.specs.declared.lock.Stored.{Stored}
use Rattle.modbus_store.specs.Legal.{Call, replay, IsLegal, calls_by, StartsWith}
use Rattle.modbus_store.specs.Views.{Opening, CallStage, resting, waiting, serving, View}

-- how many tickets a seat holds, and how many numbers it has: none or one
abbrev pub tickets_of : CallStage → ℕ
tickets_of resting = 0
tickets_of (waiting t) = 1
tickets_of (serving t known) = 1

abbrev pub numbers_of : Option ℕ → ℕ
numbers_of None = 0
numbers_of (Some n) = 1

abbrev pub total : {A : Type 0} → (A → ℕ) → List A → ℕ
total f [] = 0
total f (x ∷ xs) = f x + total f xs

abbrev pub tickets_in : List View → ℕ
tickets_in vs = total (λ (v : View). tickets_of v.stage) vs

abbrev pub numbers_in : List View → ℕ
numbers_in vs = total (λ (v : View). numbers_of v.number) vs

abbrev pub IsServing : CallStage → Type 0
IsServing resting = ⊥
IsServing (waiting t) = ⊥
IsServing (serving t known) = Unit {0}

abbrev pub HasTicket : ℕ → CallStage → Type 0
HasTicket t resting = ⊥
HasTicket t (waiting own) = own ≡ t
HasTicket t (serving own known) = own ≡ t

-- What words and views come to: the calls of the history, how many tickets were drawn and served, how many numbers were drawn, and which
-- seat has a number or a ticket
pub record LockAccount : Type 0 where
  pub log : List Call
  pub drawn : ℕ
  pub served : ℕ
  pub seats : ℕ
  pub who : ℕ → ℕ
  pub holder : ℕ → ℕ

abbrev pub words_kept : LockAccount → List ℕ → List ℕ
words_kept a bells = a.drawn % 2 ^ 64 ∷ a.served % 2 ^ 64 ∷ length a.log ∷ a.seats ∷ bells

abbrev pub Homes : Type 0
Homes = List (core.Option (Option Stored))

-- the slot is out, or at home with this value
abbrev pub away : Homes
away = core.none ∷ []

abbrev pub home : Stored → Homes
home y = core.some (Some y) ∷ []

-- the record has these calls, or there is none
abbrev pub Records : Bool → Option (List Call) → List Call → Type 0
Records true None log = ⊥
Records true (Some kept) log = kept ≡ log
Records false None log = Unit {0}
Records false (Some kept) log = ⊥

-- how a store begins that is first stored so: a record is kept where one was begun
abbrev pub opening_of : Stored → Opening
opening_of y = record { tables = y.store; recorded = is_some y.history }

-- the stored tables are what these calls leave
abbrev pub Holds : Opening → List Call → Stored → Type 0
Holds o log y = (y.count ≡ length log) × Records o.recorded y.history log × (y.store ≡ replay o.tables log)

module _ (o : Opening) (a : LockAccount) where
  abbrev pub StageFits : Homes → ℕ → CallStage → Type 0
  StageFits homes j resting = Unit {0}
  StageFits homes j (waiting t) = (a.served ≤ t) × (t < a.drawn) × (a.holder t ≡ j)
  StageFits homes j (serving t known) = (t ≡ a.served) × (t < a.drawn) × (a.holder t ≡ j) × (known ≡ a.log) × (homes ≡ away)

  -- its calls are all that the history, and what it has seen, have of its number
  abbrev pub NumberFits : ℕ → View → Option ℕ → Type 0
  NumberFits j v None = (v.stage ≡ resting) × (v.mine ≡ [])
  NumberFits j v (Some n) = (n < a.seats) × (a.who n ≡ j) × (calls_by n a.log ≡ v.mine) × (calls_by n v.seen ≡ v.mine)

  -- what one view knows is so. `count` is the number of views
  pub record Fits (count : ℕ) (homes : Homes) (j : ℕ) (v : View) : Type 0 where
    pub same : v.live ≡ true → v.opening ≡ o
    pub alone : v.first ≡ true → (count ≡ 1) × (a.seats ≡ 0) × (v.number ≡ None)
    pub number : NumberFits j v v.number
    pub seen : StartsWith a.log v.seen
    pub drawn : v.drawn ≤ a.seats
    pub joined : StartsWith v.seen v.left × StartsWith v.seen v.right
    pub stage : StageFits homes j v.stage

  -- the stored value is at home, or out with the view that has the turn
  abbrev pub Placed : Homes → List View → Type 0
  Placed homes views =
      ((y : Stored) × (homes ≡ home y) × Holds o a.log y)
      ⊎ ((homes ≡ away) × (a.served < a.drawn) × ((v : View) × (get_elem? views (a.holder a.served) ≡ core.some v) × IsServing v.stage))

  -- each ticket that is drawn and not yet served is held
  abbrev pub AllHeld : List View → Type 0
  AllHeld views = (t : ℕ) → a.served ≤ t → t < a.drawn → (v : View) × (get_elem? views (a.holder t) ≡ core.some v) × HasTicket t v.stage

pub record Kept (o : Opening) (s : State (Option Stored) View) : Type 0 where
  pub a : LockAccount
  pub bells : List ℕ
  pub words_are : s.words ≡ words_kept a bells
  pub few : a.seats ≤ 2 ^ 32
  pub legal : IsLegal o.tables a.log
  pub unused : (n : ℕ) → a.seats ≤ n → calls_by n a.log ≡ []
  pub tickets : a.served + tickets_in s.views ≡ a.drawn
  pub numbers : numbers_in s.views ≤ a.seats
  pub each : (j : ℕ) (v : View) → get_elem? s.views j ≡ core.some v → Fits o a (length s.views) s.homes j v
  pub held : AllHeld o a s.views
  pub placed : Placed o a s.homes s.views
