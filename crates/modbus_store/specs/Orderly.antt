-- What the rule of the lock comes to between any two steps.
use Rattle.std.specs.Prelude.{◌≡◌, ℕ, ◌+◌, ◌%◌, ◌^◌, ◌<◌, ◌≤◌, ◌⊎◌, true, List, [], length, slice_index, Option, Some, None}
use mathlib.Core.Option as core
use lib.ListN.{get_elem?}
use Rattle.atomic_table.specs.Table.{State}
use Rattle.modbus_store.specs.declared.lock.Stored.{Stored}
use Rattle.modbus_store.specs.Legal.{Call, IsLegal, calls_by, StartsWith}
use Rattle.modbus_store.specs.Views.{Opening, resting, serving, View}
use Rattle.modbus_store.specs.Lock.{away, home, IsServing, HasTicket, Holds}

-- the seat j knows this
abbrev pub Knows : State (Option Stored) View → ℕ → View → Type 0
Knows s j v = get_elem? s.views j ≡ core.some v

-- how many numbers of passes were drawn
abbrev pub seats : State (Option Stored) View → ℕ
seats s = slice_index s.words 3

pub record IsOrderly (o : Opening) (s : State (Option Stored) View) : Type 0 where
  -- the one history, and how many tickets were drawn and served, which count on past 2^64
  pub history : List Call
  pub drawn : ℕ
  pub served : ℕ
  pub ticket : slice_index s.words 0 ≡ drawn % 2 ^ 64
  pub serves : slice_index s.words 1 ≡ served % 2 ^ 64
  pub count : slice_index s.words 2 ≡ length history
  pub few_seats : seats s ≤ 2 ^ 32
  pub few_tickets : drawn ≤ served + 2 ^ 32
  pub legal : IsLegal o.tables history
  pub unused : (n : ℕ) → seats s ≤ n → calls_by n history ≡ []
  -- all seats that are not spent have the same opening
  pub opening : (j : ℕ) (v : View) → Knows s j v → v.live ≡ true → v.opening ≡ o
  -- a seat with no number has no ticket and made no calls; while the first seat has none it is alone, and no number was drawn
  pub unnumbered : (j : ℕ) (v : View) → Knows s j v → v.number ≡ None → (v.stage ≡ resting) × (v.mine ≡ [])
  pub alone : (j : ℕ) (v : View) → Knows s j v → v.first ≡ true → (length s.views ≡ 1) × (seats s ≡ 0) × (v.number ≡ None)
  -- numbers were drawn, and differ
  pub numbers : (j : ℕ) (v : View) (n : ℕ) → Knows s j v → v.number ≡ Some n → n < seats s
  pub numbers_differ : (i j : ℕ) (v w : View) (n : ℕ) → Knows s i v → Knows s j w → v.number ≡ Some n → w.number ≡ Some n → i ≡ j
  pub last_drawn : (j : ℕ) (v : View) → Knows s j v → v.drawn ≤ seats s
  -- the tickets that seats hold differ, and are those from the one that is served up to the next to be drawn
  pub tickets : (j : ℕ) (v : View) (t : ℕ) → Knows s j v → HasTicket t v.stage → (served ≤ t) × (t < drawn)
  pub tickets_differ : (i j : ℕ) (v w : View) (t : ℕ) → Knows s i v → Knows s j w → HasTicket t v.stage → HasTicket t w.stage → i ≡ j
  pub tickets_held : (t : ℕ) → served ≤ t → t < drawn → (j : ℕ) × (v : View) × Knows s j v × HasTicket t v.stage
  -- who has the turn has the ticket that is served, and knows the history; the slot is out
  pub turn : (j : ℕ) (v : View) (t : ℕ) (known : List Call) → Knows s j v → v.stage ≡ serving t known → (t ≡ served) × (known ≡ history) × (s.homes ≡ away)
  -- the slot is at home with what the history leaves, or out with who has the turn
  pub slot : ((y : Stored) × (s.homes ≡ home y) × Holds o history y)
      ⊎ ((s.homes ≡ away) × ((j : ℕ) × (v : View) × Knows s j v × IsServing v.stage))
  -- what a seat has seen is a front of the history; of two such lists the shorter is a front of the longer
  pub seen : (j : ℕ) (v : View) → Knows s j v → StartsWith history v.seen × IsLegal o.tables v.seen
  pub in_line : (i j : ℕ) (v w : View) → Knows s i v → Knows s j w → length v.seen ≤ length w.seen → StartsWith w.seen v.seen
  -- the calls that a seat made are all that the history, and what it has seen, have of its number; other seats have seen a front of them
  pub own : (j : ℕ) (v : View) (n : ℕ) → Knows s j v → v.number ≡ Some n → (calls_by n history ≡ v.mine) × (calls_by n v.seen ≡ v.mine)
  pub own_elsewhere : (i j : ℕ) (v w : View) (n : ℕ) → Knows s i v → Knows s j w → v.number ≡ Some n → StartsWith v.mine (calls_by n w.seen)
  -- what the two seats of the last join had seen are fronts of what is seen
  pub joined : (j : ℕ) (v : View) → Knows s j v → StartsWith v.seen v.left × StartsWith v.seen v.right
