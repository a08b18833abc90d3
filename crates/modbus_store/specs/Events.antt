-- Which step of the lock adds a call to the history, and that no other does.
use Rattle.std.specs.Prelude.{◌≡◌, ℕ, ◌==◌, ◌+◌, ◌%◌, ◌^◌, ◌<◌, ◌≤◌, true, List, [], ◌∷◌, ◌++◌, length, slice_index, Option, Some, None, Result, Err}
use mathlib.Core.Option as core
use lib.ListN.{get_elem?}
use prog.Atomic.{either}
use Rattle.atomic_table.specs.Table.{State, Act, Step, step, Valid, stepped, carried_after, Splits, Joins}
use Rattle.modbus_store.specs.declared.lock.Stored.{Stored}
use Rattle.modbus_service.specs.declared.service.ServiceError.{ServiceError}
use Rattle.modbus_service.specs.declared.service.ServiceError.TheVariants.{NoMemory}
use Rattle.modbus_store.specs.Legal.{Call, answer_to, replay, calls_by}
use Rattle.modbus_store.specs.Views.{Opening, resting, waiting, serving, View, split_view, spent_view}
use Rattle.modbus_store.specs.Lock.{Holds, Kept}
use Rattle.modbus_store.specs.Orderly.{Knows, IsOrderly}
use Rattle.modbus_store.specs.Passes.{Pass}
use Rattle.modbus_store.specs.Plays.{Mine, ticket_of, known_of, DrewNumber, DrewTicket, LookedServing, CountsCall, Advanced, LoadedDrawn, joined_view}

-- the rule of the lock holds, with this history
abbrev pub KeptWith : Opening → List Call → State (Option Stored) View → Type 0
KeptWith o history s = (k : Kept o s) × (k.a.log ≡ history)

-- A step of the seat `id`, by which the word i becomes f of what it was: where the rule holds with the history `old`, it holds after the
-- step with `new`, and of all views that of the seat alone may be another. `then` is what the step tells.
abbrev pub Leads : Opening → List Call → List Call → ℕ → Mine → ℕ → (ℕ → ℕ) → (ℕ → Mine → Type 0) → Type 0
Leads o old new id me i f then = (s : State (Option Stored) View) → KeptWith o old s → get_elem? s.views id ≡ core.some me.0
    → (w : View) × (act : Act (Option Stored)) × Valid s.homes me.1 act × KeptWith o new (stepped s i (f (slice_index s.words i)) id me.1 w act)
    × then (slice_index s.words i) (w, carried_after me.1 act)

-- one is added to a word of 64 bits
abbrev pub one_more : ℕ → ℕ
one_more x = (x + 1) % 2 ^ 64

-- the word n becomes n + 1, and any other stays
abbrev pub next_of : ℕ → ℕ → ℕ
next_of n x = either (x == n) (n + 1) x

-- a step on this word with these operands
abbrev pub on : ℕ → ℕ → ℕ → Step (Option Stored)
on i a b = step 1 i a b core.none

-- The step that counts a call, of the seat that has the turn: the history has then this call after those that it had. It is the seat's own,
-- and was answered as a store of one caller answers it there.
abbrev pub AddsCall : Opening → List Call → ℕ → Mine → Type 0
AddsCall o history id me = (c : Call) (t : ℕ) (known : List Call) → me.0.stage ≡ serving t known → me.0.number ≡ Some c.number → me.0.live ≡ true
    → c.outcome ≡ answer_to (replay me.0.opening.tables known) c → length known + 1 < 2 ^ 64
    → Leads o history (history ++ c ∷ []) id me 2 one_more (CountsCall c (on 2 1 0) me)

-- Each other step leaves the history as it was.
pub record LeavesHistory (o : Opening) (history : List Call) (id : ℕ) (me : Mine) : Type 0 where
  pub draws_number : (n : ℕ) → me.0.number ≡ None → n < 2 ^ 32 → Leads o history history id me 3 (next_of n) (DrewNumber (on 3 n (n + 1)) me)
  pub draws_ticket : (n : ℕ) → me.0.number ≡ Some n → me.0.stage ≡ resting → Leads o history history id me 0 one_more (DrewTicket (on 0 1 0) me)
  -- where the word shows its ticket, the seat knows the history, and has the value that this leaves in its hand
  pub looks : (n t : ℕ) → me.0.number ≡ Some n → me.0.stage ≡ waiting t → me.0.live ≡ true
      → Leads o history history id me 1 (λ x. x) (λ r m. LookedServing (on 1 0 0) me r m × (r ≡ ticket_of me.0.stage % 2 ^ 64 → known_of m.0.stage ≡ history))
  -- the value in the hand is what the history leaves, and with the turn it goes home
  pub advances : (n t : ℕ) (known : List Call) (y : Stored) → me.1 ≡ (0, Some y) ∷ [] → me.0.stage ≡ serving t known → me.0.number ≡ Some n → me.0.live ≡ true
      → Holds me.0.opening known y → Leads o history history id me 1 one_more (Advanced (on 1 1 0) me)
  pub loads : Leads o history history id me 3 (λ x. x) (LoadedDrawn (on 3 0 0) me)
  -- a step on a word that passes sleep on
  pub rings : (i : ℕ) (f : ℕ → ℕ) → 4 ≤ i → Leads o history history id me i f (λ r m. m ≡ me)
  pub splits : (n : ℕ) → me.0.live ≡ true → me.0.number ≡ Some n → Splits (KeptWith o history) id me.0 me.0 (split_view me.0)
  pub joins : (other : ℕ) (w : View) → w.stage ≡ resting → Joins (KeptWith o history) id me.0 other w (joined_view me.0 w) spent_view

-- Where memory was refused the pass added no call: wherever the rule holds with the seat of this pass as it then is, the history has of its
-- number the calls that the pass had made before, and no other.
abbrev pub AddsNoCall : {T : Type 0} → Result T ServiceError → Pass → Pass → Type 0
AddsNoCall (Err NoMemory) old new = (s : State (Option Stored) View) (h : IsOrderly old.opening s) (j : ℕ) (v : View) → Knows s j v
    → v.number ≡ Some new.number → v.mine ≡ new.mine → calls_by old.number h.history ≡ old.mine
AddsNoCall _ old new = Unit {0}
