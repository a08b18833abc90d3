-- What each step tells.
use Rattle.std.specs.Prelude.{◌≡◌, ◌≢◌, ℕ, ◌≤◌, ◌<◌, nat_lt, cond, length, ◌%◌, ◌^◌, true, false, List, [], ◌∷◌, ◌++◌, Option, Some}
use Rattle.atomic_table.specs.Table.{Me, Step, rest}
use Rattle.modbus_frame.specs.Meaning.{ReportServerId}
use Rattle.modbus_service.specs.Outcome.{silence}
use Rattle.modbus_store.specs.declared.lock.Stored.{Stored}
use Rattle.modbus_store.specs.Legal.{Call, call, IsLegal, calls_by, StartsWith}
use Rattle.modbus_store.specs.Views.{CallStage, resting, waiting, serving, View}
use Rattle.modbus_store.specs.Lock.{Holds}

abbrev pub Mine : Type 0
Mine = Me (Option Stored) View

abbrev pub no_call : Call
no_call = call 0 0 ReportServerId silence

abbrev pub with_number : ℕ → View → View
with_number n v = record v { first = false; number = Some n }

abbrev pub with_stage : CallStage → View → View
with_stage st v = record v { stage = st }

abbrev pub ticket_of : CallStage → ℕ
ticket_of resting = 0
ticket_of (waiting t) = t
ticket_of (serving t known) = t

abbrev pub known_of : CallStage → List Call
known_of resting = []
known_of (waiting t) = []
known_of (serving t known) = known

-- the view once its call is counted
abbrev pub with_call_counted : Call → View → View
with_call_counted c v = record v { stage = serving (ticket_of v.stage) (known_of v.stage ++ c ∷ []); seen = known_of v.stage ++ c ∷ []; mine = v.mine ++ c ∷ [] }

-- the number of the try, if it was the next; the first seat's is
abbrev pub DrewNumber : Step (Option Stored) → Mine → ℕ → Mine → Type 0
DrewNumber st m r m' = (m.0.first ≡ true → r ≡ 0) × (r ≡ st.first → (m' ≡ (with_number r m.0, m.1)) × (calls_by r m.0.seen ≡ [])) × (r ≢ st.first → m' ≡ m)

-- the next ticket
abbrev pub DrewTicket : Step (Option Stored) → Mine → ℕ → Mine → Type 0
DrewTicket st m r m' = (t : ℕ) × (r ≡ t % 2 ^ 64) × (m' ≡ (with_stage (waiting t) m.0, m.1))

-- the turn, with the stored value
abbrev pub GotTurn : Mine → Mine → Type 0
GotTurn m m' =
    (log : List Call) × (y : Stored)
    × (m' ≡ (with_stage (serving (ticket_of m.0.stage) log) m.0, (0, Some y) ∷ m.1))
    × Holds m.0.opening log y × IsLegal m.0.opening.tables log × StartsWith log m.0.seen
    × ((n : ℕ) → m.0.number ≡ Some n → (calls_by n log ≡ m.0.mine) × (calls_by n m.0.seen ≡ m.0.mine))

-- the turn, where the word shows one's own ticket
abbrev pub LookedServing : Step (Option Stored) → Mine → ℕ → Mine → Type 0
LookedServing st m r m' = (r ≡ ticket_of m.0.stage % 2 ^ 64 → GotTurn m m') × (r ≢ ticket_of m.0.stage % 2 ^ 64 → m' ≡ m)

-- the call joined the history
abbrev pub CountsCall : Call → Step (Option Stored) → Mine → ℕ → Mine → Type 0
CountsCall c st m r m' = m' ≡ (with_call_counted c m.0, m.1)

-- the turn is over, and the slot is at home
abbrev pub Advanced : Step (Option Stored) → Mine → ℕ → Mine → Type 0
Advanced st m r m' = m' ≡ (with_stage resting m.0, rest m.1)

-- a step on a word that passes sleep on tells nothing
abbrev pub Rang : Step (Option Stored) → Mine → ℕ → Mine → Type 0
Rang st m r m' = m' ≡ m

abbrev pub longer : List Call → List Call → List Call
longer f g = cond (nat_lt (length f) (length g)) g f

-- the view that took in another
abbrev pub joined_view : View → View → View
joined_view v w = record v { seen = longer v.seen w.seen; left = v.seen; right = w.seen }

abbrev pub with_ticket : ℕ → View → View
with_ticket n v = record v { drawn = n }

-- how many numbers were drawn, that the lists of the last join are fronts of what was seen, and that this is legal and has the pass's own
-- calls and no others of its number
abbrev pub LoadedDrawn : Step (Option Stored) → Mine → ℕ → Mine → Type 0
LoadedDrawn st m r m' =
    (m' ≡ (with_ticket r m.0, m.1)) × (r ≤ 2 ^ 32) × ((n : ℕ) → m.0.number ≡ Some n → n < r)
    × StartsWith m.0.seen m.0.left × StartsWith m.0.seen m.0.right
    × (m.0.live ≡ true → IsLegal m.0.opening.tables m.0.seen) × ((n : ℕ) → m.0.number ≡ Some n → calls_by n m.0.seen ≡ m.0.mine)
