-- Times under keys, of which the next one is looked for.
use Rattle.std.specs.Prelude.{◌≡◌, ℕ, ◌≤◌, ◌<◌, ◌==◌, ◌&&◌, Bool, false, List, Option, Some, None, get_or, set, IsTrue}
use Rattle.std.specs.Ordering.{nat_cmp, ordering_then}
use Rattle.std.specs.BTreeSet.{BTreeSet, contains}
use Rattle.std.specs.declared.cmp.Ordering.{Ordering}
use Rattle.modbus_fleet.specs.declared.dues.Due.{Due}

-- the time under a key, where one is kept there
abbrev pub time_of : List (Option ℕ) → ℕ → Option ℕ
time_of times key = get_or times key None

-- under this key this time is kept
abbrev pub IsKept : List (Option ℕ) → ℕ → ℕ → Type 0
IsKept times key at = time_of times key ≡ Some at

-- It is kept under its key, and none is earlier. None is told exactly where no time is kept.
abbrev pub IsFirst : List (Option ℕ) → Option Due → Type 0
IsFirst times None = (key : ℕ) → time_of times key ≡ None
IsFirst times (Some due) = IsKept times due.key due.at × ((key at : ℕ) → IsKept times key at → due.at ≤ at)

-- It is kept under some key, and none is earlier. None is told exactly where no time is kept.
abbrev pub IsNext : List (Option ℕ) → Option ℕ → Type 0
IsNext times None = (key : ℕ) → time_of times key ≡ None
IsNext times (Some at) = ((key : ℕ) × IsKept times key at) × ((key other : ℕ) → IsKept times key other → at ≤ other)

-- Of the times that are over one that is no later than any other is taken away, and its key is told. None is told exactly where none is over.
abbrev pub TakesDue : ℕ → List (Option ℕ) → Option ℕ → List (Option ℕ) → Type 0
TakesDue now old None new = ((key at : ℕ) → IsKept old key at → now < at) × (new ≡ old)
TakesDue now old (Some key) new =
    ((at : ℕ) × IsKept old key at × (at ≤ now) × ((other later : ℕ) → IsKept old other later → at ≤ later)) × (new ≡ set old key None)

-- times by their order, and by their keys where they are the same
abbrev pub due_cmp : Due → Due → Ordering
due_cmp a b = ordering_then (nat_cmp a.at b.at) (nat_cmp a.key b.key)

-- whether this is the time
abbrev pub is_time : ℕ → Option ℕ → Bool
is_time at None = false
is_time at (Some time) = time == at

-- whether this is the due of a key with this time, if any
abbrev pub is_due : ℕ → Option ℕ → Due → Bool
is_due key time due = is_time due.at time && key == due.key

-- in order stands just what is kept under keys
abbrev pub Agrees : BTreeSet Due → List (Option ℕ) → Type 0
Agrees ordered times = (due : Due) → contains due_cmp ordered due ≡ is_time due.at (time_of times due.key)

-- It stands there, and none that stands there is earlier. None is told exactly where nothing does.
abbrev pub IsFirstOf : BTreeSet Due → Option Due → Type 0
IsFirstOf ordered None = (due : Due) → contains due_cmp ordered due ≡ false
IsFirstOf ordered (Some due) = IsTrue (contains due_cmp ordered due) × ((other : Due) → IsTrue (contains due_cmp ordered other) → due.at ≤ other.at)
