-- A request in two parts: its plan, which tells its response and what it changes, and the change.
use Rattle.std.specs.Prelude.{◌≡◌, ℕ, ◌+◌, ◌⊎◌, false, IsTrue, if◌then◌else◌, List, [], ◌∷◌, length, Option, Some, None, Result, Ok, Err}
use Rattle.modbus_frame.specs.declared.code.ExceptionCode.{ExceptionCode}
use Rattle.modbus_frame.specs.declared.code.ExceptionCode.TheVariants as code
use Rattle.modbus_frame.specs.declared.response.Response.{Response}
use Rattle.modbus_frame.specs.Meaning.{Asked}
use Rattle.modbus_service.specs.declared.service.ServiceError.{ServiceError}
use Rattle.modbus_service.specs.declared.service.ServiceError.TheVariants.{Exception, NoMemory}
use Rattle.modbus_service.specs.Outcome.{Outcome, silence, reply, exception}
use Rattle.modbus_store.specs.declared.change.Change.{Change}
use Rattle.modbus_store.specs.declared.change.Change.TheVariants as change
use Rattle.modbus_store.specs.declared.plan.Planned.{Planned}
use Rattle.modbus_store.specs.Tables.{Tables, entries, with_entries, with_coils, with_registers}
use Rattle.modbus_store.specs.Step.{is_quantity, inside, both_count, both_inside, is_queue_count, queue_count, queue, store_step, step_of, NeedsMemory}

-- the table with these entries from an address on, or as it was where they reach past its end
abbrev pub overlaid : {A : Type 0} → ℕ → List A → List A → List A
overlaid first values table = if inside (length table) first (length values) then with_entries first values table else table

-- the tables after a change
abbrev pub tables_after : Tables → Change → Tables
tables_after t change.Nothing = t
tables_after t (change.Coil address value) = with_coils t (overlaid address (value ∷ []) t.coils)
tables_after t (change.Coils first values) = with_coils t (overlaid first values.now t.coils)
tables_after t (change.Register address value) = with_registers t (overlaid address (value ∷ []) t.holding_registers)
tables_after t (change.Registers first values) = with_registers t (overlaid first values.now t.holding_registers)

-- a broadcast has no response
abbrev pub outcome_planned : Option Response → Outcome
outcome_planned None = silence
outcome_planned (Some response) = reply response

-- A plan of a request of a slave: its response and its change are the whole step. An exception changes nothing, and memory is wanting only
-- where it may be taken.
abbrev pub Plans : Tables → ℕ → Asked → Result Planned ServiceError → Type 0
Plans t slave asked (Ok planned) = store_step t slave asked ≡ (outcome_planned planned.response, tables_after t planned.change)
Plans t slave asked (Err (Exception c)) = store_step t slave asked ≡ (exception c, t)
Plans t slave asked (Err NoMemory) = NeedsMemory t asked

-- A step over what has tables and comes to have others, whatever the slave: the response and the tables that it comes to are the whole
-- step. After an exception or refused memory all is as it was.
abbrev pub Steps : {T : Type 0} → (T → Tables) → (T → Tables → T → Type 0) → T → Asked → Result Response ServiceError → T → Type 0
Steps tables becomes old asked (Ok response) new = ((step_of (tables old) asked).0 ≡ reply response) × becomes old (step_of (tables old) asked).1 new
Steps tables becomes old asked (Err (Exception c)) new = (step_of (tables old) asked ≡ (exception c, tables old)) × (new ≡ old)
Steps tables becomes old asked (Err NoMemory) new = NeedsMemory (tables old) asked × (new ≡ old)

-- what a read of a table answers
abbrev pub ReadsAs : {T V : Type 0} → (V → List T) → List T → ℕ → ℕ → ℕ → Result V ServiceError → Type 0
ReadsAs items table a n most (Ok found) = IsTrue (is_quantity most n) × IsTrue (inside (length table) a n) × (items found ≡ entries a n table)
ReadsAs items table a n most (Err (Exception c)) = ((is_quantity most n ≡ false) × (c ≡ code.IllegalDataValue))
    ⊎ (IsTrue (is_quantity most n) × (inside (length table) a n ≡ false) × (c ≡ code.IllegalDataAddress))
ReadsAs items table a n most (Err NoMemory) = IsTrue (is_quantity most n) × IsTrue (inside (length table) a n)

-- the check of a read and a write: a bad count is told before a bad range
abbrev pub ChecksBoth : ℕ → ℕ → ℕ → ℕ → ℕ → Result (Unit {0}) ExceptionCode → Type 0
ChecksBoth size a n b m (Ok done) = IsTrue (both_count n m) × IsTrue (both_inside size a n b m)
ChecksBoth size a n b m (Err c) = ((both_count n m ≡ false) × (c ≡ code.IllegalDataValue))
    ⊎ (IsTrue (both_count n m) × (both_inside size a n b m ≡ false) × (c ≡ code.IllegalDataAddress))

-- what a read after a write answers, of the table before the write
abbrev pub ReadsAfter : {V : Type 0} → (V → List ℕ) → List ℕ → ℕ → ℕ → ℕ → List ℕ → Result V ServiceError → Type 0
ReadsAfter items t a n b words (Ok found) = IsTrue (both_count n (length words)) × IsTrue (both_inside (length t) a n b (length words))
    × (items found ≡ entries a n (with_entries b words t))
ReadsAfter items t a n b words (Err (Exception c)) = ((both_count n (length words) ≡ false) × (c ≡ code.IllegalDataValue))
    ⊎ (IsTrue (both_count n (length words)) × (both_inside (length t) a n b (length words) ≡ false) × (c ≡ code.IllegalDataAddress))
ReadsAfter items t a n b words (Err NoMemory) = IsTrue (both_count n (length words)) × IsTrue (both_inside (length t) a n b (length words))

-- the queue at an address may be read: its count is inside the table and not above the greatest, and so are its registers
abbrev pub MayRead : List ℕ → ℕ → Type 0
MayRead t a = IsTrue (inside (length t) a 1) × IsTrue (is_queue_count (queue_count a t)) × IsTrue (inside (length t) (a + 1) (queue_count a t))

-- what a read of a queue answers
abbrev pub ReadsQueue : {V : Type 0} → (V → List ℕ) → List ℕ → ℕ → Result V ServiceError → Type 0
ReadsQueue items t a (Ok found) = MayRead t a × (items found ≡ queue a t)
ReadsQueue items t a (Err (Exception c)) = ((inside (length t) a 1 ≡ false) × (c ≡ code.IllegalDataAddress))
    ⊎ (IsTrue (inside (length t) a 1) × (is_queue_count (queue_count a t) ≡ false) × (c ≡ code.IllegalDataValue))
    ⊎ (IsTrue (inside (length t) a 1) × IsTrue (is_queue_count (queue_count a t)) × (inside (length t) (a + 1) (queue_count a t) ≡ false) × (c ≡ code.IllegalDataAddress))
ReadsQueue items t a (Err NoMemory) = MayRead t a
