-- Tables that another keeps and lends.
use Rattle.std.specs.Prelude.{◌≡◌, ℕ, Bool, List}
use Rattle.modbus_frame.specs.Meaning.{Asked}
use Rattle.modbus_service.specs.Outcome.{Outcome}
use Rattle.modbus_service.specs.Answering.{Answering, steady}
use Rattle.modbus_store.specs.declared.lent.LentTables.{LentTables}
use Rattle.modbus_store.specs.Step.{StepsTo, TakesMemory}
use Rattle.modbus_store.specs.Tables.{Tables}

-- the tables of a device that are lent as four lists
abbrev pub tables_of : List Bool → List Bool → List ℕ → List ℕ → Bool → Tables
tables_of coils inputs registers input_registers broadcast = record { coils = coils; discrete_inputs = inputs; holding_registers = registers; input_registers = input_registers; broadcast = broadcast }

-- the tables that are lent, as they are now
abbrev pub lent : LentTables → Tables
lent it = tables_of it.coils.now it.discrete_inputs.now it.holding_registers.now it.input_registers.now it.broadcast

-- the tables are still those of the same lender, and what requests do not write is as it was
abbrev pub SameLoans : LentTables → LentTables → Type 0
SameLoans old new = (new.coils.ghost_name ≡ old.coils.ghost_name) × (new.holding_registers.ghost_name ≡ old.holding_registers.ghost_name)
    × (new.discrete_inputs ≡ old.discrete_inputs) × (new.input_registers ≡ old.input_registers) × (new.broadcast ≡ old.broadcast)

-- lent tables as a relation: that of a store with the same tables
abbrev pub LentStepsTo : LentTables → ℕ → Asked → Outcome → LentTables → Type 0
LentStepsTo old slave request outcome new = StepsTo (lent old) slave request outcome (lent new) × SameLoans old new

abbrev pub LentTakesMemory : LentTables → ℕ → Asked → Type 0
LentTakesMemory it slave request = TakesMemory (lent it) slave request

-- lent tables as what answers requests: refused memory leaves them as they were
abbrev pub lent_device : Answering LentTables
lent_device = steady LentStepsTo LentTakesMemory
