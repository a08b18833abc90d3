-- How a store begins, and what is set from outside.
use Rattle.std.specs.Prelude.{◌≡◌, ℕ, ◌&&◌, nat_le, Bool, false, IsTrue, replicate, Result, Ok, Err}
use Rattle.modbus_store.specs.Tables.{Tables}
use Rattle.modbus_store.specs.declared.store.Sizes.{Sizes}
use Rattle.modbus_store.specs.declared.store.StoreError.{StoreError}
use Rattle.modbus_store.specs.declared.store.StoreError.TheVariants.{BadSize, NoMemory}

-- the most entries of a table: one for each address (Modbus Application Protocol V1.1b3, section 4.4)
abbrev pub max_entries : ℕ
max_entries = 0x10000

-- a table has an entry for each of so many addresses, from 0 on
abbrev pub fits_table : ℕ → Bool
fits_table size = nat_le 1 size && nat_le size max_entries

-- coils that are off and registers that hold 0
abbrev pub zeros_of : Sizes → Bool → Tables
zeros_of sizes broadcast = record { coils = replicate sizes.coils false; discrete_inputs = replicate sizes.discrete_inputs false; holding_registers = replicate sizes.holding_registers 0; input_registers = replicate sizes.input_registers 0; broadcast = broadcast }

-- a store with these tables, and a bad size exactly where one does not fit
abbrev pub OpensTables : Bool → Tables → Result Tables StoreError → Type 0
OpensTables fit tables (Ok store) = IsTrue fit × (store ≡ tables)
OpensTables fit tables (Err BadSize) = fit ≡ false
OpensTables fit tables (Err NoMemory) = IsTrue fit

-- an entry was set, or the address lies past the end and nothing changed
abbrev pub Sets : {T E : Type 0} → Bool → T → T → Result (Unit {0}) E → T → Type 0
Sets range old set (Ok done) new = IsTrue range × (new ≡ set)
Sets range old set (Err e) new = (range ≡ false) × (new ≡ old)
