-- The tables of a device, as plain data (Modbus Application Protocol V1.1b3, section 4.3).
use Rattle.std.specs.Prelude.{ℕ, ◌+◌, Bool, List, ◌++◌, length, take, drop}

-- the four tables, and whether a request of slave 0 takes effect unanswered
pub record Tables : Type 0 where
  pub coils : List Bool
  pub discrete_inputs : List Bool
  pub holding_registers : List ℕ
  pub input_registers : List ℕ
  pub broadcast : Bool

-- so many entries from an address on
abbrev pub entries : {A : Type 0} → ℕ → ℕ → List A → List A
entries address count table = take count (drop address table)

-- the table with these entries from an address on; all others stay
abbrev pub with_entries : {A : Type 0} → ℕ → List A → List A → List A
with_entries address values table = take address table ++ values ++ drop (address + length values) table

-- the tables with other coils, with other holding registers
abbrev pub with_coils : Tables → List Bool → Tables
with_coils tables coils = record { coils = coils; discrete_inputs = tables.discrete_inputs; holding_registers = tables.holding_registers; input_registers = tables.input_registers; broadcast = tables.broadcast }

abbrev pub with_registers : Tables → List ℕ → Tables
with_registers tables words = record { coils = tables.coils; discrete_inputs = tables.discrete_inputs; holding_registers = words; input_registers = tables.input_registers; broadcast = tables.broadcast }

abbrev pub with_discrete_inputs : Tables → List Bool → Tables
with_discrete_inputs tables inputs = record { coils = tables.coils; discrete_inputs = inputs; holding_registers = tables.holding_registers; input_registers = tables.input_registers; broadcast = tables.broadcast }

abbrev pub with_input_registers : Tables → List ℕ → Tables
with_input_registers tables words = record { coils = tables.coils; discrete_inputs = tables.discrete_inputs; holding_registers = tables.holding_registers; input_registers = words; broadcast = tables.broadcast }
