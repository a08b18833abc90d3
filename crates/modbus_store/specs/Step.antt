-- One step of a register store: the outcome of a request, and the tables after it (Modbus Application Protocol V1.1b3, sections 6
-- and 7).
use Rattle.std.specs.Prelude.{◌≡◌, ◌≢◌, ℕ, ◌+◌, ◌-◌, ◌==◌, ◌&&◌, nat_le, Bool, true, if◌then◌else◌, List, [], ◌∷◌, length, bit_and, bit_or, slice_index}
use Rattle.modbus_frame.specs.declared.code.ExceptionCode.{ExceptionCode}
use Rattle.modbus_frame.specs.declared.code.ExceptionCode.TheVariants as code
use Rattle.modbus_frame.specs.declared.response.Response.TheVariants as response
use Rattle.modbus_frame.specs.Meaning.{Asked}
use Rattle.modbus_frame.specs.Meaning as asked
use Rattle.modbus_pdu.specs.Limits.{max_read_coils, max_write_coils, max_read_registers, max_write_registers, max_read_write_registers, max_fifo_count}
use Rattle.modbus_service.specs.Outcome.{Outcome, silence, reply, exception}
use Rattle.modbus_service.specs.Answering.{Answering, steady}
use Rattle.modbus_store.specs.Tables.{Tables, entries, with_entries, with_coils, with_registers}

-- a count is one of 1 to the greatest
abbrev pub is_quantity : ℕ → ℕ → Bool
is_quantity most count = nat_le 1 count && nat_le count most

-- so many entries from an address on are inside a table of this size
abbrev pub inside : ℕ → ℕ → ℕ → Bool
inside size address count = nat_le (address + count) size

-- A bad count is told before a bad range; an exception changes nothing.
abbrev pub if_in_bounds : Bool → Bool → Outcome × Tables → Tables → Outcome × Tables
if_in_bounds count range done tables =
    if count then (if range then done else (exception code.IllegalDataAddress, tables))
    else (exception code.IllegalDataValue, tables)

-- where the AND mask has 1 the old bit stays, and elsewhere the OR mask's bit stands (section 6.16)
abbrev pub masked_word : ℕ → ℕ → ℕ → ℕ
masked_word and_mask or_mask word = bit_or (bit_and word and_mask) (bit_and or_mask (0xFFFF - and_mask))

-- the bounds of a read and a write
abbrev pub both_count : ℕ → ℕ → Bool
both_count n m = is_quantity max_read_registers n && is_quantity max_read_write_registers m

abbrev pub both_inside : ℕ → ℕ → ℕ → ℕ → ℕ → Bool
both_inside size a n b m = inside size a n && inside size b m

-- the queue whose count stands at an address: as many registers behind it as the count says (section 6.18)
abbrev pub queue_count : ℕ → List ℕ → ℕ
queue_count a registers = slice_index registers a

abbrev pub is_queue_count : ℕ → Bool
is_queue_count n = nat_le n max_fifo_count

abbrev pub queue : ℕ → List ℕ → List ℕ
queue a registers = entries (a + 1) (queue_count a registers) registers

-- An address outside the table is told first, then a count above the greatest, and then registers outside the table.
abbrev pub queue_checked : ℕ → List ℕ → Outcome × Tables → Tables → Outcome × Tables
queue_checked a registers done tables = if_in_bounds true (inside (length registers) a 1)
    (if_in_bounds (is_queue_count (queue_count a registers)) (inside (length registers) (a + 1) (queue_count a registers)) done tables) tables

-- what a request does, whatever its slave
unfoldable pub step_of : Tables → Asked → Outcome × Tables
step_of t (asked.ReadCoils a n) = if_in_bounds (is_quantity max_read_coils n) (inside (length t.coils) a n)
    (reply (response.ReadCoils (entries a n t.coils)), t) t
step_of t (asked.ReadDiscreteInputs a n) = if_in_bounds (is_quantity max_read_coils n) (inside (length t.discrete_inputs) a n)
    (reply (response.ReadDiscreteInputs (entries a n t.discrete_inputs)), t) t
step_of t (asked.ReadHoldingRegisters a n) = if_in_bounds (is_quantity max_read_registers n) (inside (length t.holding_registers) a n)
    (reply (response.ReadHoldingRegisters (entries a n t.holding_registers)), t) t
step_of t (asked.ReadInputRegisters a n) = if_in_bounds (is_quantity max_read_registers n) (inside (length t.input_registers) a n)
    (reply (response.ReadInputRegisters (entries a n t.input_registers)), t) t
step_of t (asked.WriteSingleCoil a coil) = if_in_bounds true (inside (length t.coils) a 1)
    (reply (response.WriteSingleCoil a coil), with_coils t (with_entries a (coil ∷ []) t.coils)) t
step_of t (asked.WriteSingleRegister a word) = if_in_bounds true (inside (length t.holding_registers) a 1)
    (reply (response.WriteSingleRegister a word), with_registers t (with_entries a (word ∷ []) t.holding_registers)) t
step_of t (asked.WriteMultipleCoils a coils) = if_in_bounds (is_quantity max_write_coils (length coils)) (inside (length t.coils) a (length coils))
    (reply (response.WriteMultipleCoils a (length coils)), with_coils t (with_entries a coils t.coils)) t
step_of t (asked.WriteMultipleRegisters a words) = if_in_bounds (is_quantity max_write_registers (length words)) (inside (length t.holding_registers) a (length words))
    (reply (response.WriteMultipleRegisters a (length words)), with_registers t (with_entries a words t.holding_registers)) t
step_of t (asked.MaskWriteRegister a and_mask or_mask) = if_in_bounds true (inside (length t.holding_registers) a 1) (
  reply (response.MaskWriteRegister a and_mask or_mask),
  with_registers t (with_entries a (masked_word and_mask or_mask (slice_index t.holding_registers a) ∷ []) t.holding_registers),
) t
step_of t (asked.ReadWriteMultipleRegisters a n b words) = if_in_bounds (both_count n (length words))
    (both_inside (length t.holding_registers) a n b (length words))
    (reply (response.ReadWriteMultipleRegisters (entries a n (with_entries b words t.holding_registers))), with_registers t (with_entries b words t.holding_registers)) t
step_of t (asked.ReadFifoQueue a) = queue_checked a t.holding_registers (reply (response.ReadFifoQueue (queue a t.holding_registers)), t) t
step_of t _ = (exception code.IllegalFunction, t)

-- A broadcast, where the store takes part in it, has its effect and no answer (MODBUS over Serial Line V1.02, section 2.2).
unfoldable pub store_step : Tables → ℕ → Asked → Outcome × Tables
store_step t slave request = if t.broadcast && slave == 0 then (silence, (step_of t request).1) else step_of t request

-- the store as a relation: each request has one outcome and one next state
abbrev pub StepsTo : Tables → ℕ → Asked → Outcome → Tables → Type 0
StepsTo old slave request outcome new = store_step old slave request ≡ (outcome, new)

-- Kinds that write one entry take no memory, and no exception does.
abbrev pub NeedsMemory : Tables → Asked → Type 0
NeedsMemory t (asked.WriteSingleCoil a coil) = ⊥
NeedsMemory t (asked.WriteSingleRegister a word) = ⊥
NeedsMemory t (asked.MaskWriteRegister a and_mask or_mask) = ⊥
NeedsMemory t request = (c : ExceptionCode) → (step_of t request).0 ≢ exception c

abbrev pub TakesMemory : Tables → ℕ → Asked → Type 0
TakesMemory t slave request = NeedsMemory t request

-- the store as what answers requests: refused memory leaves it as it was
abbrev pub device : Answering Tables
device = steady StepsTo TakesMemory
