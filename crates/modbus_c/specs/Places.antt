-- Tables that begin at addresses of their own, and entries of them that requests read alone (Modbus Application Protocol V1.1b3, sections 4.3
-- and 4.4).
use Rattle.std.specs.Prelude.{◌≡◌, ℕ, ◌+◌, ◌-◌, ◌&&◌, nat_le, nat_lt, Bool, true, false, [], length, Option, Some, None, option_and_then, if◌then◌else◌}
use Rattle.std.specs.Option.{option_map}
use Rattle.modbus_frame.specs.Meaning.{Asked}
use Rattle.modbus_frame.specs.Meaning as asked
use Rattle.modbus_frame.specs.declared.response.Response.{Response}
use Rattle.modbus_frame.specs.declared.response.Response.TheVariants as response
use Rattle.modbus_service.specs.Outcome.{Outcome, silence, reply, exception}
use Rattle.modbus_store.specs.Lent.{tables_of}
use Rattle.modbus_store.specs.Tables.{Tables}
use Rattle.modbus_c.specs.Units.{Units, Tells, TablesTell}
use Rattle.modbus_c.specs.declared.tables.ModbusStarts.{ModbusStarts}
use Rattle.modbus_c.specs.declared.tables.ModbusSpan.{ModbusSpan}
use Rattle.modbus_c.specs.declared.tables.ModbusDevice.{ModbusDevice}
use Rattle.modbus_c.specs.declared.tables.ModbusSlave.{ModbusSlave}

-- how many addresses there are (section 4.4)
abbrev pub addresses : ℕ
addresses = 0x10000

-- the place of so many addresses in a table that begins at another; none where they begin before that, or end behind the last address
abbrev pub place_at : ℕ → ℕ → ℕ → Option ℕ
place_at start address count = if nat_le start address && nat_le count (addresses - address) then Some (address - start) else None

-- a request by the places of its addresses in the tables; none where one is before its table or behind the last
abbrev pub placed : ModbusStarts → Asked → Option Asked
placed s (asked.ReadCoils a n) = option_map (λ at. asked.ReadCoils at n) (place_at s.coils a n)
placed s (asked.ReadDiscreteInputs a n) = option_map (λ at. asked.ReadDiscreteInputs at n) (place_at s.discrete_inputs a n)
placed s (asked.ReadHoldingRegisters a n) = option_map (λ at. asked.ReadHoldingRegisters at n) (place_at s.holding_registers a n)
placed s (asked.ReadInputRegisters a n) = option_map (λ at. asked.ReadInputRegisters at n) (place_at s.input_registers a n)
placed s (asked.WriteSingleCoil a coil) = option_map (λ at. asked.WriteSingleCoil at coil) (place_at s.coils a 1)
placed s (asked.WriteSingleRegister a word) = option_map (λ at. asked.WriteSingleRegister at word) (place_at s.holding_registers a 1)
placed s (asked.WriteMultipleCoils a coils) = option_map (λ at. asked.WriteMultipleCoils at coils) (place_at s.coils a (length coils))
placed s (asked.WriteMultipleRegisters a words) = option_map (λ at. asked.WriteMultipleRegisters at words) (place_at s.holding_registers a (length words))
placed s (asked.MaskWriteRegister a and_mask or_mask) = option_map (λ at. asked.MaskWriteRegister at and_mask or_mask) (place_at s.holding_registers a 1)
placed s (asked.ReadWriteMultipleRegisters a n b words) =
    option_and_then (λ at. option_map (λ to. asked.ReadWriteMultipleRegisters at n to words) (place_at s.holding_registers b (length words))) (place_at s.holding_registers a n)
placed s (asked.ReadFifoQueue a) = option_map (λ at. asked.ReadFifoQueue at) (place_at s.holding_registers a 1)
placed s request = Some request

-- so many addresses from one on have one in common with a span: both have one at all, and each begins before the other ends
abbrev pub touches : ModbusSpan → ℕ → ℕ → Bool
touches span address count = nat_lt 0 span.count && nat_lt 0 count && nat_lt address (span.address + span.count) && nat_lt span.address (address + count)

-- a request would write a coil or a holding register that requests read alone
abbrev pub is_kept : ModbusSpan → ModbusSpan → Asked → Bool
is_kept coils registers (asked.WriteSingleCoil a coil) = touches coils a 1
is_kept coils registers (asked.WriteMultipleCoils a values) = touches coils a (length values)
is_kept coils registers (asked.WriteSingleRegister a word) = touches registers a 1
is_kept coils registers (asked.WriteMultipleRegisters a words) = touches registers a (length words)
is_kept coils registers (asked.MaskWriteRegister a and_mask or_mask) = touches registers a 1
is_kept coils registers (asked.ReadWriteMultipleRegisters a n b words) = touches registers b (length words)
is_kept coils registers request = false

-- what a request asks of the tables of a device; none where it asks what is before them, or writes what is read alone
abbrev pub reached : ModbusDevice → Asked → Option Asked
reached it request = if is_kept it.kept_coils it.kept_registers request then None else placed it.starts request

-- the address that a request writes, which its reply tells
abbrev pub address_written : Asked → ℕ
address_written (asked.WriteSingleCoil a coil) = a
address_written (asked.WriteSingleRegister a word) = a
address_written (asked.WriteMultipleCoils a coils) = a
address_written (asked.WriteMultipleRegisters a words) = a
address_written (asked.MaskWriteRegister a and_mask or_mask) = a
address_written request = 0

-- a reply that tells this address, where it tells one
abbrev pub response_at : ℕ → Response → Response
response_at address (response.WriteSingleCoil a coil) = response.WriteSingleCoil address coil
response_at address (response.WriteSingleRegister a word) = response.WriteSingleRegister address word
response_at address (response.WriteMultipleCoils a n) = response.WriteMultipleCoils address n
response_at address (response.WriteMultipleRegisters a n) = response.WriteMultipleRegisters address n
response_at address (response.MaskWriteRegister a and_mask or_mask) = response.MaskWriteRegister address and_mask or_mask
response_at address told = told

abbrev pub told_at : ℕ → Outcome → Outcome
told_at address silence = silence
told_at address (reply told) = reply (response_at address told)
told_at address (exception code) = exception code

-- tables of no entry: each address is past their end
abbrev pub no_tables : Tables
no_tables = tables_of [] [] [] [] true

-- What a device tells of a request. What reaches its tables is asked of them by its places there, and told under its own address. All else is
-- answered as by tables of no entry, and nothing changes.
abbrev pub DeviceTellsBy : Option Asked → ℕ → Asked → Outcome → ModbusDevice → ModbusDevice → Type 0
DeviceTellsBy None slave request outcome old new = (after : Tables) × Tells no_tables slave request outcome after × (new ≡ old)
DeviceTellsBy (Some there) slave request outcome old new = (told : Outcome) × TablesTell slave there told old.tables new.tables
    × (outcome ≡ told_at (address_written request) told) × (new ≡ record old { tables = new.tables })

abbrev pub PlacedTells : ℕ → Asked → Outcome → ModbusDevice → ModbusDevice → Type 0
PlacedTells slave request outcome old new = DeviceTellsBy (reached old request) slave request outcome old new

-- such a device of a line was asked: its address is the same
abbrev pub SlaveTells : ℕ → Asked → Outcome → ModbusSlave → ModbusSlave → Type 0
SlaveTells slave request outcome old new = (new.unit ≡ old.unit) × PlacedTells slave request outcome old.device new.device

abbrev pub placed_units : Units ModbusSlave
placed_units = record { address = λ it. it.unit; tells = SlaveTells }
