-- Requests as a struct of C beside lists that the caller holds (Modbus Application Protocol V1.1b3, section 6).
use Rattle.std.specs.Prelude.{◌≡◌, ◌⊎◌, ℕ, ◌==◌, ◌<◌, Bool, false, List, [], length, take, Option, Some, None, if◌then◌else◌}
use Rattle.modbus_frame.specs.FunctionCodes as number
use Rattle.modbus_frame.specs.Meaning.{Asked, ReadCoils, ReadDiscreteInputs, WriteSingleCoil, WriteMultipleCoils, ReadInputRegisters, ReadHoldingRegisters, WriteSingleRegister, WriteMultipleRegisters, ReportServerId, MaskWriteRegister, ReadWriteMultipleRegisters, ReadFifoQueue, ReadDeviceIdentification, Custom}
use Rattle.modbus_c.specs.declared.request.ModbusRequest.{ModbusRequest}

-- a request of a function, with no field that tells anything
abbrev pub blank : ℕ → ModbusRequest
blank function = record { function = function; coil = false; address = 0; quantity = 0; write_address = 0; word = 0; or_mask = 0; count = 0 }

-- a request by its function and a quantity of coils or registers from an address on
abbrev pub reads : ℕ → ℕ → ℕ → ModbusRequest
reads function address quantity = record (blank function) { address = address; quantity = quantity }

-- a request by its function that writes so many of a list from an address on
abbrev pub writes : ℕ → ℕ → ℕ → ModbusRequest
writes function address count = record (blank function) { address = address; count = count }

-- The numbers of a request. The struct does not tell the identification of a device, nor functions that the standard does not have.
abbrev pub flat_request : Asked → Option ModbusRequest
flat_request (ReadCoils a n) = Some (reads number.read_coils a n)
flat_request (ReadDiscreteInputs a n) = Some (reads number.read_discrete_inputs a n)
flat_request (ReadHoldingRegisters a n) = Some (reads number.read_holding_registers a n)
flat_request (ReadInputRegisters a n) = Some (reads number.read_input_registers a n)
flat_request (WriteSingleCoil a coil) = Some (record (blank number.write_single_coil) { address = a; coil = coil })
flat_request (WriteSingleRegister a word) = Some (record (blank number.write_single_register) { address = a; word = word })
flat_request (WriteMultipleCoils a coils) = Some (writes number.write_multiple_coils a (length coils))
flat_request (WriteMultipleRegisters a words) = Some (writes number.write_multiple_registers a (length words))
flat_request ReportServerId = Some (blank number.report_server_id)
flat_request (MaskWriteRegister a and_mask or_mask) = Some (record (blank number.mask_write_register) { address = a; word = and_mask; or_mask = or_mask })
flat_request (ReadWriteMultipleRegisters a n b words) = Some (record (reads number.read_write_multiple_registers a n) { write_address = b; count = length words })
flat_request (ReadFifoQueue a) = Some (record (blank number.read_fifo_queue) { address = a })
flat_request (ReadDeviceIdentification code id) = None
flat_request (Custom code bytes) = None

-- the registers, and the coils, that a request writes one after another
abbrev pub words_asked : Asked → List ℕ
words_asked (WriteMultipleRegisters a words) = words
words_asked (ReadWriteMultipleRegisters a n b words) = words
words_asked _ = []

abbrev pub coils_in : Asked → List Bool
coils_in (WriteMultipleCoils a coils) = coils
coils_in _ = []

-- What a struct asks, by its function, with the first registers or coils of the caller's lists; `None` where it has no such function.
abbrev pub asked_in : ModbusRequest → List ℕ → List Bool → Option Asked
asked_in r words coils =
    if r.function == number.read_coils then Some (ReadCoils r.address r.quantity)
    else if r.function == number.read_discrete_inputs then Some (ReadDiscreteInputs r.address r.quantity)
    else if r.function == number.read_holding_registers then Some (ReadHoldingRegisters r.address r.quantity)
    else if r.function == number.read_input_registers then Some (ReadInputRegisters r.address r.quantity)
    else if r.function == number.write_single_coil then Some (WriteSingleCoil r.address r.coil)
    else if r.function == number.write_single_register then Some (WriteSingleRegister r.address r.word)
    else if r.function == number.write_multiple_coils then Some (WriteMultipleCoils r.address (take r.count coils))
    else if r.function == number.write_multiple_registers then Some (WriteMultipleRegisters r.address (take r.count words))
    else if r.function == number.report_server_id then Some ReportServerId
    else if r.function == number.mask_write_register then Some (MaskWriteRegister r.address r.word r.or_mask)
    else if r.function == number.read_write_multiple_registers then Some (ReadWriteMultipleRegisters r.address r.quantity r.write_address (take r.count words))
    else if r.function == number.read_fifo_queue then Some (ReadFifoQueue r.address)
    else None

-- the list that the function takes has fewer items than the struct counts
abbrev pub LacksItems : ModbusRequest → List ℕ → List Bool → Type 0
LacksItems r words coils = ((r.function ≡ number.write_multiple_coils) × (length coils < r.count))
    ⊎ ((r.function ≡ number.write_multiple_registers) × (length words < r.count))
    ⊎ ((r.function ≡ number.read_write_multiple_registers) × (length words < r.count))
