-- The request of a PDU, by places of the whole PDU, or the reason that comes first. Section numbers
-- are those of the Modbus Application Protocol V1.1b3.
use Rattle.std.specs.Prelude.{ℕ, ◌+◌, ◌*◌, List, [], length, drop, slice_index, ◌==◌, nat_lt, Result, Ok, Err, if◌then◌else◌, Bool, IsTrue, ◌∷◌, ⊤}
use Rattle.std.specs.List.{list_any}
use Rattle.modbus_frame.specs.declared.fault.Reason.{Reason}
use Rattle.modbus_frame.specs.declared.fault.Reason.TheVariants as reason
use Rattle.modbus_frame.specs.declared.code.ReadCode.{ReadCode}
use Rattle.modbus_frame.specs.Meaning.{Asked, ReadCoils, ReadDiscreteInputs, WriteSingleCoil, WriteMultipleCoils, ReadInputRegisters, ReadHoldingRegisters, WriteSingleRegister, WriteMultipleRegisters, ReportServerId, MaskWriteRegister, ReadWriteMultipleRegisters, ReadFifoQueue, ReadDeviceIdentification, Custom}
use Rattle.modbus_frame.specs.FunctionCodes as number
use Rattle.modbus_pdu.specs.Limits.{max_pdu, mei_device_identification, code_pdu, one_word_pdu, two_words_pdu, three_words_pdu, write_head, identification_request}
use Rattle.modbus_pdu.specs.Fields.{word_at, words_of, coils_of, coil_of}
use Rattle.modbus_pdu.specs.Decodes.{◌>>=◌, read_code_or}

-- Read Coils, Read Discrete Inputs, Read Holding Registers, Read Input Registers, Write Single
-- Register (6.1 to 6.4, 6.6): an address at place 1, a quantity or a value at place 3.
unfoldable pub two_words_of : List ℕ → Result (ℕ × ℕ) Reason
two_words_of pdu =
    if nat_lt (length pdu) two_words_pdu then Err reason.UnexpectedEnd
    else if nat_lt two_words_pdu (length pdu) then Err reason.UndecodedData
    else Ok (word_at pdu 1, word_at pdu 3)

-- Write Single Coil (6.5): an address at place 1, the word of a coil at place 3. A word that stands
-- for no coil is told before bytes that are too many.
unfoldable pub single_coil_of : List ℕ → Result (ℕ × Bool) Reason
single_coil_of pdu =
    if nat_lt (length pdu) two_words_pdu then Err reason.UnexpectedEnd
    else (coil_of (word_at pdu 3) >>= λ coil.
    if nat_lt two_words_pdu (length pdu) then Err reason.UndecodedData
    else Ok (word_at pdu 1, coil))

-- Write Multiple Coils (6.11): an address at place 1, the number of coils at place 3, the byte count
-- at place 5, packed coils from place 6 on. There may be more bytes than the coils need, and what is
-- left of them is not looked at.
unfoldable pub coils_written_of : List ℕ → Result (ℕ × List Bool) Reason
coils_written_of pdu =
    if nat_lt max_pdu (length pdu) then Err reason.SizeExceeded
    else if nat_lt (length pdu) write_head then Err reason.UnexpectedEnd
    else if nat_lt (length pdu) (write_head + slice_index pdu 5) then Err reason.TooShort
    else if nat_lt (8 * slice_index pdu 5) (word_at pdu 3) then Err reason.InvalidQuantity
    else if nat_lt (write_head + slice_index pdu 5) (length pdu) then Err reason.UndecodedData
    else Ok (word_at pdu 1, coils_of (drop write_head pdu) (word_at pdu 3))

-- Registers to the end of the PDU (6.12, 6.17): their number at a place, the byte count two places
-- on, and the registers from three places on. A byte count other than twice the number is told before
-- registers that are missing.
unfoldable pub registers_at : ℕ → List ℕ → Result (List ℕ) Reason
registers_at place pdu =
    if nat_lt (length pdu) (place + 3) then Err reason.UnexpectedEnd
    else if slice_index pdu (place + 2) == 2 * word_at pdu place then
    (if nat_lt (length pdu) (place + 3 + slice_index pdu (place + 2)) then Err reason.UnexpectedEnd
    else if nat_lt (place + 3 + slice_index pdu (place + 2)) (length pdu) then Err reason.UndecodedData
    else Ok (words_of (drop (place + 3) pdu) (word_at pdu place)))
    else Err reason.InvalidQuantity

-- Write Multiple Registers (6.12): an address at place 1, registers from place 3 on.
unfoldable pub words_written_of : List ℕ → Result (ℕ × List ℕ) Reason
words_written_of pdu =
    if nat_lt max_pdu (length pdu) then Err reason.SizeExceeded
    else (registers_at 3 pdu >>= λ registers. Ok (word_at pdu 1, registers))

-- Report Server ID (6.13): the function code alone.
unfoldable pub only_code_of : List ℕ → Result Asked Reason
only_code_of pdu = if nat_lt code_pdu (length pdu) then Err reason.UndecodedData else Ok ReportServerId

-- Mask Write Register (6.16): an address at place 1, the AND mask at place 3, the OR mask at place 5.
unfoldable pub three_words_of : List ℕ → Result (ℕ × ℕ × ℕ) Reason
three_words_of pdu =
    if nat_lt (length pdu) three_words_pdu then Err reason.UnexpectedEnd
    else if nat_lt three_words_pdu (length pdu) then Err reason.UndecodedData
    else Ok (word_at pdu 1, word_at pdu 3, word_at pdu 5)

-- Read/Write Multiple Registers (6.17): the read's address at place 1 and quantity at place 3, the
-- write's address at place 5, registers from place 7 on.
unfoldable pub read_write_of : List ℕ → Result (ℕ × ℕ × ℕ × List ℕ) Reason
read_write_of pdu =
    if nat_lt max_pdu (length pdu) then Err reason.SizeExceeded
    else (registers_at 7 pdu >>= λ registers. Ok (word_at pdu 1, word_at pdu 3, word_at pdu 5, registers))

-- Read FIFO Queue (6.18): the address of the queue's count at place 1.
unfoldable pub one_word_of : List ℕ → Result ℕ Reason
one_word_of pdu =
    if nat_lt (length pdu) one_word_pdu then Err reason.UnexpectedEnd
    else if nat_lt one_word_pdu (length pdu) then Err reason.UndecodedData
    else Ok (word_at pdu 1)

-- Read Device Identification (6.21): the MEI type at place 1, the read code at place 2, the object
-- id at place 3. The MEI type is told first of all, the size of a PDU next.
unfoldable pub identification_of : List ℕ → Result (ReadCode × ℕ) Reason
identification_of pdu =
    if nat_lt (length pdu) 2 then Err reason.UnexpectedEnd
    else if slice_index pdu 1 == mei_device_identification then
    (if nat_lt max_pdu (length pdu) then Err reason.SizeExceeded
    else if nat_lt (length pdu) 3 then Err reason.UnexpectedEnd
    else (read_code_or (slice_index pdu 2) >>= λ code.
    if nat_lt (length pdu) identification_request then Err reason.UnexpectedEnd
    else if nat_lt identification_request (length pdu) then Err reason.UndecodedData
    else Ok (code, slice_index pdu 3)))
    else Err (reason.UnsupportedMei (slice_index pdu 1))

-- What the function code asks for (5.1). A code below the exception bit that stands for none of these
-- kinds is a custom function, whose data is not looked at; codes from there on mark exceptions and ask for nothing.
unfoldable pub asked_by : ℕ → List ℕ → Result Asked Reason
asked_by code pdu =
    if code == number.read_coils then (two_words_of pdu >>= λ x. Ok (ReadCoils x.0 x.1))
    else if code == number.read_discrete_inputs then (two_words_of pdu >>= λ x. Ok (ReadDiscreteInputs x.0 x.1))
    else if code == number.read_holding_registers then (two_words_of pdu >>= λ x. Ok (ReadHoldingRegisters x.0 x.1))
    else if code == number.read_input_registers then (two_words_of pdu >>= λ x. Ok (ReadInputRegisters x.0 x.1))
    else if code == number.write_single_coil then (single_coil_of pdu >>= λ x. Ok (WriteSingleCoil x.0 x.1))
    else if code == number.write_single_register then (two_words_of pdu >>= λ x. Ok (WriteSingleRegister x.0 x.1))
    else if code == number.write_multiple_coils then (coils_written_of pdu >>= λ x. Ok (WriteMultipleCoils x.0 x.1))
    else if code == number.write_multiple_registers then (words_written_of pdu >>= λ x. Ok (WriteMultipleRegisters x.0 x.1))
    else if code == number.report_server_id then only_code_of pdu
    else if code == number.mask_write_register then (three_words_of pdu >>= λ x. Ok (MaskWriteRegister x.0 x.1 x.2))
    else if code == number.read_write_multiple_registers then (read_write_of pdu >>= λ x. Ok (ReadWriteMultipleRegisters x.0 x.1 x.2 x.3))
    else if code == number.read_fifo_queue then (one_word_of pdu >>= λ address. Ok (ReadFifoQueue address))
    else if code == number.encapsulated_interface_transport then (identification_of pdu >>= λ x. Ok (ReadDeviceIdentification x.0 x.1))
    else if nat_lt code number.exception_bit then Ok (Custom code (drop 1 pdu))
    else Err (reason.InvalidFunction code)

-- the request of a PDU, by its first byte (4.1)
unfoldable pub request_of : List ℕ → Result Asked Reason
request_of [] = Err reason.UnexpectedEnd
request_of (code ∷ rest) = asked_by code (code ∷ rest)

-- the function codes of the modelled kinds, each kind but a custom function
abbrev pub IsModelled : ℕ → Type 0
IsModelled code = IsTrue (list_any (λ k. k == code) (number.read_coils ∷ number.read_discrete_inputs ∷ number.read_holding_registers ∷ number.read_input_registers ∷ number.write_single_coil ∷ number.write_single_register ∷ number.write_multiple_coils ∷ number.write_multiple_registers ∷ number.report_server_id ∷ number.mask_write_register ∷ number.read_write_multiple_registers ∷ number.read_fifo_queue ∷ number.encapsulated_interface_transport ∷ []))

-- the requests that carry a list of coils, registers or bytes; all others are a few numbers
abbrev pub CarriesList : Asked → Type 0
CarriesList (WriteMultipleCoils address coils) = ⊤
CarriesList (WriteMultipleRegisters address words) = ⊤
CarriesList (ReadWriteMultipleRegisters read_address quantity write_address words) = ⊤
CarriesList (Custom code bytes) = ⊤
CarriesList (ReadCoils address quantity) = ⊥
CarriesList (ReadDiscreteInputs address quantity) = ⊥
CarriesList (ReadInputRegisters address quantity) = ⊥
CarriesList (ReadHoldingRegisters address quantity) = ⊥
CarriesList (WriteSingleCoil address coil) = ⊥
CarriesList (WriteSingleRegister address word) = ⊥
CarriesList (MaskWriteRegister address and_mask or_mask) = ⊥
CarriesList (ReadFifoQueue address) = ⊥
CarriesList (ReadDeviceIdentification code id) = ⊥
CarriesList ReportServerId = ⊥
