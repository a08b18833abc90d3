-- The requests that read back from their PDUs, and the sizes of PDUs.
use Rattle.std.specs.Prelude.{◌≡◌, ℕ, ◌+◌, ◌*◌, ◌<◌, ◌^◌, length, Ok, ⊤}
use Rattle.std.specs.List.{AllByRecursion}
use Rattle.modbus_frame.specs.Meaning.{Asked, ReadCoils, ReadDiscreteInputs, WriteSingleCoil, WriteMultipleCoils, ReadInputRegisters, ReadHoldingRegisters, WriteSingleRegister, WriteMultipleRegisters, ReportServerId, MaskWriteRegister, ReadWriteMultipleRegisters, ReadFifoQueue, ReadDeviceIdentification, Custom}
use Rattle.modbus_frame.specs.FunctionCodes as number
use Rattle.modbus_pdu.specs.Encodes.{Fits}
use Rattle.modbus_pdu.specs.Fields.{packed_size}
use Rattle.modbus_pdu.specs.Limits.{code_pdu, one_word_pdu, two_words_pdu, three_words_pdu, write_head, read_write_head, identification_request}
use Rattle.modbus_pdu.specs.RequestOf.{request_of, IsModelled}
use Rattle.modbus_pdu.specs.RequestPdu.{request_pdu}

-- a number of one byte
abbrev pub IsByte : ℕ → Type 0
IsByte n = n < 2 ^ 8

-- a number of two bytes
abbrev pub IsWord : ℕ → Type 0
IsWord n = n < 2 ^ 16

-- each number of the request is in the range of its type
abbrev pub IsInRange : Asked → Type 0
IsInRange (ReadCoils address quantity) = IsWord address × IsWord quantity
IsInRange (ReadDiscreteInputs address quantity) = IsWord address × IsWord quantity
IsInRange (WriteSingleCoil address coil) = IsWord address
IsInRange (WriteMultipleCoils address coils) = IsWord address
IsInRange (ReadInputRegisters address quantity) = IsWord address × IsWord quantity
IsInRange (ReadHoldingRegisters address quantity) = IsWord address × IsWord quantity
IsInRange (WriteSingleRegister address word) = IsWord address × IsWord word
IsInRange (WriteMultipleRegisters address words) = IsWord address × AllByRecursion IsWord words
IsInRange ReportServerId = ⊤
IsInRange (MaskWriteRegister address and_mask or_mask) = IsWord address × IsWord and_mask × IsWord or_mask
IsInRange (ReadWriteMultipleRegisters read_address quantity write_address words) = IsWord read_address × IsWord quantity × IsWord write_address × AllByRecursion IsWord words
IsInRange (ReadFifoQueue address) = IsWord address
IsInRange (ReadDeviceIdentification code id) = IsByte id
IsInRange (Custom code bytes) = IsByte code

-- A modelled kind, or a custom function whose code is below the exception bit and stands for no modelled kind: with
-- any other code the PDU of a custom function reads as that kind, or from there on as no request.
abbrev pub IsReadable : Asked → Type 0
IsReadable (Custom code bytes) = (code < number.exception_bit) × (IsModelled code → ⊥)
IsReadable r = ⊤

-- a request that fits is what its PDU reads as
abbrev pub ReadsBack : Asked → Type 0
ReadsBack r = IsReadable r → Fits (request_pdu r) → request_of (request_pdu r) ≡ Ok r

-- How many bytes the PDU of a request has.
abbrev pub request_size : Asked → ℕ
request_size (ReadCoils address quantity) = two_words_pdu
request_size (ReadDiscreteInputs address quantity) = two_words_pdu
request_size (ReadHoldingRegisters address quantity) = two_words_pdu
request_size (ReadInputRegisters address quantity) = two_words_pdu
request_size (WriteSingleCoil address coil) = two_words_pdu
request_size (WriteSingleRegister address word) = two_words_pdu
request_size (WriteMultipleCoils address coils) = write_head + packed_size (length coils)
request_size (WriteMultipleRegisters address words) = write_head + 2 * length words
request_size ReportServerId = code_pdu
request_size (MaskWriteRegister address and_mask or_mask) = three_words_pdu
request_size (ReadWriteMultipleRegisters read_address quantity write_address words) = read_write_head + 2 * length words
request_size (ReadFifoQueue address) = one_word_pdu
request_size (ReadDeviceIdentification code id) = identification_request
request_size (Custom code bytes) = code_pdu + length bytes
