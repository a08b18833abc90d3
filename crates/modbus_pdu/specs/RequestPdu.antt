-- The bytes of a request (Modbus Application Protocol V1.1b3, section 6).
use Rattle.std.specs.Prelude.{ℕ, ◌*◌, List, [], ◌∷◌, ◌++◌, length}
use Rattle.modbus_frame.specs.Codes.{read_code_number}
use Rattle.modbus_frame.specs.Meaning.{Asked, ReadCoils, ReadDiscreteInputs, WriteSingleCoil, WriteMultipleCoils, ReadInputRegisters, ReadHoldingRegisters, WriteSingleRegister, WriteMultipleRegisters, ReportServerId, MaskWriteRegister, ReadWriteMultipleRegisters, ReadFifoQueue, ReadDeviceIdentification, Custom}
use Rattle.modbus_frame.specs.FunctionCodes as number
use Rattle.modbus_pdu.specs.Limits.{mei_device_identification}
use Rattle.modbus_pdu.specs.Fields.{packed_bytes, packed_size, coil_word}
use Rattle.modbus_pdu.specs.Word.{word, words}

-- registers as they are written: their number, the byte count and their words (6.12, 6.17)
abbrev pub counted_registers : List ℕ → List ℕ
counted_registers registers = word (length registers) ++ (2 * length registers) ∷ words registers

-- The function code, then the fields of the kind in the order of sections 6.1 to 6.6, 6.11 to 6.13,
-- 6.16 to 6.18 and 6.21. A byte count stands before coils and registers.
unfoldable pub request_pdu : Asked → List ℕ
request_pdu (ReadCoils address quantity) = number.read_coils ∷ word address ++ word quantity
request_pdu (ReadDiscreteInputs address quantity) = number.read_discrete_inputs ∷ word address ++ word quantity
request_pdu (ReadHoldingRegisters address quantity) = number.read_holding_registers ∷ word address ++ word quantity
request_pdu (ReadInputRegisters address quantity) = number.read_input_registers ∷ word address ++ word quantity
request_pdu (WriteSingleCoil address coil) = number.write_single_coil ∷ word address ++ word (coil_word coil)
request_pdu (WriteSingleRegister address register) = number.write_single_register ∷ word address ++ word register
request_pdu (WriteMultipleCoils address coils) = number.write_multiple_coils ∷ word address ++ word (length coils) ++ packed_size (length coils) ∷ packed_bytes coils
request_pdu (WriteMultipleRegisters address registers) = number.write_multiple_registers ∷ word address ++ counted_registers registers
request_pdu ReportServerId = number.report_server_id ∷ []
request_pdu (MaskWriteRegister address and_mask or_mask) = number.mask_write_register ∷ word address ++ word and_mask ++ word or_mask
request_pdu (ReadWriteMultipleRegisters read_address quantity write_address registers) = number.read_write_multiple_registers ∷ word read_address ++ word quantity ++ word write_address ++ counted_registers registers
request_pdu (ReadFifoQueue address) = number.read_fifo_queue ∷ word address
request_pdu (ReadDeviceIdentification code id) = number.encapsulated_interface_transport ∷ mei_device_identification ∷ read_code_number code ∷ id ∷ []
request_pdu (Custom code bytes) = code ∷ bytes
