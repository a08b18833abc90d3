-- The bytes of a response and of an exception. Codes and bytes are hexadecimal.
-- (MODBUS Application Protocol V1.1b3, sections 4.2, 6 and 7)
use Rattle.std.specs.Prelude.{ℕ, ◌+◌, ◌*◌, Bool, true, false, List, [], ◌∷◌, ◌++◌, length, Result, Ok, Err}
use Rattle.std.specs.List.{flat_map}
use Rattle.modbus_frame.specs.Codes.{function_number, exception_number, read_code_number, level_number}
use Rattle.modbus_frame.specs.declared.identification.DeviceIdObject.{DeviceIdObject}
use Rattle.modbus_frame.specs.declared.identification.ReadDeviceIdentificationResponse.{ReadDeviceIdentificationResponse}
use Rattle.modbus_frame.specs.declared.response.Response.{Response}
use Rattle.modbus_frame.specs.declared.response.Response.TheVariants as response
use Rattle.modbus_frame.specs.declared.response.ExceptionResponse.{ExceptionResponse}
use Rattle.modbus_frame.specs.FunctionCodes as number
use Rattle.modbus_pdu.specs.Limits.{mei_device_identification, fifo_count_size}
use Rattle.modbus_pdu.specs.Fields.{packed_bytes, packed_size, coil_word}
use Rattle.modbus_pdu.specs.Word.{word, words}

-- FF for true, 00 for false: a run indicator, and whether more objects follow
-- (sections 6.13, 6.21)
abbrev pub flag : Bool → ℕ
flag true = 0xFF
flag false = 0x00

-- an object: its id, its length and its value (section 6.21)
abbrev pub object : DeviceIdObject → List ℕ
object o = o.id ∷ length o.value ∷ o.value

-- objects, one after another
unfoldable pub objects : List DeviceIdObject → List ℕ
objects os = flat_map object os

-- a device identification: function and MEI type, read code, conformity level, whether more
-- follows, the next object's id, the number of objects, and these (section 6.21)
unfoldable pub device_identification_pdu : ReadDeviceIdentificationResponse → List ℕ
device_identification_pdu r = number.encapsulated_interface_transport ∷ mei_device_identification ∷ read_code_number r.read_code ∷ level_number r.conformity_level ∷ flag r.more_follows ∷ r.next_object_id ∷ length r.device_id_objects ∷ objects r.device_id_objects

-- the PDU of a response: its function code, and its fields (section 6). Words are big-endian; coils
-- are packed, eight a byte, the first one in the lowest bit
unfoldable pub response_pdu : Response → List ℕ
response_pdu (response.ReadCoils coils) = number.read_coils ∷ packed_size (length coils) ∷ packed_bytes coils
response_pdu (response.ReadDiscreteInputs coils) = number.read_discrete_inputs ∷ packed_size (length coils) ∷ packed_bytes coils
response_pdu (response.ReadHoldingRegisters registers) = number.read_holding_registers ∷ (2 * length registers) ∷ words registers
response_pdu (response.ReadInputRegisters registers) = number.read_input_registers ∷ (2 * length registers) ∷ words registers
response_pdu (response.WriteSingleCoil address coil) = number.write_single_coil ∷ word address ++ word (coil_word coil)
response_pdu (response.WriteSingleRegister address register) = number.write_single_register ∷ word address ++ word register
response_pdu (response.WriteMultipleCoils address quantity) = number.write_multiple_coils ∷ word address ++ word quantity
response_pdu (response.WriteMultipleRegisters address quantity) = number.write_multiple_registers ∷ word address ++ word quantity
response_pdu (response.ReportServerId id run extra) = number.report_server_id ∷ (2 + length extra) ∷ id ∷ flag run ∷ extra
response_pdu (response.MaskWriteRegister address and_mask or_mask) = number.mask_write_register ∷ word address ++ word and_mask ++ word or_mask
response_pdu (response.ReadWriteMultipleRegisters registers) = number.read_write_multiple_registers ∷ (2 * length registers) ∷ words registers
response_pdu (response.ReadFifoQueue registers) = number.read_fifo_queue ∷ word (fifo_count_size + 2 * length registers) ++ word (length registers) ++ words registers
response_pdu (response.ReadDeviceIdentification found) = device_identification_pdu found
response_pdu (response.Custom code bytes) = code ∷ bytes

-- the PDU of an exception: the function code plus the exception bit, and the exception code (section 7)
abbrev pub exception_pdu : ExceptionResponse → List ℕ
exception_pdu refusal = (function_number refusal.function + number.exception_bit) ∷ exception_number refusal.exception ∷ []

-- the PDU of what a server answers
abbrev pub response_result_pdu : Result Response ExceptionResponse → List ℕ
response_result_pdu (Ok answer) = response_pdu answer
response_result_pdu (Err refusal) = exception_pdu refusal
