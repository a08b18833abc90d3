-- The responses that are read back from their PDUs, and as what.
use Rattle.std.specs.Prelude.{◌≡◌, ℕ, ◌+◌, ◌-◌, ◌*◌, ◌<◌, sum_by, Bool, false, List, ◌++◌, length, replicate, Ok, Err, ⊤}
use Rattle.std.specs.List.{AllByRecursion}
use Rattle.modbus_frame.specs.Answered.{function_answered}
use Rattle.modbus_frame.specs.Codes.{function_number, function_of, exception_number, exception_of}
use Rattle.modbus_frame.specs.declared.response.Response.{Response}
use Rattle.modbus_frame.specs.declared.response.Response.TheVariants as response
use Rattle.modbus_frame.specs.declared.response.ExceptionResponse.{ExceptionResponse}
use Rattle.modbus_frame.specs.FunctionCodes as number
use Rattle.modbus_pdu.specs.Encodes.{Fits}
use Rattle.modbus_pdu.specs.Fields.{packed_size}
use Rattle.modbus_pdu.specs.Laws.{IsWord}
use Rattle.modbus_pdu.specs.Limits.{code_pdu, two_words_pdu, three_words_pdu, read_head, server_id_head, fifo_head, fifo_count_size, identification_head}
use Rattle.modbus_pdu.specs.RequestOf.{IsModelled}
use Rattle.modbus_pdu.specs.ResponseOf.{response_of, response_result_of}
use Rattle.modbus_pdu.specs.ResponsePdu.{response_pdu, exception_pdu}

-- each address, quantity and word is below 2^16, and the code of a `Custom` stands for no other kind
abbrev pub IsResponse : Response → Type 0
IsResponse (response.ReadCoils coils) = ⊤
IsResponse (response.ReadDiscreteInputs coils) = ⊤
IsResponse (response.WriteSingleCoil address coil) = IsWord address
IsResponse (response.WriteMultipleCoils address quantity) = IsWord address × IsWord quantity
IsResponse (response.ReadInputRegisters words) = AllByRecursion IsWord words
IsResponse (response.ReadHoldingRegisters words) = AllByRecursion IsWord words
IsResponse (response.WriteSingleRegister address word) = IsWord address × IsWord word
IsResponse (response.WriteMultipleRegisters address quantity) = IsWord address × IsWord quantity
IsResponse (response.ReportServerId id run extra) = ⊤
IsResponse (response.MaskWriteRegister address and_mask or_mask) = IsWord address × IsWord and_mask × IsWord or_mask
IsResponse (response.ReadWriteMultipleRegisters words) = AllByRecursion IsWord words
IsResponse (response.ReadFifoQueue words) = AllByRecursion IsWord words
IsResponse (response.ReadDeviceIdentification found) = ⊤
IsResponse (response.Custom code bytes) = IsModelled code → ⊥

-- the coils, and after them as many that are false as fill the last byte
abbrev pub with_whole_bytes : List Bool → List Bool
with_whole_bytes coils = coils ++ replicate (8 * packed_size (length coils) - length coils) false

-- the response, with its coils filled: a PDU tells how many bytes of coils it has, and not how many
-- of them were asked for (MODBUS Application Protocol V1.1b3, section 6.1)
abbrev pub with_filled_coils : Response → Response
with_filled_coils (response.ReadCoils coils) = response.ReadCoils (with_whole_bytes coils)
with_filled_coils (response.ReadDiscreteInputs coils) = response.ReadDiscreteInputs (with_whole_bytes coils)
with_filled_coils other = other

-- what is written is read again, but for the coils that fill the last byte
abbrev pub ResponseReadsBack : Response → Type 0
ResponseReadsBack r = IsResponse r → Fits (response_pdu r) → response_of (response_pdu r) ≡ Ok (with_filled_coils r)

-- the same of what a server's PDU stands for, where the function code is below the exception bit
abbrev pub ResultReadsBack : Response → Type 0
ResultReadsBack r = IsResponse r → function_number (function_answered r) < number.exception_bit → Fits (response_pdu r) → response_result_of (response_pdu r) ≡ Ok (Ok (with_filled_coils r))

-- what is written of an exception is read again, as the codes that its two numbers stand for: a
-- `Custom` with the number of a named code is read as that one
abbrev pub ExceptionReadsBack : ExceptionResponse → Type 0
ExceptionReadsBack e = function_number e.function < number.exception_bit → response_result_of (exception_pdu e) ≡ Ok (Err (record { function = function_of (function_number e.function); exception = exception_of (exception_number e.exception) }))

-- How many bytes the PDU of a response has (sections 6.1 to 6.6, 6.11 to 6.13, 6.16 to 6.18 and 6.21).
abbrev pub response_size : Response → ℕ
response_size (response.ReadCoils coils) = read_head + packed_size (length coils)
response_size (response.ReadDiscreteInputs coils) = read_head + packed_size (length coils)
response_size (response.ReadInputRegisters words) = read_head + 2 * length words
response_size (response.ReadHoldingRegisters words) = read_head + 2 * length words
response_size (response.ReadWriteMultipleRegisters words) = read_head + 2 * length words
response_size (response.WriteSingleCoil address coil) = two_words_pdu
response_size (response.WriteSingleRegister address word) = two_words_pdu
response_size (response.WriteMultipleCoils address quantity) = two_words_pdu
response_size (response.WriteMultipleRegisters address quantity) = two_words_pdu
response_size (response.ReportServerId id run extra) = server_id_head + length extra
response_size (response.MaskWriteRegister address and_mask or_mask) = three_words_pdu
response_size (response.ReadFifoQueue words) = fifo_head + fifo_count_size + 2 * length words
response_size (response.ReadDeviceIdentification found) = identification_head + sum_by (λ object. 2 + length object.value) found.device_id_objects
response_size (response.Custom code bytes) = code_pdu + length bytes
