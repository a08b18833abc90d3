-- The response that a PDU stands for, or the reason why it stands for none, by places of the whole
-- PDU. Place 0 is the function code. Of several reasons it is the first one of the kind's list. Codes
-- and bytes are hexadecimal.
-- (MODBUS Application Protocol V1.1b3, sections 4.1, 6 and 7)
use Rattle.std.specs.Prelude.{ℕ, zero, suc, ◌+◌, ◌-◌, ◌*◌, ◌/◌, ◌%◌, Bool, true, false, List, [], ◌∷◌, length, take, drop, slice_index, ◌==◌, nat_lt, Some, None, Result, Ok, Err, if◌then◌else◌, ⊤}
use Rattle.modbus_frame.specs.declared.fault.Reason.{Reason}
use Rattle.modbus_frame.specs.declared.fault.Reason.TheVariants as reason
use Rattle.modbus_frame.specs.declared.code.ConformityLevel.{ConformityLevel}
use Rattle.modbus_frame.specs.declared.identification.DeviceIdObject.{DeviceIdObject}
use Rattle.modbus_frame.specs.declared.identification.ReadDeviceIdentificationResponse.{ReadDeviceIdentificationResponse}
use Rattle.modbus_frame.specs.declared.response.Response.{Response}
use Rattle.modbus_frame.specs.declared.response.Response.TheVariants as response
use Rattle.modbus_frame.specs.declared.response.ExceptionResponse.{ExceptionResponse}
use Rattle.modbus_frame.specs.Codes.{function_of, exception_of, level_of}
use Rattle.modbus_frame.specs.FunctionCodes as number
use Rattle.modbus_pdu.specs.Limits.{max_pdu, mei_device_identification, one_byte_pdu, read_head, server_id_head, fifo_head, fifo_count_size, identification_head}
use Rattle.modbus_pdu.specs.Fields.{word_at, words_of, coils_of}
use Rattle.modbus_pdu.specs.Decodes.{◌>>=◌, read_code_or}
use Rattle.modbus_pdu.specs.ResponsePdu.{flag}
use Rattle.modbus_pdu.specs.RequestOf.{two_words_of, single_coil_of, three_words_of}

-- Read Coils, Read Discrete Inputs: at most `max_pdu` bytes; the byte count at place 1, and exactly so many bytes of packed coils,
-- eight in each (sections 6.1, 6.2)
unfoldable pub coils_read_of : List ℕ → Result (List Bool) Reason
coils_read_of pdu =
    let count = slice_index pdu 1 in
    if nat_lt max_pdu (length pdu) then Err reason.SizeExceeded
    else if nat_lt (length pdu) read_head then Err reason.UnexpectedEnd
    else if nat_lt (length pdu) (read_head + count) then Err reason.TooShort
    else if nat_lt (read_head + count) (length pdu) then Err reason.UndecodedData
    else Ok (coils_of (drop read_head pdu) (8 * count))

-- Read Holding Registers, Read Input Registers, Read/Write Multiple Registers: at most `max_pdu` bytes;
-- the byte count at place 1, which is even, and exactly so many bytes of words (sections 6.3, 6.4, 6.17)
unfoldable pub words_read_of : List ℕ → Result (List ℕ) Reason
words_read_of pdu =
    let count = slice_index pdu 1 in
    if nat_lt max_pdu (length pdu) then Err reason.SizeExceeded
    else if nat_lt (length pdu) read_head then Err reason.UnexpectedEnd
    else if count % 2 == 1 then Err reason.InvalidQuantity
    else if nat_lt (length pdu) (read_head + count) then Err reason.UnexpectedEnd
    else if nat_lt (read_head + count) (length pdu) then Err reason.UndecodedData
    else Ok (words_of (drop read_head pdu) (count / 2))

-- Read FIFO Queue: at most `max_pdu` bytes; the byte count at place 1 and the count of words at place 3, both in two bytes, and
-- exactly so many words. The byte count counts the bytes of the count of words and of the words; it is no more than two bytes
-- hold, so a count whose bytes do not go into it has none that agrees (section 6.18)
unfoldable pub queue_of : List ℕ → Result (List ℕ) Reason
queue_of pdu =
    let bytes = word_at pdu 1 in
    let count = word_at pdu 3 in
    if nat_lt max_pdu (length pdu) then Err reason.SizeExceeded
    else if nat_lt (length pdu) (fifo_head + fifo_count_size) then Err reason.UnexpectedEnd
    else if bytes == fifo_count_size + 2 * count then
    (if nat_lt (length pdu) (fifo_head + bytes) then Err reason.UnexpectedEnd
    else if nat_lt (fifo_head + bytes) (length pdu) then Err reason.UndecodedData
    else Ok (words_of (drop (fifo_head + fifo_count_size) pdu) count))
    else Err reason.InvalidQuantity

-- the run indicator: FF is on, 00 is off (section 6.13)
abbrev pub run_status_of : ℕ → Result Bool Reason
run_status_of status =
    if status == flag true then Ok true
    else if status == flag false then Ok false
    else Err (reason.InvalidRunStatus status)

-- Report Server ID: at most `max_pdu` bytes; the byte count at place 1, which counts the server's id at place 2, its
-- run indicator at place 3, and the data after these (section 6.13)
unfoldable pub server_id_of : List ℕ → Result (ℕ × Bool × List ℕ) Reason
server_id_of pdu =
    let count = slice_index pdu 1 in
    if nat_lt max_pdu (length pdu) then Err reason.SizeExceeded
    else if nat_lt (length pdu) read_head then Err reason.UnexpectedEnd
    else if nat_lt count 2 then Err reason.TooShort
    else if nat_lt (length pdu) server_id_head then Err reason.UnexpectedEnd
    else (run_status_of (slice_index pdu 3) >>= λ run.
    if nat_lt (length pdu) (read_head + count) then Err reason.UnexpectedEnd
    else if nat_lt (read_head + count) (length pdu) then Err reason.UndecodedData
    else Ok (slice_index pdu 2, run, drop server_id_head pdu))

-- the value of the object at a place: so many bytes as the byte after its id tells
abbrev pub value_at : List ℕ → ℕ → List ℕ
value_at pdu place = take (slice_index pdu (place + 1)) (drop (place + 2) pdu)

-- the place after the object at a place
abbrev pub after_object : List ℕ → ℕ → ℕ
after_object pdu place = place + 2 + slice_index pdu (place + 1)

-- the object at a place, and the place after it: its id, its length and its value (section 6.21)
unfoldable pub object_at : ℕ → List ℕ → Result (DeviceIdObject × ℕ) Reason
object_at place pdu =
    if nat_lt (length pdu) (place + 2) then Err reason.UnexpectedEnd
    else if nat_lt (length pdu) (after_object pdu place) then Err reason.InvalidObjectLength
    else Ok (record { id = slice_index pdu place; value = value_at pdu place }, after_object pdu place)

-- so many objects from a place on, one after another, and the place after the last of them
unfoldable pub objects_at : ℕ → ℕ → List ℕ → Result (List DeviceIdObject × ℕ) Reason
objects_at zero place pdu = Ok ([], place)
objects_at (suc n) place pdu =
    object_at place pdu >>= λ first.
    objects_at n first.1 pdu >>= λ others. Ok (first.0 ∷ others.0, others.1)

-- the place after what was read, or its refusal
abbrev pub place_after : {A : Type 0} → Result (A × ℕ) Reason → Result ℕ Reason
place_after read = read >>= λ x. Ok x.1

-- the conformity level of a number, or its refusal
abbrev pub level_or : ℕ → Result ConformityLevel Reason
level_or number = elim (level_of number) [ None ↦ Err (reason.InvalidConformity number) | Some level ↦ Ok level ]

-- Read Device Identification: the MEI type at place 1; at most `max_pdu` bytes; the read code, the conformity level, FF where
-- more follows, the next object's id, the number of objects, and these to the end
-- (sections 6.19, 6.21)
unfoldable pub device_identification_of : List ℕ → Result ReadDeviceIdentificationResponse Reason
device_identification_of pdu =
    if nat_lt (length pdu) 2 then Err reason.UnexpectedEnd
    else if slice_index pdu 1 == mei_device_identification then
    (if nat_lt max_pdu (length pdu) then Err reason.SizeExceeded
    else if nat_lt (length pdu) 3 then Err reason.UnexpectedEnd
    else (read_code_or (slice_index pdu 2) >>= λ code.
    if nat_lt (length pdu) 4 then Err reason.UnexpectedEnd
    else (level_or (slice_index pdu 3) >>= λ level.
    if nat_lt (length pdu) identification_head then Err reason.UnexpectedEnd
    else (objects_at (slice_index pdu 6) identification_head pdu >>= λ found.
    if nat_lt found.1 (length pdu) then Err reason.UndecodedData
    else Ok (record { read_code = code; conformity_level = level; more_follows = slice_index pdu 4 == flag true; next_object_id = slice_index pdu 5; device_id_objects = found.0 })))))
    else Err (reason.UnsupportedMei (slice_index pdu 1))

-- the response of a PDU with this function code. Writes but for the read and write are spelled as requests
-- are whose fields they repeat (sections 6.5, 6.6, 6.11, 6.12, 6.16); a code that has no kind of its own
-- is `Custom` with the bytes after it, also one of the exception bit or above
unfoldable pub answered_by : ℕ → List ℕ → Result Response Reason
answered_by code pdu =
    if code == number.read_coils then (coils_read_of pdu >>= λ coils. Ok (response.ReadCoils coils))
    else if code == number.read_discrete_inputs then (coils_read_of pdu >>= λ coils. Ok (response.ReadDiscreteInputs coils))
    else if code == number.read_holding_registers then (words_read_of pdu >>= λ words. Ok (response.ReadHoldingRegisters words))
    else if code == number.read_input_registers then (words_read_of pdu >>= λ words. Ok (response.ReadInputRegisters words))
    else if code == number.write_single_coil then (single_coil_of pdu >>= λ x. Ok (response.WriteSingleCoil x.0 x.1))
    else if code == number.write_single_register then (two_words_of pdu >>= λ x. Ok (response.WriteSingleRegister x.0 x.1))
    else if code == number.write_multiple_coils then (two_words_of pdu >>= λ x. Ok (response.WriteMultipleCoils x.0 x.1))
    else if code == number.write_multiple_registers then (two_words_of pdu >>= λ x. Ok (response.WriteMultipleRegisters x.0 x.1))
    else if code == number.report_server_id then (server_id_of pdu >>= λ x. Ok (response.ReportServerId x.0 x.1 x.2))
    else if code == number.mask_write_register then (three_words_of pdu >>= λ x. Ok (response.MaskWriteRegister x.0 x.1 x.2))
    else if code == number.read_write_multiple_registers then (words_read_of pdu >>= λ words. Ok (response.ReadWriteMultipleRegisters words))
    else if code == number.read_fifo_queue then (queue_of pdu >>= λ words. Ok (response.ReadFifoQueue words))
    else if code == number.encapsulated_interface_transport then (device_identification_of pdu >>= λ found. Ok (response.ReadDeviceIdentification found))
    else Ok (response.Custom code (drop 1 pdu))

-- the response of a PDU, by its function code (section 6)
unfoldable pub response_of : List ℕ → Result Response Reason
response_of pdu =
    if nat_lt (length pdu) 1 then Err reason.UnexpectedEnd
    else answered_by (slice_index pdu 0) pdu

-- the exception of a PDU: the function code plus the exception bit, then the exception code. What follows them
-- is not looked at (section 7)
unfoldable pub exception_response_of : List ℕ → Result ExceptionResponse Reason
exception_response_of pdu =
    if nat_lt (length pdu) 1 then Err reason.UnexpectedEnd
    else if nat_lt (slice_index pdu 0) number.exception_bit then Err (reason.InvalidFunction (slice_index pdu 0))
    else if nat_lt (length pdu) one_byte_pdu then Err reason.UnexpectedEnd
    else Ok (record { function = function_of (slice_index pdu 0 - number.exception_bit); exception = exception_of (slice_index pdu 1) })

-- what a server's PDU stands for: a response, or from the exception bit on an exception
-- (section 7)
unfoldable pub response_result_of : List ℕ → Result (Result Response ExceptionResponse) Reason
response_result_of pdu =
    if nat_lt (length pdu) 1 then Err reason.UnexpectedEnd
    else if nat_lt (slice_index pdu 0) number.exception_bit then (response_of pdu >>= λ answer. Ok (Ok answer))
    else (exception_response_of pdu >>= λ refusal. Ok (Err refusal))

-- the responses that carry a list or bytes of their own; all others are a few numbers
abbrev pub CarriesMemory : Response → Type 0
CarriesMemory (response.ReadCoils coils) = ⊤
CarriesMemory (response.ReadDiscreteInputs coils) = ⊤
CarriesMemory (response.ReadInputRegisters words) = ⊤
CarriesMemory (response.ReadHoldingRegisters words) = ⊤
CarriesMemory (response.ReadWriteMultipleRegisters words) = ⊤
CarriesMemory (response.ReadFifoQueue words) = ⊤
CarriesMemory (response.ReportServerId id run extra) = ⊤
CarriesMemory (response.ReadDeviceIdentification found) = ⊤
CarriesMemory (response.Custom code bytes) = ⊤
CarriesMemory (response.WriteSingleCoil address coil) = ⊥
CarriesMemory (response.WriteSingleRegister address word) = ⊥
CarriesMemory (response.WriteMultipleCoils address quantity) = ⊥
CarriesMemory (response.WriteMultipleRegisters address quantity) = ⊥
CarriesMemory (response.MaskWriteRegister address and_mask or_mask) = ⊥

-- the same of what a server's PDU stands for: an exception is two numbers
abbrev pub AnswerCarriesMemory : Result Response ExceptionResponse → Type 0
AnswerCarriesMemory (Ok answer) = CarriesMemory answer
AnswerCarriesMemory (Err refusal) = ⊥
