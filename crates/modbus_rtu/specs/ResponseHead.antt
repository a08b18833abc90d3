-- How the PDU of a response gets its length. Places are those of a list that begins with the slave address, so the function code
-- stands at place 1 (Modbus Application Protocol V1.1b3, sections 6 and 7).
use Rattle.std.specs.Prelude.{◌≡◌, ℕ, zero, suc, ◌+◌, ◌-◌, ◌*◌, ◌&&◌, ◌||◌, if◌then◌else◌, ◌==◌, nat_lt, nat_le, List, ◌∷◌, length, slice_get, Option, Some, None, Ok, Err, option_and_then}
use Rattle.std.specs.Option.{option_map}
use Rattle.modbus_pdu.specs.SlavePdu.{SlavePdu}
use Rattle.modbus_rtu.specs.declared.verdict.Verdict.{Verdict}
use Rattle.modbus_frame.specs.FunctionCodes as number
use Rattle.modbus_pdu.specs.Limits.{mei_device_identification, one_byte_pdu, two_words_pdu, three_words_pdu, read_head, fifo_head}
use Rattle.modbus_rtu.specs.Frame.{Head, judged_by}
use Rattle.modbus_rtu.specs.Limits.{slave_address, overhead, object_count, first_object, object_head}

pub data ResponseRule : Type 0 where
  fixed : ℕ → ResponseRule
  -- the function code, a byte count, which stands at place 2, and as many as it says
  counted : ResponseRule
  -- the function code, a byte count of two bytes at places 2 and 3, the high one first, and as many as it says
  counted_word : ResponseRule
  -- with the MEI type of device identification at place 2: up to the end of the last object. Another type is read as an unknown
  -- function
  identification : ResponseRule
  -- all bytes that are held, but for the slave address and the checksum
  unknown : ResponseRule

-- the exceptions of the first and of the last function code (section 7)
abbrev pub first_exception : ℕ
first_exception = number.exception_bit + number.read_coils

abbrev pub last_exception : ℕ
last_exception = number.exception_bit + number.encapsulated_interface_transport

-- The rule of a function code. From the first exception to the last one the codes are those of exceptions.
unfoldable pub response_rule : ℕ → ResponseRule
response_rule code =
    if code == number.read_coils || code == number.read_discrete_inputs || code == number.read_holding_registers
    || code == number.read_input_registers || code == number.get_comm_event_log || code == number.report_server_id
    || code == number.read_write_multiple_registers
    then counted else
    if code == number.write_single_coil || code == number.write_single_register || code == number.get_comm_event_counter
    || code == number.write_multiple_coils || code == number.write_multiple_registers
    then fixed two_words_pdu else
    if code == number.read_exception_status then fixed one_byte_pdu else
    if code == number.mask_write_register then fixed three_words_pdu else
    if code == number.read_fifo_queue then counted_word else
    if code == number.encapsulated_interface_transport then identification else
    if nat_le first_exception code && nat_le code last_exception then fixed one_byte_pdu else
    unknown

-- a place, where it isn't past the end
abbrev pub within : List ℕ → ℕ → Option ℕ
within adu place = if nat_le place (length adu) then Some place else None

-- the place after an object: its id, its length and so many bytes; none where one of them is missing (section 6.21)
abbrev pub place_after_object : List ℕ → ℕ → Option ℕ
place_after_object adu place = option_and_then (λ size. within adu (place + object_head + size)) (slice_get adu (place + 1))

-- the place after so many objects from a place on
unfoldable pub after_objects : List ℕ → ℕ → ℕ → Option ℕ
after_objects adu zero place = Some place
after_objects adu (suc n) place = option_and_then (after_objects adu n) (place_after_object adu place)

-- The head of a device identification.
unfoldable pub identified_len : List ℕ → Option ℕ
identified_len adu = option_and_then (λ count. option_map (λ end. end - slave_address) (after_objects adu count first_object)) (slice_get adu object_count)

-- all held bytes but the slave address and the checksum; no length where there are fewer than these
abbrev pub held_len : ℕ → List ℕ → Head
held_len code adu = if nat_lt (length adu) overhead then Err (record { 0 = code }) else Ok (Some (length adu - overhead))

-- by the MEI type
abbrev pub response_identified : ℕ → List ℕ → Option ℕ → Head
response_identified code adu None = Ok None
response_identified code adu (Some mei) = if mei == mei_device_identification then Ok (identified_len adu) else held_len code adu

-- so many bytes, and as many as two bytes say, the high one first
abbrev pub word_len : Option ℕ → Option ℕ → Option ℕ
word_len (Some high) (Some low) = Some (fifo_head + (256 * high + low))
word_len (Some high) None = None
word_len None low = None

abbrev pub response_head_by : ℕ → List ℕ → ResponseRule → Head
response_head_by code adu (fixed n) = Ok (Some n)
response_head_by code adu counted = Ok (option_map (λ byte. read_head + byte) (slice_get adu 2))
response_head_by code adu counted_word = Ok (word_len (slice_get adu 2) (slice_get adu 3))
response_head_by code adu identification = response_identified code adu (slice_get adu 2)
response_head_by code adu unknown = held_len code adu

abbrev pub response_head_at : List ℕ → Option ℕ → Head
response_head_at adu None = Ok None
response_head_at adu (Some code) = response_head_by code adu (response_rule code)

-- the head of a response in a list that begins with the slave address
unfoldable pub response_head : List ℕ → Head
response_head adu = response_head_at adu (slice_get adu 1)

-- a slave address and the PDU of a response whose first bytes tell its length
abbrev pub HasResponseHead : SlavePdu → Type 0
HasResponseHead message = response_head (message.header ∷ message.pdu) ≡ Ok (Some (length message.pdu))

-- what stands at the front of a list that is read as a response
unfoldable pub response_verdict : List ℕ → Verdict
response_verdict adu = judged_by response_head adu
