-- An RTU frame, and what stands at an offset of a list of bytes.
use Rattle.std.specs.Prelude.{ℕ, ◌+◌, ◌*◌, ◌/◌, ◌%◌, ◌||◌, if◌then◌else◌, ◌==◌, nat_lt, List, [], ◌∷◌, ◌++◌, length, take, drop, slice_get, slice_index, Option, Some, None, Result, Ok, Err}
use Rattle.modbus_rtu.specs.declared.length.NoLength.{NoLength}
use Rattle.modbus_rtu.specs.declared.verdict.Verdict.{Verdict}
use Rattle.modbus_rtu.specs.declared.verdict.Verdict.TheVariants.{Open, Bad, Good}
use Rattle.modbus_frame.specs.FunctionCodes as number
use Rattle.modbus_pdu.specs.Limits.{max_pdu, mei_device_identification, code_pdu, one_word_pdu, two_words_pdu, three_words_pdu, write_head, read_write_head, identification_request}
use Rattle.modbus_rtu.specs.Checksum.{crc}
use Rattle.modbus_rtu.specs.Limits.{overhead}

-- The slave address, the PDU, and the checksum of both with its low byte first (MODBUS over Serial Line V1.02, section 2.5.1).
unfoldable pub frame : ℕ → List ℕ → List ℕ
frame slave pdu = let sum = crc (slave ∷ pdu) in slave ∷ pdu ++ sum % 256 ∷ sum / 256 ∷ []

-- How the PDU of a request gets its length. Places are those of a list that begins with the slave address, so the function
-- code stands at place 1.
pub data Rule : Type 0 where
  fixed : ℕ → Rule
  -- so many, the last of which is a byte count, and as many as it says. The slave address moves it on to that place. A length that no
  -- PDU has is none
  counted : ℕ → Rule
  -- by the MEI type at place 2: a length where it is that of device identification, and none for another type
  identification : Rule
  unknown : Rule

-- The rule of a function code (Modbus Application Protocol V1.1b3, section 6).
unfoldable pub rule : ℕ → Rule
rule code =
    if code == number.read_coils || code == number.read_discrete_inputs || code == number.read_holding_registers
    || code == number.read_input_registers || code == number.write_single_coil || code == number.write_single_register
    then fixed two_words_pdu else
    if code == number.read_exception_status || code == number.get_comm_event_counter || code == number.get_comm_event_log
    || code == number.report_server_id
    then fixed code_pdu else
    if code == number.write_multiple_coils || code == number.write_multiple_registers then counted write_head else
    if code == number.mask_write_register then fixed three_words_pdu else
    if code == number.read_write_multiple_registers then counted read_write_head else
    if code == number.read_fifo_queue then fixed one_word_pdu else
    if code == number.encapsulated_interface_transport then identification else
    unknown

-- The head of a PDU: its length; `Ok None` where a byte that the rule needs is missing; `Err` where there is none.
abbrev pub Head : Type 0
Head = Result (Option ℕ) NoLength

abbrev pub identified_head : ℕ → Option ℕ → Head
identified_head code None = Ok None
identified_head code (Some mei) = if mei == mei_device_identification then Ok (Some identification_request) else Err (record { 0 = code })

-- So many bytes, and as many as a byte count says; no length above the most bytes of a PDU (section 4.1). So noise in the place of a
-- byte count is known as such, and no byte is waited for.
abbrev pub counted_head : ℕ → ℕ → Option ℕ → Head
counted_head code n None = Ok None
counted_head code n (Some byte) = if nat_lt max_pdu (n + byte) then Err (record { 0 = code }) else Ok (Some (n + byte))

abbrev pub head_by : ℕ → List ℕ → Rule → Head
head_by code adu (fixed n) = Ok (Some n)
head_by code adu (counted n) = counted_head code n (slice_get adu n)
head_by code adu identification = identified_head code (slice_get adu 2)
head_by code adu unknown = Err (record { 0 = code })

abbrev pub head_at : List ℕ → Option ℕ → Head
head_at adu None = Ok None
head_at adu (Some code) = head_by code adu (rule code)

-- the head of a request in a list that begins with the slave address
unfoldable pub head : List ℕ → Head
head adu = head_at adu (slice_get adu 1)

-- What stands at the front of a list: open, where the head is missing or the frame isn't whole; bad, where there is no length
-- or the last two bytes of the frame aren't the checksum of the rest; else good, with the length of the PDU.
abbrev pub verdict_by : List ℕ → Head → Verdict
verdict_by adu (Ok None) = Open
verdict_by adu (Err no_length) = Bad
verdict_by adu (Ok (Some n)) =
    if nat_lt (length adu) (n + overhead) then Open else
    if crc (take (n + 1) adu) == slice_index adu (n + 1) + 256 * slice_index adu (n + 2) then Good n else Bad

-- the same, by a rule that gives the head of a list
abbrev pub judged_by : (List ℕ → Head) → List ℕ → Verdict
judged_by heads adu = verdict_by adu (heads adu)

-- what stands at the front of a list that is read as a request
unfoldable pub verdict_of : List ℕ → Verdict
verdict_of adu = judged_by head adu

-- what stands at an offset
abbrev pub verdict : List ℕ → ℕ → Verdict
verdict bytes i = verdict_of (drop i bytes)
