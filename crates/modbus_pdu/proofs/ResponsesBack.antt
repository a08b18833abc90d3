-- A response that is written is read again.
use Rattle.std.proofs.Common.{◌≡◌, ℕ, ◌+◌, ◌-◌, ◌*◌, ◌/◌, ◌%◌, ◌^◌, ◌<◌, ◌≤◌, Bool, true, false, List, [], ◌∷◌, ◌++◌, length, get_or, ◌∙◌, Ok, refl, arith, eqb}
use Rattle.std.proofs.lemmas.Bool.Decides.{nat_tests}
use Rattle.std.specs.List.{AllByRecursion}
use Rattle.modbus_frame.specs.declared.code.ReadCode.{ReadCode}
use Rattle.modbus_frame.specs.declared.code.ReadCode.TheVariants as read
use Rattle.modbus_frame.specs.declared.code.ConformityLevel.{ConformityLevel}
use Rattle.modbus_frame.specs.declared.code.ConformityLevel.TheVariants as level
use Rattle.modbus_frame.specs.declared.identification.ReadDeviceIdentificationResponse.{ReadDeviceIdentificationResponse}
use Rattle.modbus_frame.specs.declared.response.Response.{Response}
use Rattle.modbus_frame.specs.declared.response.Response.TheVariants as response
use Rattle.modbus_frame.specs.declared.response.ExceptionResponse.{ExceptionResponse}
use Rattle.modbus_frame.specs.Answered.{function_answered}
use Rattle.modbus_frame.specs.Codes.{function_number, read_code_number, level_number}
use Rattle.modbus_frame.specs.FunctionCodes as number
use Rattle.modbus_pdu.specs.Limits.{max_pdu, mei_device_identification, fifo_count_size}
use Rattle.modbus_pdu.specs.Fields.{words_of, coils_of, packed_bytes, packed_size}
use Rattle.modbus_pdu.specs.Laws.{IsWord}
use Rattle.modbus_pdu.specs.Decodes.{◌>>=◌, read_code_or}
use Rattle.modbus_pdu.specs.RequestOf.{two_words_of, single_coil_of, three_words_of, IsModelled}
use Rattle.modbus_pdu.specs.Word.{word, words}
use Rattle.modbus_pdu.specs.ResponseOf.{objects_at, level_or, coils_read_of, words_read_of, queue_of, server_id_of, device_identification_of, answered_by, response_of, exception_response_of, response_result_of}
use Rattle.modbus_pdu.specs.ResponsePdu.{flag, objects, device_identification_pdu, response_pdu}
use Rattle.modbus_pdu.specs.ResponseLaws.{with_whole_bytes, ResponseReadsBack, ResultReadsBack, ExceptionReadsBack}
use Rattle.modbus_pdu.proofs.Again.{word_back, words_back, other_code}
use Rattle.modbus_pdu.proofs.FilledCoils.{filled_back}
use Rattle.modbus_pdu.proofs.ObjectsBack.{objects_back}
use Rattle.modbus_pdu.proofs.Sizes.{words_length, packed_length}

coils_read_back : (f n : ℕ) (rest : List ℕ) → length rest ≡ n → 2 + n ≤ max_pdu → coils_read_of (f ∷ n ∷ rest) ≡ Ok (coils_of rest (8 * n))
unfolding coils_read_of
coils_read_back f n rest len fits = grind (arith, nat_tests)

words_read_back : (f n : ℕ) (rest : List ℕ) → length rest ≡ 2 * n → 2 + 2 * n ≤ max_pdu → words_read_of (f ∷ (2 * n) ∷ rest) ≡ Ok (words_of rest n)
unfolding words_read_of
words_read_back f n rest len fits =
    let even : (2 * n) % 2 ≡ 0 = omega arith in
    let half : 2 * n / 2 ≡ n = omega arith in
    rw (even, half) (grind (arith, nat_tests))

queue_back : (f a b n m : ℕ) (rest : List ℕ) → a * 256 + b ≡ 2 + 2 * (n * 256 + m) → length rest ≡ 2 * (n * 256 + m) → 5 + length rest ≤ max_pdu → queue_of (f ∷ a ∷ b ∷ n ∷ m ∷ rest) ≡ Ok (words_of rest (n * 256 + m))
unfolding queue_of
queue_back f a b n m rest counted len fits = grind (arith, nat_tests)

server_id_back : (id : ℕ) (run : Bool) (extra : List ℕ) → 4 + length extra ≤ max_pdu → server_id_of (number.report_server_id ∷ (2 + length extra) ∷ id ∷ flag run ∷ extra) ≡ Ok (id, run, extra)
unfolding server_id_of
server_id_back id true extra fits = grind (arith, nat_tests)
server_id_back id false extra fits = grind (arith, nat_tests)

read_code_back : (code : ReadCode) → read_code_or (read_code_number code) ≡ Ok code
read_code_back read.Basic = refl
read_code_back read.Regular = refl
read_code_back read.Extended = refl
read_code_back read.Specific = refl

level_back : (l : ConformityLevel) → level_or (level_number l) ≡ Ok l
level_back level.BasicIdentificationStreamOnly = refl
level_back level.RegularIdentificationStreamOnly = refl
level_back level.ExtendedIdentificationStreamOnly = refl
level_back level.BasicIdentification = refl
level_back level.RegularIdentification = refl
level_back level.ExtendedIdentification = refl

flag_back : (b : Bool) → eqb (flag b) (flag true) ≡ b
flag_back true = refl
flag_back false = refl

-- a device identification, by its fields
identified : (c l m next n : ℕ) (rest : List ℕ) (r : ReadDeviceIdentificationResponse) → read_code_or c ≡ Ok r.read_code → level_or l ≡ Ok r.conformity_level → eqb m (flag true) ≡ r.more_follows → next ≡ r.next_object_id
    → objects_at n 7 (number.encapsulated_interface_transport ∷ mei_device_identification ∷ c ∷ l ∷ m ∷ next ∷ n ∷ rest) ≡ Ok (r.device_id_objects, 7 + length rest) → 7 + length rest ≤ max_pdu
    → device_identification_of (number.encapsulated_interface_transport ∷ mei_device_identification ∷ c ∷ l ∷ m ∷ next ∷ n ∷ rest) ≡ Ok r
unfolding device_identification_of
identified c l m next n rest r code level more id found fits = rw (code, level, found, more, id) (grind (arith, nat_tests))

device_identification_back : (r : ReadDeviceIdentificationResponse) → length (device_identification_pdu r) ≤ max_pdu → device_identification_of (device_identification_pdu r) ≡ Ok r
unfolding device_identification_pdu
device_identification_back r fits =
    let c = read_code_number r.read_code in
    let l = level_number r.conformity_level in
    let m = flag r.more_follows in
    let n = length r.device_id_objects in
    let front = number.encapsulated_interface_transport ∷ mei_device_identification ∷ c ∷ l ∷ m ∷ r.next_object_id ∷ n ∷ [] in
    identified c l m r.next_object_id n (objects r.device_id_objects) r (read_code_back r.read_code) (level_back r.conformity_level) (flag_back r.more_follows) refl
    (objects_back front r.device_id_objects) (omega (arith, fits))

custom_back : (code : ℕ) (bytes : List ℕ) → (IsModelled code → ⊥) → answered_by code (code ∷ bytes) ≡ Ok (response.Custom code bytes)
unfolding answered_by
custom_back code bytes other =
    let n01 = other_code code number.read_coils other refl in
    let n02 = other_code code number.read_discrete_inputs other refl in
    let n03 = other_code code number.read_holding_registers other refl in
    let n04 = other_code code number.read_input_registers other refl in
    let n05 = other_code code number.write_single_coil other refl in
    let n06 = other_code code number.write_single_register other refl in
    let n0F = other_code code number.write_multiple_coils other refl in
    let n10 = other_code code number.write_multiple_registers other refl in
    let n11 = other_code code number.report_server_id other refl in
    let n16 = other_code code number.mask_write_register other refl in
    let n17 = other_code code number.read_write_multiple_registers other refl in
    let n18 = other_code code number.read_fifo_queue other refl in
    let n2B = other_code code number.encapsulated_interface_transport other refl in
    rw (n01, n02, n03, n04, n05, n06, n0F, n10, n11, n16, n17, n18, n2B) refl

-- a PDU with a first byte is read by it
by_code : (code : ℕ) (rest : List ℕ) → response_of (code ∷ rest) ≡ answered_by code (code ∷ rest)
unfolding response_of
by_code code rest = grind (arith, nat_tests)

-- the fields of a response with words
with_words : (f : ℕ) (ns : List ℕ) → AllByRecursion IsWord ns → 2 + length (words ns) ≤ max_pdu → words_read_of (f ∷ (2 * length ns) ∷ words ns) ≡ Ok ns
with_words f ns are fits =
    let len = words_length ns in
    rw (words_read_back f (length ns) (words ns) len (omega (arith, fits, len)), words_back ns are) refl

-- the fields of a response with coils
with_coils : (f : ℕ) (coils : List Bool) → 2 + length (packed_bytes coils) ≤ max_pdu → coils_read_of (f ∷ packed_size (length coils) ∷ packed_bytes coils) ≡ Ok (with_whole_bytes coils)
with_coils f coils fits =
    let len = packed_length coils in
    rw (coils_read_back f (packed_size (length coils)) (packed_bytes coils) len (omega (arith, fits, len)), filled_back coils) refl

-- the fields of a queue
with_queue : (ns : List ℕ) → AllByRecursion IsWord ns → 5 + length (words ns) ≤ max_pdu → queue_of (number.read_fifo_queue ∷ word (fifo_count_size + 2 * length ns) ++ word (length ns) ++ words ns) ≡ Ok ns
with_queue ns are fits =
    let n = length ns in
    let k = fifo_count_size + 2 * n in
    let len = words_length ns in
    let few : n < 2 ^ 16 = omega (arith, fits, len) in
    let counted : k < 2 ^ 16 = omega (arith, fits, len) in
    rw (queue_back number.read_fifo_queue (k / 256 % 256) (k % 256) (n / 256 % 256) (n % 256) (words ns) (omega (arith, word_back k counted, word_back n few)) (omega (arith, len, word_back n few)) fits, word_back n few, words_back ns are) refl

with_identification : (found : ReadDeviceIdentificationResponse) → length (device_identification_pdu found) ≤ max_pdu → response_of (device_identification_pdu found) ≡ Ok (response.ReadDeviceIdentification found)
unfolding response_of answered_by device_identification_pdu
with_identification found fits = rw (device_identification_back found fits) (grind (arith, nat_tests))

pub again : (r : Response) → ResponseReadsBack r
unfolding answered_by response_pdu two_words_of single_coil_of three_words_of
again (response.ReadCoils coils) is fits = rw (by_code, with_coils number.read_coils coils (omega (arith, fits))) refl
again (response.ReadDiscreteInputs coils) is fits = rw (by_code, with_coils number.read_discrete_inputs coils (omega (arith, fits))) refl
again (response.WriteSingleCoil a true) is fits = rw (by_code, word_back a is) refl
again (response.WriteSingleCoil a false) is fits = rw (by_code, word_back a is) refl
again (response.WriteMultipleCoils a q) is fits = rw (by_code, word_back a is.0, word_back q is.1) refl
again (response.ReadInputRegisters ns) is fits = rw (by_code, with_words number.read_input_registers ns is (omega (arith, fits))) refl
again (response.ReadHoldingRegisters ns) is fits = rw (by_code, with_words number.read_holding_registers ns is (omega (arith, fits))) refl
again (response.WriteSingleRegister a w) is fits = rw (by_code, word_back a is.0, word_back w is.1) refl
again (response.WriteMultipleRegisters a q) is fits = rw (by_code, word_back a is.0, word_back q is.1) refl
again (response.ReportServerId id run extra) is fits = rw (by_code, server_id_back id run extra (omega (arith, fits))) refl
again (response.MaskWriteRegister a x y) is fits = rw (by_code, word_back a is.0, word_back x is.1, word_back y is.2) refl
again (response.ReadWriteMultipleRegisters ns) is fits = rw (by_code, with_words number.read_write_multiple_registers ns is (omega (arith, fits))) refl
again (response.ReadFifoQueue ns) is fits = rw (by_code, with_queue ns is (omega (arith, fits))) refl
again (response.ReadDeviceIdentification found) is fits = with_identification found fits
again (response.Custom code bytes) is fits = rw (by_code, custom_back code bytes is) refl

-- the first byte of a response is its function code
starts : (r : Response) → (1 ≤ length (response_pdu r)) × (get_or (response_pdu r) 0 0 ≡ function_number (function_answered r))
unfolding response_pdu device_identification_pdu
starts (response.ReadCoils coils) = (omega arith, refl)
starts (response.ReadDiscreteInputs coils) = (omega arith, refl)
starts (response.WriteSingleCoil a coil) = (omega arith, refl)
starts (response.WriteMultipleCoils a q) = (omega arith, refl)
starts (response.ReadInputRegisters ns) = (omega arith, refl)
starts (response.ReadHoldingRegisters ns) = (omega arith, refl)
starts (response.WriteSingleRegister a w) = (omega arith, refl)
starts (response.WriteMultipleRegisters a q) = (omega arith, refl)
starts (response.ReportServerId id run extra) = (omega arith, refl)
starts (response.MaskWriteRegister a x y) = (omega arith, refl)
starts (response.ReadWriteMultipleRegisters ns) = (omega arith, refl)
starts (response.ReadFifoQueue ns) = (omega arith, refl)
starts (response.ReadDeviceIdentification found) = (omega arith, refl)
starts (response.Custom code bytes) = (omega arith, refl)

-- a function code below the exception bit leaves a PDU to responses
by_response : (pdu : List ℕ) → 1 ≤ length pdu → get_or pdu 0 0 < number.exception_bit → response_result_of pdu ≡ (response_of pdu >>= λ answer. Ok (Ok answer))
unfolding response_result_of
by_response pdu some below = grind (arith, nat_tests)

pub result_again : (r : Response) → ResultReadsBack r
result_again r is below fits =
    let first = starts r in
    by_response (response_pdu r) first.0 (omega (arith, first.1, below)) ∙ rw (again r is fits) refl

pub exception_again : (e : ExceptionResponse) → ExceptionReadsBack e
unfolding response_result_of exception_response_of
exception_again e below =
    let n = function_number e.function in
    let same : n + number.exception_bit - number.exception_bit ≡ n = omega arith in
    rw same (grind (arith, nat_tests))
