-- A request that is written is read again.
use Rattle.std.proofs.Common.{◌≡◌, ℕ, zero, suc, ◌+◌, ◌*◌, ◌/◌, ◌%◌, ◌^◌, ◌<◌, ◌≤◌, Bool, true, false, List, [], ◌∷◌, length, get_or, Ok, refl, sym, subst, arith, eqb, ltb}
use Rattle.std.proofs.lemmas.List.FromFn.{fill_by_all}
use Rattle.std.proofs.lemmas.Bool.Decides.{nat_tests}
use Rattle.std.proofs.lemmas.Bool.{eqb-true, lt-ltb}
use Rattle.std.specs.List.{AllByRecursion}
use Rattle.modbus_frame.specs.declared.code.ReadCode.{ReadCode}
use Rattle.modbus_frame.specs.declared.code.ReadCode.TheVariants as read
use Rattle.modbus_frame.specs.Codes.{read_code_number}
use Rattle.modbus_frame.specs.Meaning.{Asked, ReadCoils, ReadDiscreteInputs, WriteSingleCoil, WriteMultipleCoils, ReadInputRegisters, ReadHoldingRegisters, WriteSingleRegister, WriteMultipleRegisters, ReportServerId, MaskWriteRegister, ReadWriteMultipleRegisters, ReadFifoQueue, ReadDeviceIdentification, Custom}
use Rattle.modbus_frame.specs.FunctionCodes as number
use Rattle.modbus_pdu.specs.Limits.{max_pdu, mei_device_identification}
use Rattle.modbus_pdu.specs.Fields.{word_at, words_of, coils_of, packed_bytes, packed_size}
use Rattle.modbus_pdu.specs.Word.{word, words}
use Rattle.modbus_pdu.specs.RequestPdu.{request_pdu}
use Rattle.modbus_pdu.specs.RequestOf.{request_of, asked_by, two_words_of, single_coil_of, three_words_of, only_code_of, one_word_of, identification_of, registers_at, words_written_of, coils_written_of, read_write_of, IsModelled}
use Rattle.modbus_pdu.specs.Laws.{IsWord, IsInRange, ReadsBack}
use Rattle.modbus_pdu.proofs.Sizes.{words_length, packed_length}
use Rattle.modbus_pdu.proofs.Unpacked.{packed_back}

pub word_back : (n : ℕ) → n < 2 ^ 16 → word_at (word n) 0 ≡ n
word_back n small = omega arith

words_at_place : (ns : List ℕ) → AllByRecursion IsWord ns → (k : ℕ) → k < length ns → get_or ns k 0 ≡ word_at (words ns) (2 * k)
unfolding words
words_at_place [] fits k h = absurd (omega arith)
words_at_place (n ∷ ns) fits zero h = omega (arith, fits.0)
words_at_place (n ∷ ns) fits (suc k) h =
    let e1 : 2 * suc k ≡ suc (suc (2 * k)) = omega arith in
    let e2 : 2 * suc k + 1 ≡ suc (suc (2 * k + 1)) = omega arith in
    rw (e2, e1) (words_at_place ns fits.1 k (omega arith))

pub words_back : (ns : List ℕ) → AllByRecursion IsWord ns → words_of (words ns) (length ns) ≡ ns
words_back ns fits = sym (fill_by_all (λ (i : ℕ). word_at (words ns) (2 * i)) ns (length ns) 0 refl (words_at_place ns fits))

words_written_back : (f a b n m k : ℕ) (rest : List ℕ) → k ≡ 2 * (n * 256 + m) → length rest ≡ k → 6 + k ≤ max_pdu → words_written_of (f ∷ a ∷ b ∷ n ∷ m ∷ k ∷ rest) ≡ Ok (a * 256 + b, words_of rest (n * 256 + m))
unfolding words_written_of registers_at
words_written_back f a b n m k rest twice len fits = grind (arith, nat_tests)

read_write_back : (f a b c d e g n m k : ℕ) (rest : List ℕ) → k ≡ 2 * (n * 256 + m) → length rest ≡ k → 10 + k ≤ max_pdu → read_write_of (f ∷ a ∷ b ∷ c ∷ d ∷ e ∷ g ∷ n ∷ m ∷ k ∷ rest) ≡ Ok (a * 256 + b, c * 256 + d, e * 256 + g, words_of rest (n * 256 + m))
unfolding read_write_of registers_at
read_write_back f a b c d e g n m k rest twice len fits = grind (arith, nat_tests)

coils_written_back : (f a b n m k : ℕ) (rest : List ℕ) → n * 256 + m ≤ 8 * k → length rest ≡ k → 6 + k ≤ max_pdu → coils_written_of (f ∷ a ∷ b ∷ n ∷ m ∷ k ∷ rest) ≡ Ok (a * 256 + b, coils_of rest (n * 256 + m))
unfolding coils_written_of
coils_written_back f a b n m k rest enough len fits = grind (arith, nat_tests)

is_false : (b : Bool) → (b ≡ true → ⊥) → b ≡ false
is_false true h = absurd (h refl)
is_false false h = refl

pub other_code : (code k : ℕ) → (IsModelled code → ⊥) → IsModelled k → eqb code k ≡ false
other_code code k not_this this = is_false (eqb code k) (λ e. not_this (subst IsModelled (sym (eqb-true code k e)) this))

custom_back : (code : ℕ) (bytes : List ℕ) → code < number.exception_bit → (IsModelled code → ⊥) → asked_by code (code ∷ bytes) ≡ Ok (Custom code bytes)
unfolding asked_by
custom_back code bytes small other =
    let n01 = other_code code number.read_coils other refl in
    let n02 = other_code code number.read_discrete_inputs other refl in
    let n03 = other_code code number.read_holding_registers other refl in
    let n04 = other_code code number.read_input_registers other refl in
    let n05 = other_code code number.write_single_coil other refl in
    let n06 = other_code code number.write_single_register other refl in
    let n0F = other_code code number.write_multiple_coils other refl in
    let n10 = other_code code number.write_multiple_registers other refl in
    let n11 = other_code code number.report_server_id other refl in
    let n16 = other_code code number.mask_write_register other refl in
    let n17 = other_code code number.read_write_multiple_registers other refl in
    let n18 = other_code code number.read_fifo_queue other refl in
    let n2B = other_code code number.encapsulated_interface_transport other refl in
    let low : ltb code number.exception_bit ≡ true = lt-ltb code number.exception_bit small in
    rw (n01, n02, n03, n04, n05, n06, n0F, n10, n11, n16, n17, n18, n2B, low) refl

identification_back : (code : ReadCode) (id : ℕ) → identification_of (number.encapsulated_interface_transport ∷ mei_device_identification ∷ read_code_number code ∷ id ∷ []) ≡ Ok (code, id)
unfolding identification_of
identification_back read.Basic id = refl
identification_back read.Regular id = refl
identification_back read.Extended id = refl
identification_back read.Specific id = refl

pub again : (r : Asked) → IsInRange r → ReadsBack r
unfolding request_of asked_by request_pdu one_word_of two_words_of single_coil_of three_words_of only_code_of
again (ReadCoils a q) is readable fits = rw (word_back a is.0, word_back q is.1) refl
again (ReadDiscreteInputs a q) is readable fits = rw (word_back a is.0, word_back q is.1) refl
again (WriteSingleCoil a true) is readable fits = rw (word_back a is) refl
again (WriteSingleCoil a false) is readable fits = rw (word_back a is) refl
again (WriteMultipleCoils a coils) is readable fits =
    let len = packed_length coils in
    let n = length coils in
    let few : n < 2 ^ 16 = omega (arith, fits, len) in
    rw (coils_written_back number.write_multiple_coils (a / 256 % 256) (a % 256) (n / 256 % 256) (n % 256) (packed_size n) (packed_bytes coils) (omega arith) len (omega (arith, fits, len)), word_back a is, word_back n few, packed_back coils) refl
again (ReadInputRegisters a q) is readable fits = rw (word_back a is.0, word_back q is.1) refl
again (ReadHoldingRegisters a q) is readable fits = rw (word_back a is.0, word_back q is.1) refl
again (WriteSingleRegister a w) is readable fits = rw (word_back a is.0, word_back w is.1) refl
again (WriteMultipleRegisters a ns) is readable fits =
    let len = words_length ns in
    let n = length ns in
    let few : n < 2 ^ 16 = omega (arith, fits, len) in
    rw (words_written_back number.write_multiple_registers (a / 256 % 256) (a % 256) (n / 256 % 256) (n % 256) (2 * n) (words ns) (omega arith) len (omega (arith, fits, len)), word_back a is.0, word_back n few, words_back ns is.1) refl
again ReportServerId is readable fits = refl
again (MaskWriteRegister a x y) is readable fits = rw (word_back a is.0, word_back x is.1, word_back y is.2) refl
again (ReadWriteMultipleRegisters a q b ns) is readable fits =
    let len = words_length ns in
    let n = length ns in
    let few : n < 2 ^ 16 = omega (arith, fits, len) in
    rw (read_write_back number.read_write_multiple_registers (a / 256 % 256) (a % 256) (q / 256 % 256) (q % 256) (b / 256 % 256) (b % 256) (n / 256 % 256) (n % 256) (2 * n) (words ns) (omega arith) len (omega (arith, fits, len)), word_back a is.0, word_back q is.1, word_back b is.2, word_back n few, words_back ns is.3) refl
again (ReadFifoQueue a) is readable fits = rw (word_back a is) refl
again (ReadDeviceIdentification code id) is readable fits = rw (identification_back code id) refl
again (Custom code bytes) is readable fits = custom_back code bytes readable.0 readable.1
