-- A request that could be read is none that stands for a PDU which could not.
use Rattle.std.proofs.Common.{◌≡◌, ℕ, ◌<◌, Bool, true, false, List, ◌∷◌, drop, length, Result, Ok, Err, None, refl, subst, arith, eqb, ltb}
use Rattle.std.proofs.lemmas.Bool.{eqb-true, ltb-true, lt-ltb, ne_eqb}
use Rattle.std.specs.Prelude.{if◌then◌else◌, ◌&&◌}
use Rattle.modbus_frame.specs.FunctionCodes as number
use Rattle.modbus_frame.specs.declared.fault.Reason.{Reason}
use Rattle.modbus_frame.specs.Meaning.{Asked, ReadCoils, ReadDiscreteInputs, WriteSingleCoil, WriteMultipleCoils, ReadInputRegisters, ReadHoldingRegisters, WriteSingleRegister, WriteMultipleRegisters, ReportServerId, MaskWriteRegister, ReadWriteMultipleRegisters, ReadFifoQueue, ReadDeviceIdentification, Custom}
use Rattle.modbus_pdu.specs.Decodes.{◌>>=◌}
use Rattle.modbus_pdu.specs.Limits.{code_pdu}
use Rattle.modbus_pdu.specs.RequestOf.{request_of, asked_by, two_words_of, single_coil_of, coils_written_of, words_written_of, only_code_of, three_words_of, read_write_of, one_word_of, identification_of}
use Rattle.modbus_field.specs.Unread.{any_request_of, begins_request, has_spare_bytes, no_function, unread_of}
use Rattle.modbus_field.proofs.Any.{of_request, of_spare_bytes}

-- what is shown of a request that was read
pub record WasRead (code : ℕ) (request : Asked) : Type 0 where
  pub below : code < number.exception_bit
  pub read : unread_of request ≡ None

-- a test that was passed, or not
test : (b : Bool) (x y : Result Asked Reason) (request : Asked) (Goal : Type 0) → (if b then x else y) ≡ Ok request → (b ≡ true → x ≡ Ok request → Goal) → (b ≡ false → y ≡ Ok request → Goal) → Goal
test true x y request Goal e passed failed = passed refl e
test false x y request Goal e passed failed = failed refl e

-- a request of fields that were read
of_fields : {A : Type 0} (fields : Result A Reason) (with : A → Asked) (request : Asked) → ((x : A) → unread_of (with x) ≡ None) → (fields >>= λ x. Ok (with x)) ≡ Ok request → unread_of request ≡ None
of_fields (Ok x) with request all e = let same : with x ≡ request = cc in subst (λ r. unread_of r ≡ None) same (all x)
of_fields (Err reason) with request all e = cc

of_code_alone : (pdu : List ℕ) (request : Asked) → only_code_of pdu ≡ Ok request → unread_of request ≡ None
unfolding only_code_of
of_code_alone pdu request e = test (ltb code_pdu (length pdu)) (Err _) (Ok ReportServerId) request (unread_of request ≡ None) e
    (λ long bad. cc) (λ short is. (let same : ReportServerId ≡ request = cc in subst (λ r. unread_of r ≡ None) same refl))

module _ (code : ℕ) (pdu : List ℕ) (request : Asked) (some : 0 < code) where
  kind : {A : Type 0} (k : ℕ) (fields : Result A Reason) (with : A → Asked) → k < number.exception_bit → ((x : A) → unread_of (with x) ≡ None)
      → eqb code k ≡ true → (fields >>= λ x. Ok (with x)) ≡ Ok request → WasRead code request
  kind k fields with small all is e = record { below = omega (arith, eqb-true code k is); read = of_fields fields with request all e }

  pub was_read : asked_by code pdu ≡ Ok request → WasRead code request
  unfolding asked_by
  was_read e =
      test (eqb code number.read_coils) _ _ request (WasRead code request) e (kind number.read_coils (two_words_of pdu) (λ x. ReadCoils x.0 x.1) (omega arith) (λ x. refl)) (λ n01 e.
      test (eqb code number.read_discrete_inputs) _ _ request (WasRead code request) e (kind number.read_discrete_inputs (two_words_of pdu) (λ x. ReadDiscreteInputs x.0 x.1) (omega arith) (λ x. refl)) (λ n02 e.
      test (eqb code number.read_holding_registers) _ _ request (WasRead code request) e (kind number.read_holding_registers (two_words_of pdu) (λ x. ReadHoldingRegisters x.0 x.1) (omega arith) (λ x. refl)) (λ n03 e.
      test (eqb code number.read_input_registers) _ _ request (WasRead code request) e (kind number.read_input_registers (two_words_of pdu) (λ x. ReadInputRegisters x.0 x.1) (omega arith) (λ x. refl)) (λ n04 e.
      test (eqb code number.write_single_coil) _ _ request (WasRead code request) e (kind number.write_single_coil (single_coil_of pdu) (λ x. WriteSingleCoil x.0 x.1) (omega arith) (λ x. refl)) (λ n05 e.
      test (eqb code number.write_single_register) _ _ request (WasRead code request) e (kind number.write_single_register (two_words_of pdu) (λ x. WriteSingleRegister x.0 x.1) (omega arith) (λ x. refl)) (λ n06 e.
      test (eqb code number.write_multiple_coils) _ _ request (WasRead code request) e (kind number.write_multiple_coils (coils_written_of pdu) (λ x. WriteMultipleCoils x.0 x.1) (omega arith) (λ x. refl)) (λ n0F e.
      test (eqb code number.write_multiple_registers) _ _ request (WasRead code request) e (kind number.write_multiple_registers (words_written_of pdu) (λ x. WriteMultipleRegisters x.0 x.1) (omega arith) (λ x. refl)) (λ n10 e.
      test (eqb code number.report_server_id) _ _ request (WasRead code request) e (λ is e. record { below = omega (arith, eqb-true code number.report_server_id is); read = of_code_alone pdu request e }) (λ n11 e.
      test (eqb code number.mask_write_register) _ _ request (WasRead code request) e (kind number.mask_write_register (three_words_of pdu) (λ x. MaskWriteRegister x.0 x.1 x.2) (omega arith) (λ x. refl)) (λ n16 e.
      test (eqb code number.read_write_multiple_registers) _ _ request (WasRead code request) e (kind number.read_write_multiple_registers (read_write_of pdu) (λ x. ReadWriteMultipleRegisters x.0 x.1 x.2 x.3) (omega arith) (λ x. refl)) (λ n17 e.
      test (eqb code number.read_fifo_queue) _ _ request (WasRead code request) e (kind number.read_fifo_queue (one_word_of pdu) (λ x. ReadFifoQueue x) (omega arith) (λ x. refl)) (λ n18 e.
      test (eqb code number.encapsulated_interface_transport) _ _ request (WasRead code request) e (kind number.encapsulated_interface_transport (identification_of pdu) (λ x. ReadDeviceIdentification x.0 x.1) (omega arith) (λ x. refl)) (λ n2B e.
      test (ltb code number.exception_bit) _ _ request (WasRead code request) e
      (λ low is. (let same : Custom code (drop 1 pdu) ≡ request = cc in
      let n00 : eqb code no_function ≡ false = ne_eqb code no_function (λ zero. omega (arith, zero)) in
      record {
        below = ltb-true code number.exception_bit low;
        read = subst (λ r. unread_of r ≡ None) same (rw (n00, n01, n02, n03, n04, n05, n06, n0F, n10, n11, n16, n17, n18, n2B) refl);
      }))
      (λ high bad. cc))))))))))))))

pub begins : (code : ℕ) (rest : List ℕ) → 0 < code → code < number.exception_bit → begins_request (code ∷ rest) ≡ true
begins code rest some small =
    let n00 : eqb code no_function ≡ false = ne_eqb code no_function (λ zero. omega (arith, zero)) in
    let low : ltb code number.exception_bit ≡ true = lt-ltb code number.exception_bit small in
    rw (n00, low) refl

pub asked : (code : ℕ) (rest : List ℕ) (request : Asked) → 0 < code → has_spare_bytes (code ∷ rest) ≡ false → request_of (code ∷ rest) ≡ Ok request
    → any_request_of (code ∷ rest) ≡ request
unfolding request_of
asked code rest request some exact e =
    let was = was_read code (code ∷ rest) request some e in
    rw (of_request (code ∷ rest) (begins code rest some was.below) exact, e) refl

first_of : (a b : Bool) → (a && b) ≡ true → a ≡ true
first_of true b e = refl
first_of false b e = e

pub spare : (code : ℕ) (rest : List ℕ) → has_spare_bytes (code ∷ rest) ≡ true → any_request_of (code ∷ rest) ≡ Custom code rest
spare code rest e =
    let is : code ≡ number.write_multiple_coils = eqb-true code number.write_multiple_coils (first_of (eqb code number.write_multiple_coils) _ e) in
    of_spare_bytes (code ∷ rest) (begins code rest (omega (arith, is)) (omega (arith, is))) e

pub read : (code : ℕ) (rest : List ℕ) (request : Asked) → 0 < code → request_of (code ∷ rest) ≡ Ok request → unread_of request ≡ None
unfolding request_of
read code rest request some e = (was_read code (code ∷ rest) request some e).read
