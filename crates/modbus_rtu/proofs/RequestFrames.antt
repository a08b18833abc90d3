-- The first bytes of a request of a modelled kind tell its length.
use Rattle.std.proofs.Common.{◌≡◌, ℕ, ◌+◌, ◌≤◌, arith, List, [], ◌∷◌, map, length, Some, Ok, refl, sym, ap, ◌∙◌}
use Rattle.std.specs.List.{AllByRecursion}
use Rattle.std.proofs.lemmas.Bool.{le-ltb}
use Rattle.modbus_frame.specs.Meaning.{Asked, ReadCoils, ReadDiscreteInputs, WriteSingleCoil, WriteMultipleCoils, ReadInputRegisters, ReadHoldingRegisters, WriteSingleRegister, WriteMultipleRegisters, ReportServerId, MaskWriteRegister, ReadWriteMultipleRegisters, ReadFifoQueue, ReadDeviceIdentification, Custom}
use Rattle.modbus_frame.specs.FunctionCodes as number
use Rattle.modbus_pdu.specs.Limits.{max_pdu, write_head, read_write_head}
use Rattle.modbus_pdu.specs.Laws.{request_size}
use Rattle.modbus_pdu.specs.RequestPdu.{request_pdu}
use Rattle.modbus_rtu.specs.Frame.{counted_head, head, rule}
use Rattle.modbus_pdu.specs.SlavePdu.{message_of}
use Rattle.modbus_rtu.specs.WholeReading.{HasHead, IsModelledAsk, IsFramedAsk}

counted_fits : (code n byte : ℕ) → n + byte ≤ max_pdu → counted_head code n (Some byte) ≡ Ok (Some (n + byte))
counted_fits code n byte fits = rw (le-ltb max_pdu (n + byte) fits) refl

head_size : (slave : ℕ) (asked : Asked) → IsModelledAsk asked → request_size asked ≤ max_pdu → head (slave ∷ request_pdu asked) ≡ Ok (Some (request_size asked))
unfolding head rule request_pdu
head_size slave (ReadCoils address quantity) is fits = refl
head_size slave (ReadDiscreteInputs address quantity) is fits = refl
head_size slave (WriteSingleCoil address coil) is fits = refl
head_size slave (WriteMultipleCoils address coils) is fits = counted_fits number.write_multiple_coils write_head _ fits
head_size slave (ReadInputRegisters address quantity) is fits = refl
head_size slave (ReadHoldingRegisters address quantity) is fits = refl
head_size slave (WriteSingleRegister address word) is fits = refl
head_size slave (WriteMultipleRegisters address words) is fits = counted_fits number.write_multiple_registers write_head _ fits
head_size slave ReportServerId is fits = refl
head_size slave (MaskWriteRegister address and_mask or_mask) is fits = refl
head_size slave (ReadWriteMultipleRegisters read_address quantity write_address words) is fits = counted_fits number.read_write_multiple_registers read_write_head _ fits
head_size slave (ReadFifoQueue address) is fits = refl
head_size slave (ReadDeviceIdentification code id) is fits = refl
head_size slave (Custom code bytes) is fits = absurd is

module _ (sizes : (r : Asked) → length (request_pdu r) ≡ request_size r) where
  pub request_has_head : (asked : ℕ × Asked) → IsFramedAsk asked.1 → HasHead (message_of asked)
  request_has_head asked is = head_size asked.0 asked.1 is.0 (omega (arith, is.1, sizes asked.1)) ∙ ap (λ n. Ok (Some n)) (sym (sizes asked.1))

  pub requests_have_heads : (asked : List (ℕ × Asked)) → AllByRecursion (λ (one : ℕ × Asked). IsFramedAsk one.1) asked → AllByRecursion HasHead (map message_of asked)
  requests_have_heads [] are = tt
  requests_have_heads (one ∷ asked) are = (request_has_head one are.0, requests_have_heads asked are.1)
