-- The first bytes of a modelled response, and of an exception, tell its length.
use Rattle.std.proofs.Common.{◌≡◌, ℕ, ◌+◌, ◌*◌, ◌/◌, ◌%◌, ◌≤◌, ◌∷◌, length, Some, Ok, refl, sym, ap, ◌∙◌, arith}
use Rattle.modbus_frame.specs.Answered.{function_answered}
use Rattle.modbus_frame.specs.Codes.{function_number}
use Rattle.modbus_frame.specs.Meaning.{Asked, ReadCoils, ReadDiscreteInputs, WriteSingleCoil, WriteMultipleCoils, ReadInputRegisters, ReadHoldingRegisters, WriteSingleRegister, WriteMultipleRegisters, ReportServerId, MaskWriteRegister, ReadWriteMultipleRegisters, ReadFifoQueue, ReadDeviceIdentification, Custom}
use Rattle.modbus_frame.specs.declared.code.ExceptionCode.{ExceptionCode}
use Rattle.modbus_frame.specs.declared.response.Response.{Response}
use Rattle.modbus_frame.specs.declared.response.Response.TheVariants as response
use Rattle.modbus_pdu.specs.Encodes.{Fits}
use Rattle.modbus_pdu.specs.Limits.{max_pdu}
use Rattle.modbus_pdu.specs.RequestOf.{IsModelled}
use Rattle.modbus_pdu.specs.ResponseLaws.{IsResponse, response_size}
use Rattle.modbus_pdu.specs.ResponsePdu.{response_pdu}
use Rattle.modbus_pdu.specs.Message.{message}
use Rattle.modbus_rtu.specs.ResponseHead.{response_head, response_rule, HasResponseHead}
use Rattle.modbus_service.specs.Outcome.{reply_pdu, exception, code_of}
use Rattle.modbus_rtu.specs.WholeReading.{IsModelledAsk}
use Rattle.modbus_local.proofs.IdentifiedHeads.{identified_head}

module _ (sizes : (r : Response) → length (response_pdu r) ≡ response_size r) (slave : ℕ) where
  by_size : (given : Response) → response_head (slave ∷ response_pdu given) ≡ Ok (Some (response_size given)) → HasResponseHead (message slave (response_pdu given))
  by_size given is = is ∙ ap (λ n. Ok (Some n)) (sym (sizes given))

  -- the byte count of a queue that fits, in two bytes
  counted_bytes : (n : ℕ) → 5 + 2 * n ≤ max_pdu → 3 + (256 * ((2 + 2 * n) / 256 % 256) + (2 + 2 * n) % 256) ≡ 5 + 2 * n
  counted_bytes n fits = omega arith

  pub response_has_head : (given : Response) → IsResponse given → IsModelled (function_number (function_answered given)) → Fits (response_pdu given) → HasResponseHead (message slave (response_pdu given))
  unfolding response_head response_rule response_pdu
  response_has_head (response.ReadCoils coils) is of fits = by_size (response.ReadCoils coils) refl
  response_has_head (response.ReadDiscreteInputs coils) is of fits = by_size (response.ReadDiscreteInputs coils) refl
  response_has_head (response.WriteSingleCoil address coil) is of fits = by_size (response.WriteSingleCoil address coil) refl
  response_has_head (response.WriteMultipleCoils address quantity) is of fits = by_size (response.WriteMultipleCoils address quantity) refl
  response_has_head (response.ReadInputRegisters words) is of fits = by_size (response.ReadInputRegisters words) refl
  response_has_head (response.ReadHoldingRegisters words) is of fits = by_size (response.ReadHoldingRegisters words) refl
  response_has_head (response.WriteSingleRegister address word) is of fits = by_size (response.WriteSingleRegister address word) refl
  response_has_head (response.WriteMultipleRegisters address quantity) is of fits = by_size (response.WriteMultipleRegisters address quantity) refl
  response_has_head (response.ReportServerId id run extra) is of fits = by_size (response.ReportServerId id run extra) (ap (λ n. Ok (Some n)) (omega arith))
  response_has_head (response.MaskWriteRegister address and_mask or_mask) is of fits = by_size (response.MaskWriteRegister address and_mask or_mask) refl
  response_has_head (response.ReadWriteMultipleRegisters words) is of fits = by_size (response.ReadWriteMultipleRegisters words) refl
  response_has_head (response.ReadFifoQueue words) is of fits = by_size (response.ReadFifoQueue words) (ap (λ n. Ok (Some n)) (counted_bytes (length words) (omega (arith, sizes (response.ReadFifoQueue words), fits))))
  response_has_head (response.ReadDeviceIdentification found) is of fits = identified_head slave found
  response_has_head (response.Custom code bytes) is of fits = absurd (is of)

pub exception_has_head : (slave : ℕ) (asked : Asked) (code : ExceptionCode) → IsModelledAsk asked → HasResponseHead (message slave (reply_pdu (code_of asked) (exception code)))
unfolding response_head response_rule reply_pdu
exception_has_head slave (ReadCoils address quantity) code is = refl
exception_has_head slave (ReadDiscreteInputs address quantity) code is = refl
exception_has_head slave (WriteSingleCoil address coil) code is = refl
exception_has_head slave (WriteMultipleCoils address coils) code is = refl
exception_has_head slave (ReadInputRegisters address quantity) code is = refl
exception_has_head slave (ReadHoldingRegisters address quantity) code is = refl
exception_has_head slave (WriteSingleRegister address word) code is = refl
exception_has_head slave (WriteMultipleRegisters address words) code is = refl
exception_has_head slave ReportServerId code is = refl
exception_has_head slave (MaskWriteRegister address and_mask or_mask) code is = refl
exception_has_head slave (ReadWriteMultipleRegisters read_address quantity write_address words) code is = refl
exception_has_head slave (ReadFifoQueue address) code is = refl
exception_has_head slave (ReadDeviceIdentification code' id) code is = refl
exception_has_head slave (Custom code' bytes) code is = absurd is
