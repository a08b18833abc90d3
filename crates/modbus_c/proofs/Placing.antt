-- Replies under addresses of their own.
use Rattle.std.proofs.Common.{◌≡◌, ℕ, ◌≤◌, length, refl, sym, subst}
use Rattle.modbus_frame.specs.declared.response.Response.{Response}
use Rattle.modbus_frame.specs.declared.response.Response.TheVariants as response
use Rattle.modbus_pdu.specs.Encodes.{Fits}
use Rattle.modbus_pdu.specs.Limits.{max_pdu}
use Rattle.modbus_pdu.specs.ResponsePdu.{response_pdu}
use Rattle.modbus_c.specs.Places.{response_at}

-- a reply is as long under another address
length_at : (address : ℕ) (told : Response) → length (response_pdu (response_at address told)) ≡ length (response_pdu told)
unfolding response_pdu
length_at address (response.ReadCoils coils) = refl
length_at address (response.ReadDiscreteInputs coils) = refl
length_at address (response.ReadHoldingRegisters registers) = refl
length_at address (response.ReadInputRegisters registers) = refl
length_at address (response.WriteSingleCoil a coil) = refl
length_at address (response.WriteSingleRegister a register) = refl
length_at address (response.WriteMultipleCoils a quantity) = refl
length_at address (response.WriteMultipleRegisters a quantity) = refl
length_at address (response.ReportServerId id run extra) = refl
length_at address (response.MaskWriteRegister a and_mask or_mask) = refl
length_at address (response.ReadWriteMultipleRegisters registers) = refl
length_at address (response.ReadFifoQueue registers) = refl
length_at address (response.ReadDeviceIdentification found) = refl
length_at address (response.Custom code bytes) = refl

pub fits_at : (address : ℕ) (told : Response) → Fits (response_pdu told) → Fits (response_pdu (response_at address told))
fits_at address told fits = subst (λ n. n ≤ max_pdu) (sym (length_at address told)) fits
