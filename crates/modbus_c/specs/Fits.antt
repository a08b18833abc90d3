-- Whether an answer fits its request, and what of it was asked (Modbus Application Protocol V1.1b3, section 6).
use Rattle.std.specs.Prelude.{◌≡◌, ◌⊎◌, ℕ, ◌+◌, ◌<◌, ◌==◌, ◌&&◌, ◌||◌, nat_le, nat_lt, Bool, true, length, take, Result, Ok, Err}
use Rattle.std.specs.Bool.{beq}
use Rattle.modbus_frame.specs.Codes.{function_of}
use Rattle.modbus_frame.specs.FunctionCodes as number
use Rattle.modbus_frame.specs.declared.response.Response.{Response}
use Rattle.modbus_frame.specs.declared.response.Response.TheVariants as response
use Rattle.modbus_frame.specs.declared.response.ExceptionResponse.{ExceptionResponse}
use Rattle.modbus_client.specs.Matches.{IsOf}
use Rattle.modbus_c.specs.Responses.{words_told, coils_told}
use Rattle.modbus_c.specs.declared.request.ModbusRequest.{ModbusRequest}

-- As many coils as were asked for, and less than eight that fill the last byte up (6.1, 6.2).
abbrev pub has_coils : ℕ → ℕ → Bool
has_coils quantity found = nat_le quantity found && nat_lt found (quantity + 8)

-- A response of the function of a request fits it: it has as many coils or registers as were asked for, or tells the address, the values
-- and the quantity that were written. The responses of the other functions tell nothing of what was asked.
abbrev pub fits_response : ModbusRequest → Response → Bool
fits_response r (response.ReadCoils coils) = has_coils r.quantity (length coils)
fits_response r (response.ReadDiscreteInputs coils) = has_coils r.quantity (length coils)
fits_response r (response.ReadHoldingRegisters words) = length words == r.quantity
fits_response r (response.ReadInputRegisters words) = length words == r.quantity
fits_response r (response.ReadWriteMultipleRegisters words) = length words == r.quantity
fits_response r (response.WriteSingleCoil a coil) = (a == r.address) && beq coil r.coil
fits_response r (response.WriteSingleRegister a word) = (a == r.address) && (word == r.word)
fits_response r (response.WriteMultipleCoils a n) = (a == r.address) && (n == r.count)
fits_response r (response.WriteMultipleRegisters a n) = (a == r.address) && (n == r.count)
fits_response r (response.MaskWriteRegister a and_mask or_mask) = (a == r.address) && (and_mask == r.word) && (or_mask == r.or_mask)
fits_response r (response.ReadFifoQueue words) = true
fits_response r (response.ReportServerId id run extra) = true
fits_response r (response.ReadDeviceIdentification found) = true
fits_response r (response.Custom code bytes) = true

-- an exception fits each request of its function
abbrev pub fits : ModbusRequest → Result Response ExceptionResponse → Bool
fits r (Ok answer) = fits_response r answer
fits r (Err refusal) = true

-- the answer is one to this request: it is of its function, and fits it
abbrev pub IsReplyTo : ModbusRequest → Result Response ExceptionResponse → Type 0
IsReplyTo r answer = IsOf (function_of r.function) answer × (fits r answer ≡ true)

-- what was asked of an answer: its coils without those that fill the last byte up
abbrev pub asked_of : ModbusRequest → Result Response ExceptionResponse → Result Response ExceptionResponse
asked_of r (Ok (response.ReadCoils coils)) = Ok (response.ReadCoils (take r.quantity coils))
asked_of r (Ok (response.ReadDiscreteInputs coils)) = Ok (response.ReadDiscreteInputs (take r.quantity coils))
asked_of r answer = answer

-- one of the caller's lists, of so many registers and coils, is too short for what was asked of an answer
abbrev pub LacksAsked : ModbusRequest → Result Response ExceptionResponse → ℕ → ℕ → Type 0
LacksAsked r answer words coils = (words < length (words_told answer)) ⊎ (coils < length (coils_told (asked_of r answer)))

-- a request that writes a list of coils or registers, and counts none (6.11, 6.12, 6.17)
abbrev pub writes_none : ModbusRequest → Bool
writes_none r = ((r.function == number.write_multiple_coils) || (r.function == number.write_multiple_registers) || (r.function == number.read_write_multiple_registers))
    && (r.count == 0)
