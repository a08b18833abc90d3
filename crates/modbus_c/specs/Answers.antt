-- The answer that a struct of C tells, with the first coils or registers of the caller's lists (Modbus Application Protocol V1.1b3,
-- sections 6 and 7).
use Rattle.std.specs.Prelude.{◌≡◌, ◌⊎◌, ℕ, ◌==◌, ◌<◌, nat_lt, Bool, List, length, take, Option, Some, None, Result, Ok, Err, if◌then◌else◌}
use Rattle.modbus_frame.specs.Codes.{function_of, exception_of}
use Rattle.modbus_frame.specs.FunctionCodes as number
use Rattle.modbus_frame.specs.declared.response.Response.{Response}
use Rattle.modbus_frame.specs.declared.response.Response.TheVariants as response
use Rattle.modbus_frame.specs.declared.response.ExceptionResponse.{ExceptionResponse}
use Rattle.modbus_c.specs.declared.response.ModbusResponse.{ModbusResponse}

-- What a struct tells, by its function; `None` where it has no such function.
abbrev pub response_in : ModbusResponse → List ℕ → List Bool → Option Response
response_in r words coils =
    if r.function == number.read_coils then Some (response.ReadCoils (take r.count coils))
    else if r.function == number.read_discrete_inputs then Some (response.ReadDiscreteInputs (take r.count coils))
    else if r.function == number.read_holding_registers then Some (response.ReadHoldingRegisters (take r.count words))
    else if r.function == number.read_input_registers then Some (response.ReadInputRegisters (take r.count words))
    else if r.function == number.write_single_coil then Some (response.WriteSingleCoil r.address r.coil)
    else if r.function == number.write_single_register then Some (response.WriteSingleRegister r.address r.word)
    else if r.function == number.write_multiple_coils then Some (response.WriteMultipleCoils r.address r.quantity)
    else if r.function == number.write_multiple_registers then Some (response.WriteMultipleRegisters r.address r.quantity)
    else if r.function == number.mask_write_register then Some (response.MaskWriteRegister r.address r.word r.or_mask)
    else if r.function == number.read_write_multiple_registers then Some (response.ReadWriteMultipleRegisters (take r.count words))
    else if r.function == number.read_fifo_queue then Some (response.ReadFifoQueue (take r.count words))
    else None

-- a response as what a server answers
abbrev pub answer_given : Option Response → Option (Result Response ExceptionResponse)
answer_given None = None
answer_given (Some answer) = Some (Ok answer)

-- the same, or the exception of a function below the exception bit
abbrev pub answer_in : ModbusResponse → List ℕ → List Bool → Option (Result Response ExceptionResponse)
answer_in r words coils =
    if r.exception then (if nat_lt r.function number.exception_bit then Some (Err (record { function = function_of r.function; exception = exception_of r.code })) else None)
    else answer_given (response_in r words coils)

-- the list that the function takes has fewer items than the struct counts
unfoldable pub MissesItems : ModbusResponse → List ℕ → List Bool → Type 0
MissesItems r words coils = (((r.function ≡ number.read_coils) ⊎ (r.function ≡ number.read_discrete_inputs)) × (length coils < r.count))
    ⊎ (((r.function ≡ number.read_holding_registers) ⊎ (r.function ≡ number.read_input_registers) ⊎ (r.function ≡ number.read_write_multiple_registers) ⊎ (r.function ≡ number.read_fifo_queue)) × (length words < r.count))
