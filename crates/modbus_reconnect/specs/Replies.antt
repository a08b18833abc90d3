-- Which responses can be the reply to a request, as far as they tell (Modbus Application Protocol V1.1b3, section 6).
use Rattle.std.specs.Prelude.{Bool, true, false, length, Ok, Err, if◌then◌else◌}
use Rattle.modbus_frame.specs.Meaning.{Asked, ReadCoils, ReadDiscreteInputs, WriteSingleCoil, WriteMultipleCoils, ReadInputRegisters, ReadHoldingRegisters, WriteSingleRegister, WriteMultipleRegisters, MaskWriteRegister, ReadWriteMultipleRegisters}
use Rattle.modbus_frame.specs.declared.response.Response.{Response}
use Rattle.modbus_frame.specs.declared.fault.Error.TheVariants.{Protocol}
use Rattle.modbus_frame.specs.declared.fault.ProtocolError.TheVariants.{PayloadMismatch}
use Rattle.modbus_client.specs.Matches.{Answer}
use Rattle.modbus_client.specs.Typed.{Pick, picked, unequal, another_kind, coils_read, discrete_inputs_read, holding_registers_read, input_registers_read, registers_read_after_write, coil_written, register_written, register_masked, coils_written, registers_written}

-- a value is picked
abbrev pub is_picked : {A : Type 0} → Pick A → Bool
is_picked (picked value) = true
is_picked unequal = false
is_picked another_kind = false

-- A typed call of this request takes this response: it has as many coils or registers as were asked for, or tells what was written. The
-- responses to the other requests tell nothing of what was asked.
abbrev pub is_reply_to : Asked → Response → Bool
is_reply_to (ReadCoils address quantity) response = is_picked (coils_read quantity response)
is_reply_to (ReadDiscreteInputs address quantity) response = is_picked (discrete_inputs_read quantity response)
is_reply_to (WriteSingleCoil address coil) response = is_picked (coil_written address coil response)
is_reply_to (WriteMultipleCoils address coils) response = is_picked (coils_written address (length coils) response)
is_reply_to (ReadInputRegisters address quantity) response = is_picked (input_registers_read quantity response)
is_reply_to (ReadHoldingRegisters address quantity) response = is_picked (holding_registers_read quantity response)
is_reply_to (WriteSingleRegister address word) response = is_picked (register_written address word response)
is_reply_to (WriteMultipleRegisters address words) response = is_picked (registers_written address (length words) response)
is_reply_to (MaskWriteRegister address and_mask or_mask) response = is_picked (register_masked address and_mask or_mask response)
is_reply_to (ReadWriteMultipleRegisters read_address quantity write_address words) response = is_picked (registers_read_after_write quantity response)
is_reply_to _ response = true

-- What is told of the answer of a call: a response that can't be the reply to the request is an error with it. A client with no typed call
-- on top would take it for the reply else, and so would a gateway.
abbrev pub fitted : Asked → Answer → Answer
fitted asked (Ok (Ok response)) = if is_reply_to asked response then Ok (Ok response) else Err (Protocol (PayloadMismatch response))
fitted asked (Ok (Err code)) = Ok (Err code)
fitted asked (Err error) = Err error
