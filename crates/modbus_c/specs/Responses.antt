-- Responses and exceptions as a struct of C beside lists that the caller holds (Modbus Application Protocol V1.1b3, sections 6 and 7).
use Rattle.std.specs.Prelude.{◌⊎◌, ◌<◌, ℕ, Bool, true, false, List, [], length, Option, Some, None, Result, Ok, Err}
use Rattle.modbus_frame.specs.Codes.{function_number, exception_number}
use Rattle.modbus_frame.specs.FunctionCodes as number
use Rattle.modbus_frame.specs.declared.response.Response.{Response}
use Rattle.modbus_frame.specs.declared.response.Response.TheVariants as response
use Rattle.modbus_frame.specs.declared.response.ExceptionResponse.{ExceptionResponse}
use Rattle.modbus_c.specs.declared.response.ModbusResponse.{ModbusResponse}

-- a response of a function, with no field that tells anything
abbrev pub blank : ℕ → ModbusResponse
blank function = record { function = function; exception = false; code = 0; coil = false; address = 0; quantity = 0; word = 0; or_mask = 0; count = 0 }

-- a response by its function and how many coils or registers it tells
abbrev pub tells : ℕ → ℕ → ModbusResponse
tells function count = record (blank function) { count = count }

-- a response by its function that repeats an address and a quantity
abbrev pub repeats : ℕ → ℕ → ℕ → ModbusResponse
repeats function address quantity = record (blank function) { address = address; quantity = quantity }

-- The numbers of a response. The struct does not tell the id of a server, the identification of a device, nor functions that the standard
-- does not have.
abbrev pub flat_response : Response → Option ModbusResponse
flat_response (response.ReadCoils coils) = Some (tells number.read_coils (length coils))
flat_response (response.ReadDiscreteInputs coils) = Some (tells number.read_discrete_inputs (length coils))
flat_response (response.ReadHoldingRegisters words) = Some (tells number.read_holding_registers (length words))
flat_response (response.ReadInputRegisters words) = Some (tells number.read_input_registers (length words))
flat_response (response.WriteSingleCoil a coil) = Some (record (blank number.write_single_coil) { address = a; coil = coil })
flat_response (response.WriteSingleRegister a word) = Some (record (blank number.write_single_register) { address = a; word = word })
flat_response (response.WriteMultipleCoils a n) = Some (repeats number.write_multiple_coils a n)
flat_response (response.WriteMultipleRegisters a n) = Some (repeats number.write_multiple_registers a n)
flat_response (response.MaskWriteRegister a and_mask or_mask) = Some (record (blank number.mask_write_register) { address = a; word = and_mask; or_mask = or_mask })
flat_response (response.ReadWriteMultipleRegisters words) = Some (tells number.read_write_multiple_registers (length words))
flat_response (response.ReadFifoQueue words) = Some (tells number.read_fifo_queue (length words))
flat_response (response.ReportServerId id run extra) = None
flat_response (response.ReadDeviceIdentification found) = None
flat_response (response.Custom code bytes) = None

-- the same of an answer: an exception has its code, and the function of the request
abbrev pub flat_answer : Result Response ExceptionResponse → Option ModbusResponse
flat_answer (Ok answer) = flat_response answer
flat_answer (Err refusal) = Some (record (blank (function_number refusal.function)) { exception = true; code = exception_number refusal.exception })

-- the registers, and the coils, that an answer tells
abbrev pub words_told : Result Response ExceptionResponse → List ℕ
words_told (Ok (response.ReadHoldingRegisters words)) = words
words_told (Ok (response.ReadInputRegisters words)) = words
words_told (Ok (response.ReadWriteMultipleRegisters words)) = words
words_told (Ok (response.ReadFifoQueue words)) = words
words_told _ = []

abbrev pub coils_told : Result Response ExceptionResponse → List Bool
coils_told (Ok (response.ReadCoils coils)) = coils
coils_told (Ok (response.ReadDiscreteInputs coils)) = coils
coils_told _ = []

-- one of the caller's lists, of so many registers and coils, is too short for an answer
abbrev pub LacksLists : Result Response ExceptionResponse → ℕ → ℕ → Type 0
LacksLists answer words coils = (words < length (words_told answer)) ⊎ (coils < length (coils_told answer))
