-- The function of an answer, and how an exception is shown (Modbus Application Protocol V1.1b3, sections 6 and 7).
use Rattle.std.specs.Prelude.{List, ℕ, ◌++◌, codes}
use Rattle.std.specs.Fmt.{decimal}
use Rattle.modbus_frame.specs.declared.code.FunctionCode.{FunctionCode}
use Rattle.modbus_frame.specs.declared.code.FunctionCode.TheVariants as function
use Rattle.modbus_frame.specs.declared.response.Response.{Response}
use Rattle.modbus_frame.specs.declared.response.Response.TheVariants as response
use Rattle.modbus_frame.specs.declared.response.ExceptionResponse.{ExceptionResponse}
use Rattle.modbus_frame.specs.Codes.{function_number, exception_text}

-- the function of a response; device identification is a MEI type of the encapsulated interface transport (6.19, 6.21)
abbrev pub function_answered : Response → FunctionCode
function_answered (response.ReadCoils coils) = function.ReadCoils
function_answered (response.ReadDiscreteInputs inputs) = function.ReadDiscreteInputs
function_answered (response.WriteSingleCoil address coil) = function.WriteSingleCoil
function_answered (response.WriteMultipleCoils address quantity) = function.WriteMultipleCoils
function_answered (response.ReadInputRegisters words) = function.ReadInputRegisters
function_answered (response.ReadHoldingRegisters words) = function.ReadHoldingRegisters
function_answered (response.WriteSingleRegister address word) = function.WriteSingleRegister
function_answered (response.WriteMultipleRegisters address quantity) = function.WriteMultipleRegisters
function_answered (response.ReportServerId id run bytes) = function.ReportServerId
function_answered (response.MaskWriteRegister address and_mask or_mask) = function.MaskWriteRegister
function_answered (response.ReadWriteMultipleRegisters words) = function.ReadWriteMultipleRegisters
function_answered (response.ReadFifoQueue words) = function.ReadFifoQueue
function_answered (response.ReadDeviceIdentification found) = function.EncapsulatedInterfaceTransport
function_answered (response.Custom code bytes) = function.Custom code

-- the number of the function and the name of the exception: `Modbus function 2: Illegal data value`
abbrev pub exception_response_text : ExceptionResponse → List ℕ
exception_response_text refusal = codes "Modbus function " ++ decimal (function_number refusal.function) ++ codes ": " ++ exception_text refusal.exception
