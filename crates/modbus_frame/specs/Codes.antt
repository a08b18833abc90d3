-- The numbers and the names of the codes: functions (Modbus Application Protocol V1.1b3, section 6), exceptions
-- (section 7), read codes and conformity levels (section 6.21).
use Rattle.std.specs.Prelude.{ℕ, List, codes, Option, Some, None, ◌==◌, if◌then◌else◌}
use Rattle.modbus_frame.specs.declared.code.FunctionCode.{FunctionCode}
use Rattle.modbus_frame.specs.declared.code.FunctionCode.TheVariants as function
use Rattle.modbus_frame.specs.FunctionCodes as number
use Rattle.modbus_frame.specs.declared.code.ExceptionCode.{ExceptionCode}
use Rattle.modbus_frame.specs.declared.code.ExceptionCode.TheVariants as exception
use Rattle.modbus_frame.specs.declared.code.ReadCode.{ReadCode}
use Rattle.modbus_frame.specs.declared.code.ReadCode.TheVariants as read
use Rattle.modbus_frame.specs.declared.code.ConformityLevel.{ConformityLevel}
use Rattle.modbus_frame.specs.declared.code.ConformityLevel.TheVariants as level

-- the number of a function
abbrev pub function_number : FunctionCode → ℕ
function_number function.ReadCoils = number.read_coils
function_number function.ReadDiscreteInputs = number.read_discrete_inputs
function_number function.ReadHoldingRegisters = number.read_holding_registers
function_number function.ReadInputRegisters = number.read_input_registers
function_number function.WriteSingleCoil = number.write_single_coil
function_number function.WriteSingleRegister = number.write_single_register
function_number function.ReadExceptionStatus = number.read_exception_status
function_number function.Diagnostics = number.diagnostics
function_number function.GetCommEventCounter = number.get_comm_event_counter
function_number function.GetCommEventLog = number.get_comm_event_log
function_number function.WriteMultipleCoils = number.write_multiple_coils
function_number function.WriteMultipleRegisters = number.write_multiple_registers
function_number function.ReportServerId = number.report_server_id
function_number function.ReadFileRecord = number.read_file_record
function_number function.WriteFileRecord = number.write_file_record
function_number function.MaskWriteRegister = number.mask_write_register
function_number function.ReadWriteMultipleRegisters = number.read_write_multiple_registers
function_number function.ReadFifoQueue = number.read_fifo_queue
function_number function.EncapsulatedInterfaceTransport = number.encapsulated_interface_transport
function_number (function.Custom n) = n

-- the function of a number: the named one, else `Custom`
abbrev pub function_of : ℕ → FunctionCode
function_of n =
    if n == number.read_coils then function.ReadCoils
    else if n == number.read_discrete_inputs then function.ReadDiscreteInputs
    else if n == number.read_holding_registers then function.ReadHoldingRegisters
    else if n == number.read_input_registers then function.ReadInputRegisters
    else if n == number.write_single_coil then function.WriteSingleCoil
    else if n == number.write_single_register then function.WriteSingleRegister
    else if n == number.read_exception_status then function.ReadExceptionStatus
    else if n == number.diagnostics then function.Diagnostics
    else if n == number.get_comm_event_counter then function.GetCommEventCounter
    else if n == number.get_comm_event_log then function.GetCommEventLog
    else if n == number.write_multiple_coils then function.WriteMultipleCoils
    else if n == number.write_multiple_registers then function.WriteMultipleRegisters
    else if n == number.report_server_id then function.ReportServerId
    else if n == number.read_file_record then function.ReadFileRecord
    else if n == number.write_file_record then function.WriteFileRecord
    else if n == number.mask_write_register then function.MaskWriteRegister
    else if n == number.read_write_multiple_registers then function.ReadWriteMultipleRegisters
    else if n == number.read_fifo_queue then function.ReadFifoQueue
    else if n == number.encapsulated_interface_transport then function.EncapsulatedInterfaceTransport
    else function.Custom n

-- the number of an exception
abbrev pub exception_number : ExceptionCode → ℕ
exception_number exception.IllegalFunction = 0x01
exception_number exception.IllegalDataAddress = 0x02
exception_number exception.IllegalDataValue = 0x03
exception_number exception.ServerDeviceFailure = 0x04
exception_number exception.Acknowledge = 0x05
exception_number exception.ServerDeviceBusy = 0x06
exception_number exception.MemoryParityError = 0x08
exception_number exception.GatewayPathUnavailable = 0x0A
exception_number exception.GatewayTargetDevice = 0x0B
exception_number (exception.Custom n) = n

-- the exception of a number: the named one, else `Custom`
abbrev pub exception_of : ℕ → ExceptionCode
exception_of n =
    if n == exception_number exception.IllegalFunction then exception.IllegalFunction
    else if n == exception_number exception.IllegalDataAddress then exception.IllegalDataAddress
    else if n == exception_number exception.IllegalDataValue then exception.IllegalDataValue
    else if n == exception_number exception.ServerDeviceFailure then exception.ServerDeviceFailure
    else if n == exception_number exception.Acknowledge then exception.Acknowledge
    else if n == exception_number exception.ServerDeviceBusy then exception.ServerDeviceBusy
    else if n == exception_number exception.MemoryParityError then exception.MemoryParityError
    else if n == exception_number exception.GatewayPathUnavailable then exception.GatewayPathUnavailable
    else if n == exception_number exception.GatewayTargetDevice then exception.GatewayTargetDevice
    else exception.Custom n

-- the name of an exception as it is shown
abbrev pub exception_text : ExceptionCode → List ℕ
exception_text exception.IllegalFunction = codes "Illegal function"
exception_text exception.IllegalDataAddress = codes "Illegal data address"
exception_text exception.IllegalDataValue = codes "Illegal data value"
exception_text exception.ServerDeviceFailure = codes "Server device failure"
exception_text exception.Acknowledge = codes "Acknowledge"
exception_text exception.ServerDeviceBusy = codes "Server device busy"
exception_text exception.MemoryParityError = codes "Memory parity error"
exception_text exception.GatewayPathUnavailable = codes "Gateway path unavailable"
exception_text exception.GatewayTargetDevice = codes "Gateway target device failed to respond"
exception_text (exception.Custom n) = codes "Custom"

-- the number of a read code
abbrev pub read_code_number : ReadCode → ℕ
read_code_number read.Basic = 0x01
read_code_number read.Regular = 0x02
read_code_number read.Extended = 0x03
read_code_number read.Specific = 0x04

-- the read code of a number, if there is one
abbrev pub read_code_of : ℕ → Option ReadCode
read_code_of n =
    if n == read_code_number read.Basic then Some read.Basic
    else if n == read_code_number read.Regular then Some read.Regular
    else if n == read_code_number read.Extended then Some read.Extended
    else if n == read_code_number read.Specific then Some read.Specific
    else None

-- the number of a conformity level
abbrev pub level_number : ConformityLevel → ℕ
level_number level.BasicIdentificationStreamOnly = 0x01
level_number level.RegularIdentificationStreamOnly = 0x02
level_number level.ExtendedIdentificationStreamOnly = 0x03
level_number level.BasicIdentification = 0x81
level_number level.RegularIdentification = 0x82
level_number level.ExtendedIdentification = 0x83

-- the conformity level of a number, if there is one
abbrev pub level_of : ℕ → Option ConformityLevel
level_of n =
    if n == level_number level.BasicIdentificationStreamOnly then Some level.BasicIdentificationStreamOnly
    else if n == level_number level.RegularIdentificationStreamOnly then Some level.RegularIdentificationStreamOnly
    else if n == level_number level.ExtendedIdentificationStreamOnly then Some level.ExtendedIdentificationStreamOnly
    else if n == level_number level.BasicIdentification then Some level.BasicIdentification
    else if n == level_number level.RegularIdentification then Some level.RegularIdentification
    else if n == level_number level.ExtendedIdentification then Some level.ExtendedIdentification
    else None
