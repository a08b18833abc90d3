-- What a request means: its kind with its numbers and lists, wherever these lie in memory. The kinds are functions of
-- the Modbus Application Protocol V1.1b3, section 6.
use Rattle.std.specs.Prelude.{ℕ, Bool, true, false, List}
use Rattle.std.specs.Cow.{cow_slice_items}
use Rattle.modbus_frame.specs.declared.code.ReadCode.{ReadCode}
use Rattle.modbus_frame.specs.declared.code.FunctionCode.{FunctionCode}
use Rattle.modbus_frame.specs.declared.code.FunctionCode.TheVariants as function
use Rattle.modbus_frame.specs.declared.request.Request.{Request}
use Rattle.modbus_frame.specs.declared.request.Request.TheVariants as request

-- a request as a plain value: addresses and quantities count coils or registers, words are 16 bits
pub data Asked : Type 0 where
  ReadCoils : (address : ℕ) (quantity : ℕ) → Asked
  ReadDiscreteInputs : (address : ℕ) (quantity : ℕ) → Asked
  WriteSingleCoil : (address : ℕ) (coil : Bool) → Asked
  WriteMultipleCoils : (address : ℕ) (coils : List Bool) → Asked
  ReadInputRegisters : (address : ℕ) (quantity : ℕ) → Asked
  ReadHoldingRegisters : (address : ℕ) (quantity : ℕ) → Asked
  WriteSingleRegister : (address : ℕ) (word : ℕ) → Asked
  WriteMultipleRegisters : (address : ℕ) (words : List ℕ) → Asked
  ReportServerId : Asked
  MaskWriteRegister : (address : ℕ) (and_mask : ℕ) (or_mask : ℕ) → Asked
  ReadWriteMultipleRegisters : (read_address : ℕ) (quantity : ℕ) (write_address : ℕ) (words : List ℕ) → Asked
  ReadFifoQueue : (address : ℕ) → Asked
  ReadDeviceIdentification : (code : ReadCode) (id : ℕ) → Asked
  Custom : (code : ℕ) (bytes : List ℕ) → Asked

-- what a request asks, whether it borrows or owns its lists
abbrev pub meaning : Request → Asked
meaning (request.ReadCoils address quantity) = ReadCoils address quantity
meaning (request.ReadDiscreteInputs address quantity) = ReadDiscreteInputs address quantity
meaning (request.WriteSingleCoil address coil) = WriteSingleCoil address coil
meaning (request.WriteMultipleCoils address coils) = WriteMultipleCoils address (cow_slice_items coils)
meaning (request.ReadInputRegisters address quantity) = ReadInputRegisters address quantity
meaning (request.ReadHoldingRegisters address quantity) = ReadHoldingRegisters address quantity
meaning (request.WriteSingleRegister address word) = WriteSingleRegister address word
meaning (request.WriteMultipleRegisters address words) = WriteMultipleRegisters address (cow_slice_items words)
meaning request.ReportServerId = ReportServerId
meaning (request.MaskWriteRegister address and_mask or_mask) = MaskWriteRegister address and_mask or_mask
meaning (request.ReadWriteMultipleRegisters read_address quantity write_address words) = ReadWriteMultipleRegisters read_address quantity write_address (cow_slice_items words)
meaning (request.ReadFifoQueue address) = ReadFifoQueue address
meaning (request.ReadDeviceIdentification code id) = ReadDeviceIdentification code id
meaning (request.Custom code bytes) = Custom code (cow_slice_items bytes)

-- the function of a request; device identification is a MEI type of the encapsulated interface transport (6.19, 6.21)
abbrev pub function_asked : Asked → FunctionCode
function_asked (ReadCoils address quantity) = function.ReadCoils
function_asked (ReadDiscreteInputs address quantity) = function.ReadDiscreteInputs
function_asked (WriteSingleCoil address coil) = function.WriteSingleCoil
function_asked (WriteMultipleCoils address coils) = function.WriteMultipleCoils
function_asked (ReadInputRegisters address quantity) = function.ReadInputRegisters
function_asked (ReadHoldingRegisters address quantity) = function.ReadHoldingRegisters
function_asked (WriteSingleRegister address word) = function.WriteSingleRegister
function_asked (WriteMultipleRegisters address words) = function.WriteMultipleRegisters
function_asked ReportServerId = function.ReportServerId
function_asked (MaskWriteRegister address and_mask or_mask) = function.MaskWriteRegister
function_asked (ReadWriteMultipleRegisters read_address quantity write_address words) = function.ReadWriteMultipleRegisters
function_asked (ReadFifoQueue address) = function.ReadFifoQueue
function_asked (ReadDeviceIdentification code id) = function.EncapsulatedInterfaceTransport
function_asked (Custom code bytes) = function.Custom code

-- a request that only reads: a device that does it twice is as if it had done it once (6.1 to 6.4, 6.13, 6.18, 6.21)
abbrev pub only_reads : Asked → Bool
only_reads (ReadCoils address quantity) = true
only_reads (ReadDiscreteInputs address quantity) = true
only_reads (ReadInputRegisters address quantity) = true
only_reads (ReadHoldingRegisters address quantity) = true
only_reads ReportServerId = true
only_reads (ReadFifoQueue address) = true
only_reads (ReadDeviceIdentification code id) = true
only_reads _ = false
