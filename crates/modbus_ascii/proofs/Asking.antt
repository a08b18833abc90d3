-- The frames of requests.
use Rattle.std.proofs.Common.{◌≡◌, ℕ, ◌<◌, List, [], ◌∷◌, map, length, arith}
use Rattle.std.specs.List.{AllByRecursion}
use Rattle.modbus_frame.specs.Meaning.{Asked, ReadCoils, ReadDiscreteInputs, WriteSingleCoil, WriteMultipleCoils, ReadInputRegisters, ReadHoldingRegisters, WriteSingleRegister, WriteMultipleRegisters, ReportServerId, MaskWriteRegister, ReadWriteMultipleRegisters, ReadFifoQueue, ReadDeviceIdentification, Custom}
use Rattle.modbus_pdu.specs.Laws.{request_size}
use Rattle.modbus_pdu.specs.RequestPdu.{request_pdu}
use Rattle.modbus_pdu.specs.SlavePdu.{IsFramed, message_of}
use Rattle.modbus_ascii.specs.WholeReading.{IsFramedRequest}

some-size : (r : Asked) → 0 < request_size r
some-size (ReadCoils address quantity) = omega arith
some-size (ReadDiscreteInputs address quantity) = omega arith
some-size (WriteSingleCoil address coil) = omega arith
some-size (WriteMultipleCoils address coils) = omega arith
some-size (ReadInputRegisters address quantity) = omega arith
some-size (ReadHoldingRegisters address quantity) = omega arith
some-size (WriteSingleRegister address word) = omega arith
some-size (WriteMultipleRegisters address words) = omega arith
some-size ReportServerId = omega arith
some-size (MaskWriteRegister address and_mask or_mask) = omega arith
some-size (ReadWriteMultipleRegisters read_address quantity write_address words) = omega arith
some-size (ReadFifoQueue address) = omega arith
some-size (ReadDeviceIdentification code id) = omega arith
some-size (Custom code bytes) = omega arith

module _ (sizes : (r : Asked) → length (request_pdu r) ≡ request_size r) where
  pub framed-ask : (asked : ℕ × Asked) → IsFramedRequest asked → IsFramed (message_of asked)
  framed-ask asked f = record { slave = f.0; bytes = f.1; some = omega (arith, sizes asked.1, some-size asked.1); fits = f.2 }

  pub framed-all : (asked : List (ℕ × Asked)) → AllByRecursion IsFramedRequest asked → AllByRecursion IsFramed (map message_of asked)
  framed-all [] all = tt
  framed-all (one ∷ asked) all = (framed-ask one all.0, framed-all asked all.1)
