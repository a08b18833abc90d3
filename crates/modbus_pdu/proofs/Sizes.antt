-- How long what is written is.
use Rattle.std.proofs.Common.{◌≡◌, ℕ, ◌+◌, ◌*◌, sum_by, Bool, List, [], ◌∷◌, length, refl, arith, length-append}
use Rattle.std.proofs.lemmas.List.Sums.{sum_by-cons}
use Rattle.std.proofs.lemmas.List.FromFn.{length-map-range_with_len}
use Rattle.modbus_pdu.specs.Fields.{bits_at, packed_bytes, packed_size}
use Rattle.modbus_frame.specs.Meaning.{Asked, ReadCoils, ReadDiscreteInputs, WriteSingleCoil, WriteMultipleCoils, ReadInputRegisters, ReadHoldingRegisters, WriteSingleRegister, WriteMultipleRegisters, ReportServerId, MaskWriteRegister, ReadWriteMultipleRegisters, ReadFifoQueue, ReadDeviceIdentification, Custom}
use Rattle.modbus_frame.specs.declared.identification.DeviceIdObject.{DeviceIdObject}
use Rattle.modbus_frame.specs.declared.response.Response.{Response}
use Rattle.modbus_frame.specs.declared.response.Response.TheVariants as response
use Rattle.modbus_pdu.specs.Laws.{request_size}
use Rattle.modbus_pdu.specs.ResponseLaws.{response_size}
use Rattle.modbus_pdu.specs.ResponsePdu.{object, objects, device_identification_pdu, response_pdu}
use Rattle.modbus_pdu.specs.RequestPdu.{request_pdu}
use Rattle.modbus_pdu.specs.Word.{word, words}

pub words_length : (ns : List ℕ) → length (words ns) ≡ 2 * length ns
unfolding words
words_length [] = refl
words_length (n ∷ ns) = omega (arith, length-append (word n) (words ns), words_length ns)

pub packed_length : (coils : List Bool) → length (packed_bytes coils) ≡ packed_size (length coils)
unfolding packed_bytes
packed_length coils = length-map-range_with_len (λ (k : ℕ). bits_at coils (8 * k) 8) 0 (packed_size (length coils))

pub request_length : (r : Asked) → length (request_pdu r) ≡ request_size r
unfolding request_pdu
request_length (ReadCoils address quantity) = refl
request_length (ReadDiscreteInputs address quantity) = refl
request_length (ReadHoldingRegisters address quantity) = refl
request_length (ReadInputRegisters address quantity) = refl
request_length (WriteSingleCoil address coil) = refl
request_length (WriteSingleRegister address word) = refl
request_length (WriteMultipleCoils address coils) = omega (arith, packed_length coils)
request_length (WriteMultipleRegisters address registers) = omega (arith, words_length registers)
request_length ReportServerId = refl
request_length (MaskWriteRegister address and_mask or_mask) = refl
request_length (ReadWriteMultipleRegisters read_address quantity write_address registers) = omega (arith, words_length registers)
request_length (ReadFifoQueue address) = refl
request_length (ReadDeviceIdentification code id) = refl
request_length (Custom code bytes) = omega arith

-- an object with its id and its length
abbrev object_size : DeviceIdObject → ℕ
object_size o = 2 + length o.value

objects_length : (os : List DeviceIdObject) → length (objects os) ≡ sum_by object_size os
unfolding objects
objects_length [] = refl
objects_length (o ∷ os) = omega (arith, length-append (object o) (objects os), objects_length os, sum_by-cons object_size o os)

pub response_length : (r : Response) → length (response_pdu r) ≡ response_size r
unfolding response_pdu device_identification_pdu
response_length (response.ReadCoils coils) = omega (arith, packed_length coils)
response_length (response.ReadDiscreteInputs coils) = omega (arith, packed_length coils)
response_length (response.ReadInputRegisters registers) = omega (arith, words_length registers)
response_length (response.ReadHoldingRegisters registers) = omega (arith, words_length registers)
response_length (response.ReadWriteMultipleRegisters registers) = omega (arith, words_length registers)
response_length (response.WriteSingleCoil address coil) = refl
response_length (response.WriteSingleRegister address register) = refl
response_length (response.WriteMultipleCoils address quantity) = refl
response_length (response.WriteMultipleRegisters address quantity) = refl
response_length (response.ReportServerId id run extra) = omega arith
response_length (response.MaskWriteRegister address and_mask or_mask) = refl
response_length (response.ReadFifoQueue registers) = omega (arith, words_length registers)
response_length (response.ReadDeviceIdentification found) = omega (arith, objects_length found.device_id_objects)
response_length (response.Custom code bytes) = omega arith

pub ruleset sizes = (words_length, packed_length)
