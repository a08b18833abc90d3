-- What a search finds, as a struct of C.
use Rattle.std.specs.Prelude.{◌+◌, ◌<◌, ◌^◌, ⊤, length, Result, Ok, Err}
use Rattle.modbus_rtu.specs.declared.search.Next.{Next}
use Rattle.modbus_rtu.specs.declared.search.Next.TheVariants.{Frame, Waiting, TooManyRetries}
use Rattle.modbus_rtu.specs.Limits.{overhead, max_retries}
use Rattle.modbus_frame.specs.declared.tcp.Header.{Header}
use Rattle.modbus_frame.specs.declared.front.Front.{Front}
use Rattle.modbus_frame.specs.declared.front.Front.TheVariants as front
use Rattle.modbus_tcp.specs.declared.stream.HeaderFault.{HeaderFault}
use Rattle.modbus_tcp.specs.declared.stream.HeaderFault.TheVariants as fault
use Rattle.modbus_c.specs.declared.status.TheConstants.{MODBUS_DONE, MODBUS_WAITING, MODBUS_NO_LENGTH, MODBUS_FOREIGN, MODBUS_CROWD}
use Rattle.modbus_c.specs.declared.find.ModbusFrame.{ModbusFrame}
use Rattle.modbus_c.specs.declared.find.ModbusAdu.{ModbusAdu}

-- a frame ends behind its slave address, its PDU and its checksum
abbrev pub flat_next : Next → ModbusFrame
flat_next (Frame start n) = record { status = MODBUS_DONE; start = start; pdu_len = n; used = start + (n + overhead) }
flat_next (Waiting dropped) = record { status = MODBUS_WAITING; start = 0; pdu_len = 0; used = dropped }
flat_next TooManyRetries = record { status = MODBUS_CROWD; start = 0; pdu_len = 0; used = max_retries }

-- the end of a frame is a number of 64 bits
abbrev pub IsSmall : Next → Type 0
IsSmall (Frame start n) = start + (n + overhead) < 2 ^ 64
IsSmall next = ⊤

abbrev pub flat_front : Result (Front Header) HeaderFault → ModbusAdu
flat_front (Ok (front.Message header pdu end)) = record { status = MODBUS_DONE; transaction_id = header.transaction_id; protocol = 0; unit_id = header.unit_id; pdu_len = length pdu.now; used = end }
flat_front (Ok (front.Waiting dropped)) = record { status = MODBUS_WAITING; transaction_id = 0; protocol = 0; unit_id = 0; pdu_len = 0; used = 0 }
flat_front (Err fault.InvalidLength) = record { status = MODBUS_NO_LENGTH; transaction_id = 0; protocol = 0; unit_id = 0; pdu_len = 0; used = 0 }
flat_front (Err (fault.InvalidProtocol protocol)) = record { status = MODBUS_FOREIGN; transaction_id = 0; protocol = protocol; unit_id = 0; pdu_len = 0; used = 0 }
