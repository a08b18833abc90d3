-- What serving one message did, as a struct of C.
use Rattle.std.specs.Prelude.{ℕ, ◌==◌, if◌then◌else◌, Result, Ok, Err}
use Rattle.modbus_rtu.specs.declared.front.Crowd.{Crowd}
use Rattle.modbus_rtu.specs.Limits.{max_retries}
use Rattle.modbus_tcp.specs.declared.stream.HeaderFault.{HeaderFault}
use Rattle.modbus_tcp.specs.declared.stream.HeaderFault.TheVariants as fault
use Rattle.modbus_c.specs.declared.serve.Served.{Served}
use Rattle.modbus_c.specs.declared.serve.Served.TheVariants as served
use Rattle.modbus_c.specs.declared.status.TheConstants.{MODBUS_DONE, MODBUS_WAITING, MODBUS_SILENT, MODBUS_REFUSED, MODBUS_NO_MEMORY, MODBUS_NO_LENGTH, MODBUS_FOREIGN, MODBUS_CROWD, MODBUS_NO_ROOM}
use Rattle.modbus_c.specs.declared.export.ModbusServed.{ModbusServed}
use Rattle.modbus_c.specs.Status.{reason_number}

abbrev pub flat_served : Served → ModbusServed
flat_served (served.Answered used written) = record { status = MODBUS_DONE; detail = 0; used = used; written = written }
flat_served (served.Waiting dropped) = record { status = MODBUS_WAITING; detail = 0; used = dropped; written = 0 }
flat_served (served.Silent used) = record { status = MODBUS_SILENT; detail = 0; used = used; written = 0 }
flat_served (served.Refused used reason) = record { status = MODBUS_REFUSED; detail = reason_number reason; used = used; written = 0 }
flat_served served.NoMemory = record { status = MODBUS_NO_MEMORY; detail = 0; used = 0; written = 0 }

abbrev pub flat_adu : Result Served HeaderFault → ModbusServed
flat_adu (Ok done) = flat_served done
flat_adu (Err fault.InvalidLength) = record { status = MODBUS_NO_LENGTH; detail = 0; used = 0; written = 0 }
flat_adu (Err (fault.InvalidProtocol protocol)) = record { status = MODBUS_FOREIGN; detail = protocol; used = 0; written = 0 }

abbrev pub flat_frame : Result Served Crowd → ModbusServed
flat_frame (Ok done) = flat_served done
flat_frame (Err crowd) = record { status = MODBUS_CROWD; detail = 0; used = max_retries; written = 0 }

-- the output has too little room for the longest reply, so nothing was done
abbrev pub no_room : ModbusServed
no_room = record { status = MODBUS_NO_ROOM; detail = 0; used = 0; written = 0 }

-- a burst of so many bytes: all of it was heard, and a reply of so many was written, or none; or memory was refused at a place
abbrev pub flat_burst : ℕ → Result ℕ ℕ → ModbusServed
flat_burst size (Ok written) = record { status = if written == 0 then MODBUS_SILENT else MODBUS_DONE; detail = 0; used = size; written = written }
flat_burst size (Err used) = record { status = MODBUS_NO_MEMORY; detail = 0; used = used; written = 0 }
