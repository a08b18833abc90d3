-- The numbers of a burst (MODBUS over Serial Line V1.02, sections 2.2 and 2.5.1).
use Rattle.std.specs.Prelude.{ℕ, ◌+◌}
use Rattle.modbus_rtu.specs.Limits.{overhead}

-- the bytes of the shortest frame, whose PDU has one byte
abbrev pub shortest_frame : ℕ
shortest_frame = 1 + overhead

-- the bytes of a burst that are read, as many as a busy line has in some seconds
abbrev pub most_read : ℕ
most_read = 65536

-- the slave address that the message of noise has: 248 to 255 are reserved, and no device has one of them (2.2)
abbrev pub noise_address : ℕ
noise_address = 255
