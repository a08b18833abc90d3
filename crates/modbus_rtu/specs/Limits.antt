-- The numbers of a frame, of a search and of what a decoder records, each of which stands here alone (MODBUS over Serial Line
-- V1.02, section 2.5.1; Modbus Application Protocol V1.1b3, section 6).
use Rattle.std.specs.Prelude.{ℕ, ◌+◌, ◌*◌}
use Rattle.modbus_pdu.specs.Limits.{max_pdu, identification_head}

-- the bytes of a slave address, which stands before the PDU
abbrev pub slave_address : ℕ
slave_address = 1

-- the bytes of a checksum, which stands behind the PDU
abbrev pub checksum : ℕ
checksum = 2

-- the bytes of a frame besides its PDU
abbrev pub overhead : ℕ
overhead = slave_address + checksum

-- the greatest byte count
abbrev pub max_byte_count : ℕ
max_byte_count = 255

-- the most bytes of a frame
abbrev pub max_frame : ℕ
max_frame = max_pdu + overhead

-- where the number of objects stands in bytes that begin with the slave address: it is the last byte of its head (V1.1b3, 6.21)
abbrev pub object_count : ℕ
object_count = identification_head

-- where the first object stands in them
abbrev pub first_object : ℕ
first_object = slave_address + identification_head

-- the bytes of an object before its value: its id and its length
abbrev pub object_head : ℕ
object_head = 2

-- the bytes of the longest object
abbrev pub longest_object : ℕ
longest_object = object_head + max_byte_count

-- where the most and longest objects end in bytes that begin with the slave address
abbrev pub most_objects_end : ℕ
most_objects_end = first_object + max_byte_count * longest_object

-- the bytes of the longest response frame that is waited for, which has these objects
abbrev pub longest_identification : ℕ
longest_identification = most_objects_end + checksum

-- the greatest number of two bytes
abbrev pub max_word : ℕ
max_word = 65535

-- so many offsets in a row at which no frame stands end a search
abbrev pub max_retries : ℕ
max_retries = 20

-- the most dropped bytes that are recorded
abbrev pub max_dropped : ℕ
max_dropped = 256
