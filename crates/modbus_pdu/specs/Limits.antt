-- The numbers of a PDU: limits, sizes and the MEI type, each of which stands here alone (Modbus Application Protocol V1.1b3).
use Rattle.std.specs.Prelude.{ℕ}

-- the most bytes of a PDU (section 4.1)
abbrev pub max_pdu : ℕ
max_pdu = 253

-- the most coils or discrete inputs of one read (sections 6.1 and 6.2)
abbrev pub max_read_coils : ℕ
max_read_coils = 2000

-- the most coils of one write (section 6.11)
abbrev pub max_write_coils : ℕ
max_write_coils = 1968

-- the most registers of one read (sections 6.3, 6.4 and 6.17)
abbrev pub max_read_registers : ℕ
max_read_registers = 125

-- the most registers of one write (section 6.12)
abbrev pub max_write_registers : ℕ
max_write_registers = 123

-- the most registers that a read and write writes (section 6.17)
abbrev pub max_read_write_registers : ℕ
max_read_write_registers = 121

-- the most registers of a queue (section 6.18)
abbrev pub max_fifo_count : ℕ
max_fifo_count = 31

-- the MEI type of device identification (section 6.21)
abbrev pub mei_device_identification : ℕ
mei_device_identification = 0x0E

-- the bytes of a function code alone (sections 6.7, 6.9, 6.10 and 6.13)
abbrev pub code_pdu : ℕ
code_pdu = 1

-- the bytes of a function code and a byte: an exception (section 7), or a status (section 6.7)
abbrev pub one_byte_pdu : ℕ
one_byte_pdu = 2

-- the bytes of a function code and a word: an address (section 6.18)
abbrev pub one_word_pdu : ℕ
one_word_pdu = 3

-- the bytes of a function code and two words: an address, and a quantity or a value (sections 6.1 to 6.6)
abbrev pub two_words_pdu : ℕ
two_words_pdu = 5

-- the bytes of a function code and three words: an address and two masks (section 6.16)
abbrev pub three_words_pdu : ℕ
three_words_pdu = 7

-- the bytes before the coils or registers of a write (sections 6.11 and 6.12)
abbrev pub write_head : ℕ
write_head = 6

-- the bytes before the registers of a read and write (section 6.17)
abbrev pub read_write_head : ℕ
read_write_head = 10

-- the bytes of a request for device identification (section 6.21)
abbrev pub identification_request : ℕ
identification_request = 4

-- the bytes before the coils, registers or other data of a response: the function code and the byte count (sections 6.1 to 6.4,
-- 6.17)
abbrev pub read_head : ℕ
read_head = 2

-- the bytes before the data of a server: the function code, the byte count, an id and the run indicator (section 6.13)
abbrev pub server_id_head : ℕ
server_id_head = 4

-- the bytes of a queue that its byte count does not count: the function code and the byte count (section 6.18)
abbrev pub fifo_head : ℕ
fifo_head = 3

-- the bytes of the count of a queue's registers, which its byte count counts too (section 6.18)
abbrev pub fifo_count_size : ℕ
fifo_count_size = 2

-- the bytes before the objects of a device identification, the last of which is their number (section 6.21)
abbrev pub identification_head : ℕ
identification_head = 7
