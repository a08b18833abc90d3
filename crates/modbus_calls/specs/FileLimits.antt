-- The numbers of files and records (Modbus Application Protocol V1.1b3, sections 6.14 and 6.15).
use Rattle.std.specs.Prelude.{ℕ, ◌<◌, ◌≤◌}

-- the number of the last record of a file
abbrev pub last_record : ℕ
last_record = 0x270F

-- how many registers a group has at most where its PDU is one of 253 bytes at most: of a response that reads, of a request that writes
abbrev pub most_read : ℕ
most_read = 124

abbrev pub most_written : ℕ
most_written = 122

-- a file has a number from 1 on, and records up to the last one
abbrev pub IsPlace : ℕ → ℕ → Type 0
IsPlace file record_number = (0 < file) × (record_number ≤ last_record)

-- some registers, and no more than a response has
abbrev pub IsRead : ℕ → Type 0
IsRead quantity = (0 < quantity) × (quantity ≤ most_read)

-- how many bytes a PDU has behind its function code at most
abbrev pub most_data : ℕ
most_data = 252
