-- Which requests that have no layout of their own only read (Modbus Application Protocol V1.1b3, section 6).
use Rattle.std.specs.Prelude.{ℕ, ◌==◌, ◌&&◌, ◌||◌, nat_le, Bool, false, List, ◌∷◌}
use Rattle.modbus_frame.specs.FunctionCodes as number
use Rattle.modbus_pdu.specs.Limits.{mei_device_identification}

-- Diagnostics that change nothing: 00 sends data back, 02 reads the diagnostic register, and 0B to 12 read counters (6.8.1)
abbrev pub is_reading_diagnostic : List ℕ → Bool
is_reading_diagnostic (high ∷ sub ∷ field) = (high == 0) && ((sub == 0x00) || (sub == 0x02) || (nat_le 0x0B sub && nat_le sub 0x12))
is_reading_diagnostic _ = false

-- the encapsulated interface transport of a device identification (6.21)
abbrev pub is_identification : List ℕ → Bool
is_identification (mei ∷ rest) = mei == mei_device_identification
is_identification _ = false

-- By the function code and the bytes behind it: Read Exception Status, Diagnostics that change nothing, Get Comm Event Counter, Get Comm
-- Event Log, Report Server ID, Read File Record and Read Device Identification (6.7 to 6.10, 6.13, 6.14, 6.21). A device that does one of
-- these twice is as if it had done it once.
abbrev pub only_reads_code : ℕ → List ℕ → Bool
only_reads_code function bytes =
    (function == number.read_exception_status)
    || (function == number.diagnostics && is_reading_diagnostic bytes)
    || (function == number.get_comm_event_counter)
    || (function == number.get_comm_event_log)
    || (function == number.report_server_id)
    || (function == number.read_file_record)
    || (function == number.encapsulated_interface_transport && is_identification bytes)
