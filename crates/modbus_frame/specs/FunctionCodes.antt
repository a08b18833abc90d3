-- The numbers of the function codes, each of which stands here alone (Modbus Application Protocol V1.1b3, section 6).
use Rattle.std.specs.Prelude.{ℕ}

-- section 6.1
abbrev pub read_coils : ℕ
read_coils = 0x01

-- section 6.2
abbrev pub read_discrete_inputs : ℕ
read_discrete_inputs = 0x02

-- section 6.3
abbrev pub read_holding_registers : ℕ
read_holding_registers = 0x03

-- section 6.4
abbrev pub read_input_registers : ℕ
read_input_registers = 0x04

-- section 6.5
abbrev pub write_single_coil : ℕ
write_single_coil = 0x05

-- section 6.6
abbrev pub write_single_register : ℕ
write_single_register = 0x06

-- section 6.7
abbrev pub read_exception_status : ℕ
read_exception_status = 0x07

-- section 6.8
abbrev pub diagnostics : ℕ
diagnostics = 0x08

-- section 6.9
abbrev pub get_comm_event_counter : ℕ
get_comm_event_counter = 0x0B

-- section 6.10
abbrev pub get_comm_event_log : ℕ
get_comm_event_log = 0x0C

-- section 6.11
abbrev pub write_multiple_coils : ℕ
write_multiple_coils = 0x0F

-- section 6.12
abbrev pub write_multiple_registers : ℕ
write_multiple_registers = 0x10

-- section 6.13
abbrev pub report_server_id : ℕ
report_server_id = 0x11

-- section 6.14
abbrev pub read_file_record : ℕ
read_file_record = 0x14

-- section 6.15
abbrev pub write_file_record : ℕ
write_file_record = 0x15

-- section 6.16
abbrev pub mask_write_register : ℕ
mask_write_register = 0x16

-- section 6.17
abbrev pub read_write_multiple_registers : ℕ
read_write_multiple_registers = 0x17

-- section 6.18
abbrev pub read_fifo_queue : ℕ
read_fifo_queue = 0x18

-- section 6.19
abbrev pub encapsulated_interface_transport : ℕ
encapsulated_interface_transport = 0x2B

-- what an exception adds to the function code of its request; function codes of requests are below it (section 7)
abbrev pub exception_bit : ℕ
exception_bit = 0x80
