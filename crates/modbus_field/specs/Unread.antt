-- What is asked by a PDU that can't be read, and what is done with it (Modbus Application Protocol V1.1b3, section 6, state diagrams).
use Rattle.std.specs.Prelude.{ℕ, ◌+◌, ◌*◌, List, [], ◌∷◌, drop, slice_index, ◌==◌, ◌&&◌, not, nat_lt, false, Bool, Option, Some, None, Result, Ok, Err, if◌then◌else◌}
use Rattle.std.specs.List.{list_any}
use Rattle.modbus_frame.specs.declared.code.ExceptionCode.{ExceptionCode}
use Rattle.modbus_frame.specs.declared.code.ExceptionCode.TheVariants.{IllegalFunction, IllegalDataValue}
use Rattle.modbus_frame.specs.declared.fault.Reason.{Reason}
use Rattle.modbus_frame.specs.declared.fault.Reason.TheVariants.{InvalidQuantity}
use Rattle.modbus_frame.specs.FunctionCodes as number
use Rattle.modbus_frame.specs.Meaning.{Asked, Custom}
use Rattle.modbus_pdu.specs.Fields.{word_at}
use Rattle.modbus_pdu.specs.Limits.{mei_device_identification}
use Rattle.modbus_pdu.specs.RequestOf.{request_of}
use Rattle.modbus_field.specs.declared.standard.answers.Unread.{Unread}
use Rattle.modbus_field.specs.declared.standard.answers.Unread.TheVariants.{Refused, Silent}

-- the function code that no request has (4.1)
abbrev pub no_function : ℕ
no_function = 0

-- a request that could be read, or the custom request of this function code with the bytes after it
abbrev pub read_or : ℕ → List ℕ → Result Asked Reason → Asked
read_or code rest (Ok request) = request
read_or code rest (Err reason) = Custom code rest

-- bytes that begin with the function code of a request (4.1)
abbrev pub begins_request : List ℕ → Bool
begins_request [] = false
begins_request (code ∷ rest) = not (code == no_function) && nat_lt code number.exception_bit

-- Write Multiple Coils with more bytes than its coils need (6.11): the decoder reads it, and the standard has exception 03 for it
abbrev pub has_spare_bytes : List ℕ → Bool
has_spare_bytes pdu = (slice_index pdu 0 == number.write_multiple_coils) && nat_lt (word_at pdu 3 + 7) (8 * slice_index pdu 5)

-- what was read, unless the byte count is another than the standard wants
abbrev pub strictly : List ℕ → Result Asked Reason → Result Asked Reason
strictly pdu read = if has_spare_bytes pdu then Err InvalidQuantity else read

-- What bytes ask that stand where a PDU is: the request that they are; if they can't be read, a custom request of their function code;
-- if they begin with none, one of no function with all of them.
unfoldable pub any_request_of : List ℕ → Asked
any_request_of pdu =
    if begins_request pdu then read_or (slice_index pdu 0) (drop 1 pdu) (strictly pdu (request_of pdu)) else Custom no_function pdu

-- the function codes whose requests have a layout of their own
abbrev pub is_modelled : ℕ → Bool
is_modelled code = list_any (λ k. code == k) (number.read_coils ∷ number.read_discrete_inputs ∷ number.read_holding_registers ∷ number.read_input_registers
    ∷ number.write_single_coil ∷ number.write_single_register ∷ number.write_multiple_coils ∷ number.write_multiple_registers ∷ number.report_server_id
    ∷ number.mask_write_register ∷ number.read_write_multiple_registers ∷ number.read_fifo_queue ∷ number.encapsulated_interface_transport ∷ [])

-- The exception for a PDU of this function code that can't be read. A MEI type that is not known (6.21) is told as a function that is
-- not known; a value, a count or a length that doesn't fit as an illegal data value (section 7).
abbrev pub exception_of_pdu : ℕ → List ℕ → ExceptionCode
exception_of_pdu code [] = IllegalDataValue
exception_of_pdu code (mei ∷ rest) =
    if code == number.encapsulated_interface_transport then (if mei == mei_device_identification then IllegalDataValue else IllegalFunction) else IllegalDataValue

-- bytes that begin with no function code of a request: function code 0 is not known, all else is not answered
abbrev pub of_no_function : List ℕ → Unread
of_no_function [] = Silent
of_no_function (code ∷ rest) = if code == no_function then Refused IllegalFunction else Silent

-- what is done with a request that stands for a PDU which can't be read; none for all others
abbrev pub unread_of : Asked → Option Unread
unread_of (Custom code bytes) =
    if code == no_function then Some (of_no_function bytes)
    else if is_modelled code then Some (Refused (exception_of_pdu code bytes)) else None
unread_of _ = None
