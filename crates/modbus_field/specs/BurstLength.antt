-- The lengths that frames of a burst have by their first bytes: those of requests and responses of RTU, and those of functions for which
-- RTU knows none (Modbus Application Protocol V1.1b3, sections 6.8, 6.14 and 6.15). Places are those of bytes that begin with the slave
-- address, so the function code stands at place 1.
use Rattle.std.specs.Prelude.{ℕ, ◌==◌, ◌||◌, ◌&&◌, if◌then◌else◌, List, slice_get, Option, Some, None, Ok}
use Rattle.modbus_frame.specs.FunctionCodes as number
use Rattle.modbus_pdu.specs.Limits.{read_head, two_words_pdu}
use Rattle.modbus_rtu.specs.Frame.{Head, counted_head, head}
use Rattle.modbus_rtu.specs.ResponseHead.{response_head}

-- Diagnostics has two bytes of data behind its sub-function, which stands at places 2 and 3. Sub-function 00 has data of any length, so
-- no length is known for it.
abbrev pub diagnostics_head : Option ℕ → Option ℕ → Option Head
diagnostics_head (Some high) (Some low) = if (high == 0) && (low == 0) then None else Some (Ok (Some two_words_pdu))
diagnostics_head (Some high) None = Some (Ok None)
diagnostics_head None low = Some (Ok None)

-- The head of a function for which RTU knows none, the same of a request and of its response: a file record is read and written by a byte
-- count behind the function code. None for all other functions.
abbrev pub own_head_by : ℕ → List ℕ → Option Head
own_head_by code adu =
    if (code == number.read_file_record) || (code == number.write_file_record) then Some (counted_head code read_head (slice_get adu read_head))
    else if code == number.diagnostics then diagnostics_head (slice_get adu 2) (slice_get adu 3) else None

abbrev pub own_head_at : List ℕ → Option ℕ → Option Head
own_head_at adu None = None
own_head_at adu (Some code) = own_head_by code adu

unfoldable pub own_head : List ℕ → Option Head
own_head adu = own_head_at adu (slice_get adu 1)

-- this head, or that of RTU where there is none
abbrev pub head_or : Option Head → Head → Head
head_or None other = other
head_or (Some own) other = own

-- the head of bytes of a burst that are read as a request
unfoldable pub request_head : List ℕ → Head
request_head adu = head_or (own_head adu) (head adu)

-- and as a reply
unfoldable pub reply_head : List ℕ → Head
reply_head adu = head_or (own_head adu) (response_head adu)
