-- Calls whose request is a PDU of the caller's, for each function code (Modbus Application Protocol V1.1b3, sections 4.1 and 7).
use Rattle.std.specs.Prelude.{◌≡◌, ℕ, ◌+◌, ◌-◌, ◌==◌, nat_lt, Bool, List, [], ◌∷◌, Result, Ok, Err, if◌then◌else◌}
use Rattle.modbus_frame.specs.FunctionCodes.{exception_bit}
use Rattle.modbus_frame.specs.declared.fault.HeaderSeen.{HeaderSeen}
use Rattle.modbus_frame.specs.declared.fault.Reason.{Reason}
use Rattle.modbus_frame.specs.declared.fault.Reason.TheVariants as reason
use Rattle.modbus_c.specs.Calls.{header_asked}
use Rattle.modbus_c.specs.Inbox.{held}
use Rattle.modbus_c.specs.Requests.{blank}
use Rattle.modbus_c.specs.declared.call.ModbusCall.{ModbusCall}
use Rattle.modbus_c.specs.declared.raw.RawReply.{RawReply}
use Rattle.modbus_c.specs.declared.raw.RawReply.TheVariants as raw

-- the function code of a request, which is its first byte, and below the exception bit
abbrev pub function_in : List ℕ → Result ℕ Reason
function_in [] = Err reason.UnexpectedEnd
function_in (code ∷ body) = if nat_lt code exception_bit then Ok code else Err (reason.InvalidFunction code)

-- an exception is its function code and one exception code
abbrev pub exception_behind : List ℕ → RawReply
exception_behind [] = raw.Refused reason.UnexpectedEnd
exception_behind (code ∷ []) = raw.Exception code
exception_behind (code ∷ more ∷ others) = raw.Refused reason.UndecodedData

-- the function of a function code with or without the exception bit
abbrev pub plain_function : ℕ → ℕ
plain_function code = if nat_lt code exception_bit then code else code - exception_bit

-- What a PDU is to a request of a function: its reply, an exception of it, of another function, or no PDU of a reply.
abbrev pub raw_reply : ℕ → List ℕ → RawReply
raw_reply function [] = raw.Refused reason.UnexpectedEnd
raw_reply function (code ∷ body) =
    if code == function then raw.Reply
    else if code == function + exception_bit then exception_behind body
    else raw.Another (plain_function code)

-- a call of this framing that asked for this function under this header, and holds no byte yet
pub record IsBegun (tcp : Bool) (asked : HeaderSeen) (function : ℕ) (call : ModbusCall) : Type 0 where
  pub framing : call.tcp ≡ tcp
  pub under : header_asked call ≡ asked
  pub keeps : call.request ≡ blank function
  pub empty : held call.inbox ≡ []
