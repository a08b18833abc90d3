-- Which requests may be sent again (Modbus Application Protocol V1.1b3, section 6).
use Rattle.std.specs.Prelude.{Bool, true, false, ◌&&◌, ◌||◌, not, Ok, Err}
use Rattle.modbus_frame.specs.Meaning.{Asked, only_reads}
use Rattle.modbus_frame.specs.Meaning.Asked.{Custom}
use Rattle.modbus_calls.specs.OnlyReads.{only_reads_code}
use Rattle.modbus_frame.specs.Stage.{error_stage}
use Rattle.modbus_frame.specs.declared.fault.Error.TheVariants.{Transport}
use Rattle.modbus_frame.specs.declared.fault.TransportError.TheVariants.{NotConnected}
use Rattle.modbus_client.specs.Matches.{Answer}
use Rattle.modbus_reconnect.specs.declared.resend.Resend.{Resend}
use Rattle.modbus_reconnect.specs.declared.resend.Resend.TheVariants.{Never, Reads, Always}
use Rattle.modbus_reconnect.specs.Owes.{settles}

-- it changes nothing in the device, by its layout, or by its function code and the bytes behind that where it has none
abbrev pub changes_nothing : Asked → Bool
changes_nothing (Custom function bytes) = only_reads_code function bytes
changes_nothing asked = only_reads asked

-- the caller lets this request be sent again
abbrev pub may_resend : Resend → Asked → Bool
may_resend Never asked = false
may_resend Reads asked = changes_nothing asked
may_resend Always asked = true

-- no link was made
abbrev pub is_unconnected : Answer → Bool
is_unconnected (Err (Transport NotConnected)) = true
is_unconnected _ = false

-- an error that leaves a reply owed
abbrev pub is_in_doubt : Answer → Bool
is_in_doubt (Ok result) = false
is_in_doubt (Err error) = not (settles (error_stage error))

-- A try with this answer may be followed by another one: where no link was made, since nothing was sent; and after an error that leaves a
-- reply owed, where the request may be sent again.
abbrev pub may_follow : Resend → Asked → Answer → Bool
may_follow resend asked answer = is_unconnected answer || (is_in_doubt answer && may_resend resend asked)
