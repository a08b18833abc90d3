-- A serial line of a client, on which a late reply can't be told from the next one: what may still come, and for how long the line has to be
-- silent (MODBUS over Serial Line V1.02, section 2.4.1).
use Rattle.std.specs.Prelude.{ℕ, ◌==◌, ◌&&◌, ◌||◌, not, Bool, length}
use Rattle.modbus_c.specs.Inbox.{held}
use Rattle.modbus_c.specs.declared.call.ModbusCall.{ModbusCall}
use Rattle.modbus_c.specs.declared.status.TheConstants.{MODBUS_DONE, MODBUS_UNTOLD, MODBUS_EXCEPTION}

-- the statuses at which a reply to the request was found and used up
abbrev pub is_taken : ℕ → Bool
is_taken status = (status == MODBUS_DONE) || (status == MODBUS_EXCEPTION) || (status == MODBUS_UNTOLD)

-- After a call of a serial line that ended with this status its reply may still come, or bytes of one lie unread. Slave 0 answers nobody, and
-- over Modbus TCP the transaction tells a late reply.
abbrev pub owes : ModbusCall → ℕ → Bool
owes call status = not call.tcp && not (call.slave == 0) && not (is_taken status && (length (held call.inbox) == 0))
