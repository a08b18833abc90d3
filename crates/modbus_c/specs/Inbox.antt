-- The bytes of an inbox in memory of the caller.
use Rattle.std.specs.Prelude.{ℕ, List, take}
use Rattle.modbus_c.specs.declared.inbox.ModbusInbox.{ModbusInbox}

-- the bytes that an inbox has room for
abbrev pub room : ℕ
room = 268

-- The held bytes are the first `len`. A list has no more items than it has, so where `len` is more, all are held.
abbrev pub held : ModbusInbox → List ℕ
held inbox = take inbox.len inbox.bytes
