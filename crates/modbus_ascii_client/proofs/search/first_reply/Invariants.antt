use Rattle.std.proofs.Common.{take}
use Rattle.modbus_ascii_client.specs.Search.{HasScanned}
use Rattle.modbus_ascii_client.proofs.search.first_reply.Given as goal

-- the bytes so far have no frame of the slave
abbrev pub invariant-loop-byte : goal.invariant-loop-byte
invariant-loop-byte l = HasScanned l.slave (take l.byte-index l.held) l.scan
