use Rattle.std.proofs.Common.{◌≤◌, ◌-◌, List, length, drop}
use Rattle.modbus_frame.specs.declared.tcp.Header.{Header}
use Rattle.modbus_pdu.specs.Message.{Message}
use Rattle.modbus_client.specs.Tcp.{DropsAdus}
use Rattle.modbus_c.proofs.seek.end_of_others.Given as goal

abbrev pub invariant-others : goal.invariant-others
invariant-others l = (l.start ≤ length l.bytes) × ((adus : List (Message Header)) × DropsAdus l.asked l.bytes adus (drop l.start l.bytes))

abbrev pub decreases-others : goal.decreases-others
decreases-others l = length l.bytes - l.start
