use Rattle.std.proofs.Common.{◌≡◌, List, length}
use Rattle.modbus_frame.specs.declared.tcp.Header.{Header}
use Rattle.modbus_pdu.specs.Message.{Message}
use Rattle.modbus_client.specs.Tcp.{DropsAdus, adus_in}
use Rattle.modbus_client.proofs.transactions.drop_others.Given as goal

abbrev pub invariant-others : goal.invariant-others
invariant-others l = (adus : List (Message Header)) × DropsAdus l.fn.asked l.fn.held.items adus l.held.items × (l.dropped ≡ adus_in adus)

abbrev pub decreases-others : goal.decreases-others
decreases-others l = length l.held.items
