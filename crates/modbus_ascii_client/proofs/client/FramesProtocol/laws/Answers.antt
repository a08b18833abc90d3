use Rattle.modbus_ascii_client.proofs.Finding.{no-byte, none-counted, alone}
use Rattle.modbus_ascii_client.proofs.client.FramesProtocol.laws.Goals as goal

pub returns-clause-opening : goal.returns-clause-opening
returns-clause-opening c = λ asked. no-byte asked.slave_id

pub returns-clause-none_dropped : goal.returns-clause-none_dropped
returns-clause-none_dropped c = λ asked. none-counted asked.slave_id

pub returns-clause-alone : goal.returns-clause-alone
returns-clause-alone c = λ header pdu bytes rest cuts found framed joined finds.
    alone c.frames_alone.ensures c.fronts_deliver_nothing.ensures header.slave_id pdu bytes rest found framed joined finds
