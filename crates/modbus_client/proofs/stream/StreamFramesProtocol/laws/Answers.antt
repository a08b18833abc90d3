use Rattle.std.proofs.Common.{sym, ap, ◌∙◌}
use Rattle.modbus_client.specs.LineReading.{LineRead, stream_verdict, told_count}
use Rattle.modbus_client.proofs.LineReads.{reads_none}
use Rattle.modbus_client.proofs.StreamVerdict.{stream_alone}
use Rattle.modbus_client.proofs.stream.StreamFramesProtocol.laws.Goals as goal

pub returns-clause-opening : goal.returns-clause-opening
returns-clause-opening c = λ asked. sym (ap (λ (r : LineRead). r.found) (reads_none (stream_verdict asked.slave_id) asked.slave_id 0))

pub returns-clause-none_dropped : goal.returns-clause-none_dropped
returns-clause-none_dropped c = λ asked. sym (ap (λ (r : LineRead). told_count r.others) (reads_none (stream_verdict asked.slave_id) asked.slave_id 0))

pub returns-clause-one_way : goal.returns-clause-one_way
returns-clause-one_way c = λ asked bytes cuts found other a b. a ∙ sym b

pub returns-clause-alone : goal.returns-clause-alone
returns-clause-alone c = λ header pdu bytes rest cuts found whole joined finds. stream_alone header.slave_id pdu whole bytes rest found joined finds
