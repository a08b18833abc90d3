use Rattle.std.proofs.Common.{refl}
use Rattle.modbus_client.specs.Tcp.{header_seen}
use Rattle.modbus_client.proofs.tcp.Adus.take_adu.Goals as goal

pub returns-in-Err-Invalid-clause-looks : goal.returns-in-Err-Invalid-clause-looks
returns-in-Err-Invalid-clause-looks c = λ asked cuts.
    let (message, begins, means) = (rw c.in-Err-Invalid.field-0-is at c.in-Err-Invalid.ensures).reads in (header_seen message.header, message.pdu, (message.header, begins, refl), means)

pub returns-in-Err-NoMemory-clause-looks : goal.returns-in-Err-NoMemory-clause-looks
returns-in-Err-NoMemory-clause-looks c = λ asked cuts.
    let (message, others, begins, carries, stays) = (rw c.in-Err-NoMemory.field-0-is at c.in-Err-NoMemory.ensures).reads in
    (others, header_seen message.header, message.pdu, (message.header, begins, refl), carries)
