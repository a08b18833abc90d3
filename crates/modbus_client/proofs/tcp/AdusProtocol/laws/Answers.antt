use Rattle.modbus_client.proofs.OneAdu.{one_adu, adu_alone}
use Rattle.modbus_client.proofs.tcp.AdusProtocol.laws.Goals as goal

pub returns-clause-one_way : goal.returns-clause-one_way
returns-clause-one_way c = λ asked. one_adu c.one_front.ensures.adu c.one_front.ensures.rest c.one_front.ensures.apart

pub returns-clause-alone : goal.returns-clause-alone
returns-clause-alone c = λ header pdu bytes rest cuts found whole joined finds.
    adu_alone c.one_front.ensures.adu c.one_front.ensures.rest c.one_front.ensures.apart c.adu_stays.ensures.adu c.adu_stays.ensures.no_length c.adu_stays.ensures.foreign
    header pdu bytes rest cuts whole joined found finds
