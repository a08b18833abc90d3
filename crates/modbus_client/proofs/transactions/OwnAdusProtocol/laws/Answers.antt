use Rattle.modbus_client.proofs.OwnAdu.{one_own, own_alone, opening, none_dropped}
use Rattle.modbus_client.proofs.transactions.OwnAdusProtocol.laws.Goals as goal

pub returns-clause-one_way : goal.returns-clause-one_way
returns-clause-one_way c = λ asked bytes cuts found other. one_own c.one_front.ensures.adu c.one_front.ensures.rest c.one_front.ensures.apart asked cuts bytes found other

pub returns-clause-alone : goal.returns-clause-alone
returns-clause-alone c = λ header pdu bytes rest cuts found whole joined finds.
    own_alone c.one_front.ensures.adu c.one_front.ensures.rest c.one_front.ensures.apart c.adu_stays.ensures.adu c.adu_stays.ensures.no_length c.adu_stays.ensures.foreign
    header pdu bytes rest cuts whole joined found finds

pub returns-clause-opening : goal.returns-clause-opening
returns-clause-opening c = λ asked. opening asked

pub returns-clause-none_dropped : goal.returns-clause-none_dropped
returns-clause-none_dropped c = λ asked. none_dropped asked
