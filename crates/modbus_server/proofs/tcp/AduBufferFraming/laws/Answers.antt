use Rattle.std.specs.Prelude.{[]}
use Rattle.modbus_server.proofs.TcpStream.{unbroken, next, used}
use Rattle.modbus_server.proofs.tcp.AduBufferFraming.laws.Goals as goal

pub returns-clause-calm : goal.returns-clause-calm
returns-clause-calm c = λ read rest cuts messages before.
    unbroken c.one_splitting.ensures.only c.adus_come_first.ensures.first c.adu_stays.ensures.no_length c.adu_stays.ensures.foreign read rest cuts messages before

pub returns-clause-next : goal.returns-clause-next
returns-clause-next c = λ read rest cuts messages before.
    next c.one_splitting.ensures.only c.adus_come_first.ensures.first c.adu_stays.ensures.no_length c.adu_stays.ensures.foreign read rest cuts messages before

pub returns-clause-used : goal.returns-clause-used
returns-clause-used c = λ read cuts left messages before.
    used c.one_splitting.ensures.only c.adus_come_first.ensures.first c.adu_stays.ensures.no_length c.adu_stays.ensures.foreign read [] cuts messages before left
