use Rattle.modbus_server.proofs.TcpFaults.{first_adu_fault}
use Rattle.modbus_server.proofs.laws.failing_adu.Goals as goal

pub returns-clause-run : goal.returns-clause-run
returns-clause-run g c = λ bytes cuts written opening now halt s.
    (first_adu_fault c.one_splitting.ensures.only c.adus_come_first.ensures.first g.V.Answerer.answering bytes cuts opening now written halt s).0

pub returns-clause-first : goal.returns-clause-first
returns-clause-first g c = λ bytes cuts written opening now halt s.
    (first_adu_fault c.one_splitting.ensures.only c.adus_come_first.ensures.first g.V.Answerer.answering bytes cuts opening now written halt s).1
