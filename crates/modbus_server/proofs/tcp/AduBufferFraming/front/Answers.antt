use Rattle.modbus_server.proofs.Fronts.{finds_adu, adu_within}
use Rattle.modbus_server.proofs.tcp.AduBufferFraming.front.Goals as goal

pub returns-clause-finds : goal.returns-clause-finds
returns-clause-finds c = λ bytes cuts taken s.
    finds_adu bytes cuts c.args.self.now.bytes.items taken s c.front.result (rw c.as_slice.ensures at c.front.ensures.finds)

pub returns-clause-within : goal.returns-clause-within
returns-clause-within c = adu_within c.args.self.now.bytes.items c.front.result (rw c.as_slice.ensures at c.front.ensures.finds)
