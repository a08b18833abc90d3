use Rattle.modbus_server.proofs.Fronts.{finds_frame, frame_within}
use Rattle.modbus_server.proofs.rtu.InboxFraming.front.Goals as goal

pub returns-clause-finds : goal.returns-clause-finds
returns-clause-finds c = λ bytes cuts taken s. finds_frame bytes cuts taken c.args.self.now c.front.result (c.front.ensures.stands bytes cuts taken s)

pub returns-clause-within : goal.returns-clause-within
returns-clause-within c = frame_within c.args.self.now c.front.result c.front.ensures.finds
