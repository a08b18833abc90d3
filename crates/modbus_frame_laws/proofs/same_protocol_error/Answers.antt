use Rattle.modbus_frame_laws.proofs.SameFrame.{protocols_Decide}
use Rattle.modbus_frame_laws.proofs.same_protocol_error.Goals as goal

pub returns : goal.returns
returns c =
    let d = protocols_Decide c.args.a.now c.args.b.now in
    rw c.eq.ensures d
