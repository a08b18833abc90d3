use Rattle.modbus_frame_laws.proofs.SameFrame.{errors_Decide}
use Rattle.modbus_frame_laws.proofs.same_error.Goals as goal

pub returns : goal.returns
returns c =
    let d = errors_Decide c.args.a.now c.args.b.now in
    rw c.eq.ensures d
