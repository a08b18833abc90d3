use Rattle.modbus_frame_laws.proofs.SameFrame.{rtu_responses_Decide}
use Rattle.modbus_frame_laws.proofs.same_rtu_response.Goals as goal

pub returns : goal.returns
returns c =
    let d = rtu_responses_Decide c.args.a.now c.args.b.now in
    rw c.eq.ensures d
