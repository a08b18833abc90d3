use Rattle.modbus_frame_laws.proofs.SameRequest.{requests_Decide}
use Rattle.modbus_frame_laws.proofs.same_request.Goals as goal

pub returns : goal.returns
returns c =
    let d = requests_Decide c.args.a.now c.args.b.now in
    rw c.eq.ensures d
