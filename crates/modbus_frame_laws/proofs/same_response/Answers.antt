use Rattle.modbus_frame_laws.proofs.SameAnswer.{responses_Decide}
use Rattle.modbus_frame_laws.proofs.same_response.Goals as goal

pub returns : goal.returns
returns c =
    let d = responses_Decide c.args.a.now c.args.b.now in
    rw c.eq.ensures d
