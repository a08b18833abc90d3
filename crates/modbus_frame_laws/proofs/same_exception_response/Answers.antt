use Rattle.modbus_frame_laws.proofs.SameAnswer.{refusals_Decide}
use Rattle.modbus_frame_laws.proofs.same_exception_response.Goals as goal

pub returns : goal.returns
returns c =
    let d = refusals_Decide c.args.a.now c.args.b.now in
    rw c.eq.ensures d
