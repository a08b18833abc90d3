use Rattle.modbus_frame_laws.proofs.SameFrame.{tcp_responses_Decide}
use Rattle.modbus_frame_laws.proofs.same_tcp_response.Goals as goal

pub returns : goal.returns
returns c =
    let d = tcp_responses_Decide c.args.a.now c.args.b.now in
    rw c.eq.ensures d
