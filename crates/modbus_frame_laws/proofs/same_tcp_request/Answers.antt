use Rattle.modbus_frame_laws.proofs.SameFrame.{tcp_requests_Decide}
use Rattle.modbus_frame_laws.proofs.same_tcp_request.Goals as goal

pub returns : goal.returns
returns c =
    let d = tcp_requests_Decide c.args.a.now c.args.b.now in
    rw c.eq.ensures d
