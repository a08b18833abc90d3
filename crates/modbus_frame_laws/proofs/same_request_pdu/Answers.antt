use Rattle.modbus_frame_laws.proofs.SameFrame.{request_pdus_Decide}
use Rattle.modbus_frame_laws.proofs.same_request_pdu.Goals as goal

pub returns : goal.returns
returns c =
    let d = request_pdus_Decide c.args.a.now c.args.b.now in
    rw c.eq.ensures d
