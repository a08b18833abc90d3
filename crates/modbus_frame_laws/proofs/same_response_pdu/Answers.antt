use Rattle.modbus_frame_laws.proofs.SameFrame.{response_pdus_Decide}
use Rattle.modbus_frame_laws.proofs.same_response_pdu.Goals as goal

pub returns : goal.returns
returns c =
    let d = response_pdus_Decide c.args.a.now c.args.b.now in
    rw c.eq.ensures d
