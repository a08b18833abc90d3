use Rattle.modbus_frame_laws.proofs.SameAnswer.{identifications_Decide}
use Rattle.modbus_frame_laws.proofs.same_identification.Goals as goal

pub returns : goal.returns
returns c =
    let d = identifications_Decide c.args.a.now c.args.b.now in
    rw c.eq.ensures d
