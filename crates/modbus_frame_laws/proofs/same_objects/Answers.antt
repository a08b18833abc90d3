use Rattle.std.proofs.lemmas.Slice.Eq.{slice_eq-Decides}
use Rattle.modbus_frame_laws.proofs.Same.{objects_Decide}
use Rattle.modbus_frame_laws.proofs.same_objects.Goals as goal

pub returns : goal.returns
returns c = slice_eq-Decides objects_Decide _ _ _ c.eq.ensures
