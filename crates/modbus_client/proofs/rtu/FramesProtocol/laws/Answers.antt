use Rattle.modbus_client.proofs.OneFrame.{one_frame}
use Rattle.modbus_client.proofs.FrameAlone.{frame_alone}
use Rattle.modbus_client.proofs.rtu.FramesProtocol.laws.Goals as goal

pub returns-clause-one_way : goal.returns-clause-one_way
returns-clause-one_way c = λ asked. one_frame

pub returns-clause-alone : goal.returns-clause-alone
returns-clause-alone c = frame_alone c.responses_in_pieces.ensures.frame c.responses_in_pieces.ensures.front
