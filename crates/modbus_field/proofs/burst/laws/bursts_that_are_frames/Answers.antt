use Rattle.modbus_field.proofs.Framed.{frames_are, frame_said}
use Rattle.modbus_field.proofs.burst.laws.bursts_that_are_frames.Goals as goal

pub returns-clause-frames : goal.returns-clause-frames
returns-clause-frames c = frames_are

pub returns-clause-messages : goal.returns-clause-messages
returns-clause-messages c = frame_said
