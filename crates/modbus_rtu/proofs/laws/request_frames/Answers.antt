use Rattle.std.proofs.Common.{map}
use Rattle.modbus_pdu.specs.SlavePdu.{message_of}
use Rattle.modbus_rtu.proofs.Framed.{stream_read, stream_quiet}
use Rattle.modbus_rtu.proofs.RequestFrames.{request_has_head, requests_have_heads}
use Rattle.modbus_rtu.proofs.laws.request_frames.Goals as goal

pub returns-clause-heads : goal.returns-clause-heads
returns-clause-heads c = request_has_head c.requests_have_sizes.ensures

pub returns-clause-alone : goal.returns-clause-alone
returns-clause-alone c = λ asked are. stream_read (map message_of asked) (requests_have_heads c.requests_have_sizes.ensures asked are)

pub returns-clause-quiet : goal.returns-clause-quiet
returns-clause-quiet c = λ asked are. stream_quiet (map message_of asked) (requests_have_heads c.requests_have_sizes.ensures asked are)
