use Rattle.modbus_ascii.specs.Frames.{frames}
use Rattle.modbus_ascii.specs.OpenFrames.{open_frame}
use Rattle.modbus_ascii_client.proofs.Finding.{first-is, waits-for, few-held, not-broken}
use Rattle.modbus_ascii_client.proofs.laws.replies_are_first_frames.Goals as goal

pub returns-clause-first : goal.returns-clause-first
returns-clause-first c = λ asked bytes cuts held pdu header e. first-is asked.slave_id (open_frame bytes) held pdu header (frames bytes) e

pub returns-clause-none : goal.returns-clause-none
returns-clause-none c = λ asked bytes cuts held e. (waits-for asked.slave_id (open_frame bytes) held (frames bytes) e).0

pub returns-clause-few : goal.returns-clause-few
returns-clause-few c = λ asked bytes cuts held e. few-held asked.slave_id bytes held e

pub returns-clause-whole : goal.returns-clause-whole
returns-clause-whole c = λ asked bytes cuts held fault e. not-broken asked.slave_id (open_frame bytes) held fault (frames bytes) e
