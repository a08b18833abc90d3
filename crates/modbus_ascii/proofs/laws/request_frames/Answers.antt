use Rattle.std.proofs.Common.{sym, map}
use Rattle.modbus_pdu.specs.SlavePdu.{message_of}
use Rattle.modbus_ascii.proofs.Alone.{stream-delivers}
use Rattle.modbus_ascii.proofs.Asking.{framed-ask, framed-all}
use Rattle.modbus_ascii.proofs.laws.request_frames.Goals as goal

pub returns-clause-framed : goal.returns-clause-framed
returns-clause-framed c = framed-ask c.requests_have_sizes.ensures

pub returns-clause-alone : goal.returns-clause-alone
returns-clause-alone c = λ asked all.
    let d = stream-delivers (map message_of asked) (framed-all c.requests_have_sizes.ensures asked all) in
    (sym d.0, d.1)
