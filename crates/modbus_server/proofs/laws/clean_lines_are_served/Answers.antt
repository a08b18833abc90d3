use Rattle.modbus_server.proofs.Completing.{goes_on, completes}
use Rattle.modbus_server.proofs.laws.clean_lines_are_served.Goals as goal

pub returns : goal.returns
returns g c = λ turns before after result ran.
    completes g.I.Framing.framing g.V.Answerer.answering turns before after result
    (goes_on g.I.Framing.framing c.laws.ensures.calm c.laws.ensures.next c.laws.ensures.used) ran
