use Rattle.modbus_server.proofs.Completing.{goes_on, completes_after}
use Rattle.modbus_server.proofs.laws.polled_lines_are_served.Goals as goal

pub returns : goal.returns
returns g c = λ behind ends now first last result ran.
    completes_after g.I.Framing.framing g.V.Answerer.answering behind ends now first last result
    (goes_on g.I.Framing.framing c.laws.ensures.calm c.laws.ensures.next c.laws.ensures.used) ran
