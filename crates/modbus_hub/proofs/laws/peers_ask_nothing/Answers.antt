use Rattle.modbus_link.specs.Line.{meaning_of}
use Rattle.modbus_hub.specs.Seats.{polled_by}
use Rattle.modbus_hub.proofs.Seating.{seated_aside}
use Rattle.modbus_hub.proofs.laws.peers_ask_nothing.Goals as goal

pub returns : goal.returns
returns g c = λ start service reads history more old new all none stand.
    seated_aside g.I.Framing.framing g.V.Answerer.answering (polled_by (meaning_of g.L.Ends.input g.L.Ends.output g.L.Ends.line) g.L.PolledLink.not_ready reads)
    start service history more old new all none stand
