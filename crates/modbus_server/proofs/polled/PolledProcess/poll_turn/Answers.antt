use Rattle.modbus_server.proofs.Polling.{runs_whole}
use Rattle.modbus_server.proofs.polled.PolledProcess.poll_turn.Goals as goal

pub returns-clause-ran : goal.returns-clause-ran
returns-clause-ran g c = rw (← c.self.view_is) (runs_whole g.I.Framing.framing g.V.Answerer.answering _ _ _ _ c.clean_lines_are_served.ensures _ c.poll_connection.ensures.0.polls)
