use Rattle.modbus_server.proofs.Polling.{runs_whole, unlimited, unlimited_waits}
use Rattle.modbus_server.proofs.polled.PolledProcess.poll.Goals as goal

pub without_limit-requires : goal.without_limit-requires
without_limit-requires g c = λ e. c.poll_connection-turn.ensures.0.spent e

pub returns-clause-polled : goal.returns-clause-polled
returns-clause-polled g c = rw (← c.self.view_is, c.without_limit.ensures) (unlimited g.I.Framing.framing g.V.Answerer.answering _ _ _ _ _ c.poll_connection-turn.ensures.0)

pub returns-clause-waits : goal.returns-clause-waits
returns-clause-waits g c =
    rw (c.without_limit.ensures) (unlimited_waits g.I.Framing.framing g.V.Answerer.answering _ _ _ (λ e. c.poll_connection-turn.ensures.0.spent e) c.poll_connection-turn.ensures.1)

pub returns-clause-ran : goal.returns-clause-ran
returns-clause-ran g c =
    rw (← c.self.view_is, c.without_limit.ensures) (runs_whole g.I.Framing.framing g.V.Answerer.answering _ _ _ _ c.clean_lines_are_served.ensures _ c.poll_connection-turn.ensures.0.polls)
