use Rattle.modbus_server.proofs.listener.Server.serve_until.Goals as goal

pub returns-clause-serves : goal.returns-clause-serves
returns-clause-serves g c = rw (← c.self.view_is) c.accept_until.ensures.serves
