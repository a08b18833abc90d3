use Rattle.modbus_server.proofs.listener.Server.serve.Goals as goal

pub returns-clause-serves : goal.returns-clause-serves
returns-clause-serves g c = rw (← c.self.view_is) c.serve_acceptor.ensures.serves
