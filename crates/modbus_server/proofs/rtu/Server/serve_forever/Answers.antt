use Rattle.modbus_server.proofs.rtu.Server.serve_forever.Goals as goal

pub returns-clause-complete : goal.returns-clause-complete
returns-clause-complete g c = rw (← c.self.view_is) c.process_link.ensures.complete
