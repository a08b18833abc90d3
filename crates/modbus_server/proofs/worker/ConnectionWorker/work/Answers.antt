use Rattle.modbus_server.proofs.worker.ConnectionWorker.work.Goals as goal

pub returns-clause-complete : goal.returns-clause-complete
returns-clause-complete g c = rw (← c.self.view_is) c.serve_until.ensures.complete
