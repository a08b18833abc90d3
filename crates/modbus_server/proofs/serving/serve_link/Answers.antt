use Rattle.modbus_server.proofs.serving.serve_link.Goals as goal

pub returns-in-Err-clause-ran : goal.returns-in-Err-clause-ran
returns-in-Err-clause-ran g c = c.in-Err.ensures.ran.ran
