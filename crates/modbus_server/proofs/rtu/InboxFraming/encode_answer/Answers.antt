use Rattle.modbus_server.proofs.rtu.InboxFraming.encode_answer.Goals as goal

pub returns-clause-memory : goal.returns-clause-memory
returns-clause-memory c = c.encode_response_frame.ensures.longest
