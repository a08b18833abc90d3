use Rattle.modbus_server.proofs.tcp.AduBufferFraming.encode_answer.Goals as goal

pub returns-clause-memory : goal.returns-clause-memory
returns-clause-memory c = c.encode_response_adu.ensures.longest
