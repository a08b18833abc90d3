use Rattle.modbus_field.proofs.stream.buffer.StreamBufferFraming.encode_answer.Goals as goal

pub returns-clause-memory : goal.returns-clause-memory
returns-clause-memory c = c.encode_response_adu.ensures.longest
