use Rattle.modbus_field.proofs.burst.bursts.BurstsFraming.encode_answer.Goals as goal

pub returns-then-is_answered-clause-memory : goal.returns-then-is_answered-clause-memory
returns-then-is_answered-clause-memory c = c.encode_response_frame.ensures.longest
