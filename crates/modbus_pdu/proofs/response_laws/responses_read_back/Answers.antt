use Rattle.modbus_pdu.proofs.ResponsesBack.{again, result_again, exception_again}
use Rattle.modbus_pdu.proofs.response_laws.responses_read_back.Goals as goal

pub returns-clause-response : goal.returns-clause-response
returns-clause-response c = again

pub returns-clause-result : goal.returns-clause-result
returns-clause-result c = result_again

pub returns-clause-exception : goal.returns-clause-exception
returns-clause-exception c = exception_again
