-- Outcomes of calls, as data of the program.
use Rattle.std.specs.Prelude.{Option, Some, None, Result, Ok, Err}
use Rattle.modbus_frame.specs.declared.response.Response.{Response}
use Rattle.modbus_service.specs.Outcome as said
use Rattle.modbus_service.specs.declared.service.ServiceError.{ServiceError}
use Rattle.modbus_service.specs.declared.service.ServiceError.TheVariants as error
use Rattle.modbus_store.specs.declared.outcome.Outcome.{Outcome}
use Rattle.modbus_store.specs.declared.outcome.Outcome.TheVariants as outcome

abbrev pub outcome_of : Outcome → said.Outcome
outcome_of outcome.Silent = said.silence
outcome_of (outcome.Response response) = said.reply response
outcome_of (outcome.Exception code) = said.exception code

-- the answer of a service that has an outcome
abbrev pub result_of : Outcome → Result (Option Response) ServiceError
result_of outcome.Silent = Ok None
result_of (outcome.Response response) = Ok (Some response)
result_of (outcome.Exception code) = Err (error.Exception code)
