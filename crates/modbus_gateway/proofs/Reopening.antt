-- A request on a line that is opened anew where it broke.
use Rattle.std.proofs.Common.{◌≡◌, ℕ, Bool, Option, Some, None, Result, Ok, Err}
use Rattle.modbus_frame.specs.Meaning.{Asked}
use Rattle.modbus_frame.specs.declared.response.Response.{Response}
use Rattle.modbus_service.specs.declared.service.ServiceError.{ServiceError}
use Rattle.modbus_service.specs.declared.service.ServiceError.TheVariants.{Exception, NoMemory}
use Rattle.modbus_service.specs.Answering.{Answering, Keeps}
use Rattle.std.specs.Option.{is_some}
use Rattle.modbus_gateway.specs.Told.{line_change, TellsIf}
use Rattle.modbus_gateway.specs.Reopened.{ReopenedState, Reopening, OpensIfNone, if_open, left_of, reopened}

pub keeps_reopened : {O W L : Type 0} (by : Reopening O W L) (A : Answering L) (old new : ReopenedState O W L) (line after : Option L) (told : W) (unit : ℕ) (request : Asked) (result : Result (Option Response) ServiceError)
    → OpensIfNone by.opens old.opener old.line new.opener line → TellsIf by.tells (line_change (is_some old.line) (is_some line)) old.watcher told
    → Keeps (if_open A) line unit request result after → new.line ≡ left_of by.broken after
    → TellsIf by.tells (line_change (is_some after) (is_some new.line)) told new.watcher → Keeps (reopened by A) old unit request result new
keeps_reopened by A old new line after told unit request (Ok None) opens back keeps left lost =
    record { line = line; after = after; told = told; opens = opens; tells_back = back; forwarded = keeps; left = left; tells_lost = lost }
keeps_reopened by A old new line after told unit request (Ok (Some response)) opens back keeps left lost =
    record { line = line; after = after; told = told; opens = opens; tells_back = back; forwarded = keeps; left = left; tells_lost = lost }
keeps_reopened by A old new line after told unit request (Err (Exception code)) opens back keeps left lost =
    record { line = line; after = after; told = told; opens = opens; tells_back = back; forwarded = keeps; left = left; tells_lost = lost }
keeps_reopened by A old new line after told unit request (Err NoMemory) opens back keeps left lost =
    record { line = line; after = after; told = told; opens = opens; tells_back = back; forwarded = keeps; left = left; tells_lost = lost }
