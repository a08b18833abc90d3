-- What a call promises that looks at a signal to stop before each of its steps.
use Rattle.std.specs.Prelude.{◌≡◌, ℕ, zero, suc, ◌+◌, ◌<◌, ◌≤◌, List, [], length, Bool, true, false, Result, Ok, Err}
use Rattle.modbus_frame.specs.declared.server.Terminated.{Terminated}
use Rattle.modbus_frame.specs.declared.server.Terminated.TheVariants.{Finished, Aborted}
use Rattle.modbus_link.specs.declared.outside.Cut.{Cut}
use Rattle.modbus_link.specs.Outside.{Rose}
use Rattle.modbus_link.specs.Passes.{Passes}
use Rattle.modbus_link.specs.Reads.{totals, HaveRooms, some_turns, Spends}
use Rattle.modbus_service.specs.Answering.{Answering}
use Rattle.modbus_server.specs.declared.error.ProcessError.{ProcessError}
use Rattle.modbus_server.specs.declared.error.ProcessError.TheVariants.{NoMemory}
use Rattle.modbus_server.specs.Framing.{Framing}
use Rattle.modbus_server.specs.Exchanges.{Exchange, Run}
use Rattle.modbus_server.specs.Served.{past, Stands}
use Rattle.modbus_server.specs.Moment.{Moment, Watched, SignalMeaning}
use Rattle.modbus_server.specs.Step.{Ran}

-- so many looks at a signal, one after another, said that it is not set
abbrev pub StaysUnset : {X : Type 0} → (X → Bool → X → Type 0) → X → ℕ → X → Type 0
StaysUnset looks old zero new = new ≡ old
StaysUnset {X} looks old (suc count) new = (now : X) × StaysUnset looks old count now × looks now false new

-- after so many of them the next look said that it is set
abbrev pub IsSetAfter : {X : Type 0} → (X → Bool → X → Type 0) → X → ℕ → X → Type 0
IsSetAfter {X} looks old count new = (now : X) × StaysUnset looks old count now × looks now true new

-- What a call promises that was stopped between two steps. The service answered the first messages of the bytes that were fed, and
-- their replies were written whole. There was a step for each read that gave bytes and for each of these messages, with a look before
-- each and one more, the first that said that the signal is set.
pub record Stopped (F : Framing) {S X : Type 0} (A : Answering S) (signal : SignalMeaning X) (turns : ℕ) (before after : Watched S X) : Type 0 where
  pub fed : List ℕ
  pub made : List Cut
  pub sent : List ℕ
  pub passes : Passes before.moment.outside after.moment.outside fed made sent
  pub held : List ℕ
  pub exchanges : List (Exchange F)
  pub run : Run F A before.moment.service exchanges after.moment.service
  pub stands : Stands F (past fed (totals made) sent exchanges) held []
  pub rooms : HaveRooms F.HasRoom fed 0 made
  pub spends : Spends some_turns (length made) turns
  pub rose : Rose (signal.stops before.signal) (signal.stops after.signal)
  pub looked : IsSetAfter signal.looks before.signal (length made + length exchanges) after.signal

-- How often a call looked that was not stopped: before each read that gave bytes, each request that was answered, and the step at which
-- it ended. An error does not tell how many requests these were, and without memory there may have been no step.
abbrev pub LooksEach : {F : Framing} {S : Type 0} {A : Answering S} {turns : ℕ} {before after : Moment S} (result : Result (Unit {0}) ProcessError)
    → Ran F A turns before after result → ℕ → Type 0
LooksEach (Ok done) ran count = count ≡ length ran.made + length ran.served.exchanges + 1
LooksEach (Err NoMemory) ran count = length ran.made ≤ count
LooksEach (Err _) ran count = length ran.made < count

-- What a call promises that was not stopped: all that a call to the end promises. Each look said that the signal is not set.
pub record Unstopped (F : Framing) {S X : Type 0} (A : Answering S) (signal : SignalMeaning X) (turns : ℕ) (before after : Watched S X)
    (result : Result (Unit {0}) ProcessError) : Type 0 where
  pub ran : Ran F A turns before.moment after.moment result
  pub count : ℕ
  pub each : LooksEach result ran count
  pub looked : StaysUnset signal.looks before.signal count after.signal

-- what a call promises that may be stopped
abbrev pub RanUntil : (F : Framing) → {S X : Type 0} → Answering S → SignalMeaning X → ℕ → Watched S X → Watched S X → Result Terminated ProcessError → Type 0
RanUntil F A signal turns before after (Ok Aborted) = Stopped F A signal turns before after
RanUntil F A signal turns before after (Ok Finished) = Unstopped F A signal turns before after (Ok tt)
RanUntil F A signal turns before after (Err error) = Unstopped F A signal turns before after (Err error)

-- what a look at a signal says that is never set
abbrev pub never_set : Unit {0} → Bool → Unit {0} → Type 0
never_set old answer new = answer ≡ false

-- an answer as that of a call that is not stopped
abbrev pub to_the_end : Result Terminated ProcessError → Result (Unit {0}) ProcessError
to_the_end (Ok terminated) = Ok tt
to_the_end (Err error) = Err error
