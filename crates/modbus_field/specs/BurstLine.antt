-- What a server of bursts promises of the bursts that it read.
use Rattle.std.specs.Prelude.{◌≡◌, ◌⊎◌, ℕ, ◌<◌, List, [], map, length, IsTrue, Result, Ok, Err}
use Rattle.modbus_link.specs.Outside.{Input, Output, Rose, bytes_read, cuts_made, bytes_appended}
use Rattle.modbus_link.specs.Reads.{totals}
use Rattle.modbus_service.specs.Answering.{Answering}
use Rattle.modbus_server.specs.declared.error.ProcessError.{ProcessError}
use Rattle.modbus_server.specs.declared.error.ProcessError.TheVariants.{TooManyRetries, BytesRemaining, InvalidRequest, InvalidLength, InvalidProtocol, NoMemory}
use Rattle.modbus_server.specs.Complete.{RepliesFit}
use Rattle.modbus_server.specs.Exchanges.{Exchange, Run, output, asked_of, asks}
use Rattle.modbus_server.specs.Moment.{Moment}
use Rattle.modbus_server.specs.Step.{Ran}
use Rattle.modbus_field.specs.Bursts.{Heard, messages}
use Rattle.modbus_field.specs.BurstFraming.{bursts}
use Rattle.modbus_field.specs.LineAnswers.{IsOfOwn}

-- the messages of the bursts that were read, where each read is a burst
abbrev pub messages_read : Input → Input → List Heard
messages_read from to = messages (bytes_read from to) (totals (cuts_made from to))

-- The input ended, and one run of the service was asked what each burst that was read says, message by message in order; what was appended
-- is exactly its answers to the last frame of each burst, each framed for the slave of that frame.
pub record AnswersBursts {S : Type 0} (A : Answering S) (before after : S) (from to : Input) (sunk sinks : Output) : Type 0 where
  pub exchanges : List (Exchange bursts)
  pub run : Run bursts A before exchanges after
  pub asked : map (asked_of bursts) (messages_read from to) ≡ map (asks bursts) exchanges
  pub wrote : bytes_appended sunk sinks ≡ output bursts exchanges
  pub ended : to.left ≡ []

-- A call of which each reply fits ends well, whatever bytes it reads and however they are cut, where neither the source nor the sink has a
-- fault, or memory is wanting.
abbrev pub ServesBursts : {S : Type 0} → Answering S → S → Input → Input → Output → Output → ℕ → Result (Unit {0}) ProcessError → Type 0
ServesBursts A opening from to sunk sinks turns result = IsTrue from.told → RepliesFit bursts A opening (messages_read from to)
    → length from.left < turns → (Rose from.faults to.faults → ⊥) → (Rose sunk.faults sinks.faults → ⊥) → (result ≡ Ok tt) ⊎ (result ≡ Err NoMemory)

-- The answers that a server of bursts never gives: bursts have no fault, none is left over, and each asks something.
abbrev pub IsOfNoBurst : ProcessError → Type 0
IsOfNoBurst TooManyRetries = Unit {0}
IsOfNoBurst BytesRemaining = Unit {0}
IsOfNoBurst (InvalidRequest reason) = Unit {0}
IsOfNoBurst InvalidLength = Unit {0}
IsOfNoBurst (InvalidProtocol protocol) = Unit {0}
IsOfNoBurst _ = ⊥

-- The run of a call is one of which all that was sent is framed for these addresses, whether the sink tells it or not.
abbrev pub SendsOwn : {S : Type 0} → Answering S → List ℕ → ℕ → Moment S → Moment S → Result (Unit {0}) ProcessError → Type 0
SendsOwn A own turns before after result = (ran : Ran bursts A turns before after result) × IsOfOwn own ran.sent
