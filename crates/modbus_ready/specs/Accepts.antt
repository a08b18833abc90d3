-- What acceptors that never wait count, and what one in memory keeps.
use Rattle.std.specs.Prelude.{◌≡◌, ◌⊎◌, ℕ, Bool, false, List, [], ◌∷◌, Result, Ok, Err}
use Rattle.modbus_link.specs.declared.outside.Failed.{Failed}
use Rattle.modbus_link.specs.declared.polled.Polled.{Polled}
use Rattle.modbus_link.specs.declared.polled.Polled.TheVariants.{Ready, Pending}
use Rattle.modbus_link.specs.Memory.{next_count, faults_after}
use Rattle.modbus_link.specs.Listens.{Tally, tally_at_start}

-- the count of links after a poll with this answer
abbrev pub given_by : {T E : Type 0} → Result (Polled T) E → ℕ → ℕ
given_by (Ok (Ready link)) given = next_count given
given_by (Ok Pending) given = given
given_by (Err error) given = given

-- both counts after such a poll
abbrev pub tally_by : {T E : Type 0} → Result (Polled T) E → Tally → Tally
tally_by result tally = record { given = given_by result tally.given; faults = faults_after result tally.faults }

-- an acceptor over TCP: what it counts, and whether its last poll failed since the process has as many files open as it may
pub record TcpAcceptorState : Type 0 where
  pub tally : Tally
  pub lacks_files : Bool

-- one that was never asked
abbrev pub tcp_acceptor_at_start : TcpAcceptorState
tcp_acceptor_at_start = record { tally = tally_at_start; lacks_files = false }

-- an acceptor in memory of links of this type
pub record ScheduleState (L : Type 0) : Type 0 where
  -- the answers of its next polls
  pub answers : List (Result (Polled L) Failed)
  pub tally : Tally

-- one that was not polled yet
abbrev pub schedule_at_start : {L : Type 0} → List (Result (Polled L) Failed) → ScheduleState L
schedule_at_start answers = record { answers = answers; tally = tally_at_start }

-- it gives the next of its answers, and where none is left nobody waits
pub record AcceptsBySchedule {L : Type 0} (old : ScheduleState L) (result : Result (Polled L) Failed) (new : ScheduleState L) : Type 0 where
  pub answer : (old.answers ≡ result ∷ new.answers) ⊎ ((old.answers ≡ []) × (new.answers ≡ []) × (result ≡ Ok Pending))
  pub counts : new.tally ≡ tally_by result old.tally
