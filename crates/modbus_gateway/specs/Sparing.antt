-- Devices of a line of which a dead one does not hold up who asks the others: what its masters would wait for is spared.
use Rattle.std.specs.Prelude.{◌≡◌, ℕ, ◌+◌, ◌<◌, ◌==◌, nat_lt, nat_le, Bool, true, false, not, ◌&&◌, if◌then◌else◌, List, [], ◌∷◌, length, replicate, slice_get, slice_set, unwrap_or, Option, Some, None, Result, Ok, Err}
use Rattle.std.specs.Duration.{as_nanos}
use Rattle.std.specs.Option.{option_map}
use Rattle.std.specs.Time.{instant_nanos}
use Rattle.std.specs.declared.time.Instant.{Instant}
use Rattle.modbus_link.specs.Memory.{next_count}
use Rattle.modbus_link.specs.Terminal.{nanos_between}
use Rattle.modbus_frame.specs.Meaning.{Asked}
use Rattle.modbus_frame.specs.declared.code.ExceptionCode.{ExceptionCode}
use Rattle.modbus_frame.specs.declared.code.ExceptionCode.TheVariants.{GatewayPathUnavailable, GatewayTargetDevice}
use Rattle.modbus_frame.specs.declared.response.Response.{Response}
use Rattle.modbus_service.specs.declared.service.ServiceError.{ServiceError}
use Rattle.modbus_service.specs.declared.service.ServiceError.TheVariants.{Exception, NoMemory}
use Rattle.modbus_service.specs.Answering.{Answering}
use Rattle.modbus_service.specs.Exchange.{Exchange, GivesOutcome, Run}
use Rattle.modbus_service.specs.Outcome.{Outcome, silence, reply, exception}
use Rattle.modbus_gateway.specs.declared.standing.SparingLimits.{SparingLimits}
use Rattle.modbus_gateway.specs.declared.standing.Standing.{Standing}
use Rattle.modbus_gateway.specs.declared.standing.Sign.{Sign}
use Rattle.modbus_gateway.specs.declared.standing.Sign.TheVariants.{Missed, Answered, Nothing}
use Rattle.modbus_gateway.specs.declared.watcher.LineChange.{LineChange}
use Rattle.modbus_gateway.specs.Told.{slave_change, TellsIf}
use Rattle.modbus_gateway.specs.Readings.{Reading, no_reading}

-- the limits, where no number of exchanges stands for 1
abbrev pub at_least_one : SparingLimits → SparingLimits
at_least_one limits = record limits { misses = if limits.misses == 0 then 1 else limits.misses }

-- of a slave whose last exchange ended with another answer than 0B, or which was not asked
abbrev pub alive : Standing
alive = record { missed = 0; since = None }

-- what an answer shows of the slave: 0B that it did not respond, 0A nothing, as there was no line to ask it on; any other that it answered
abbrev pub sign_of_code : ExceptionCode → Sign
sign_of_code GatewayTargetDevice = Missed
sign_of_code GatewayPathUnavailable = Nothing
sign_of_code _ = Answered

abbrev pub sign_of : Outcome → Sign
sign_of silence = Answered
sign_of (reply response) = Answered
sign_of (exception code) = sign_of_code code

-- the same, by what was told; nothing where memory was refused
abbrev pub sign_of_answer : Result (Option Response) ServiceError → Sign
sign_of_answer (Ok response) = Answered
sign_of_answer (Err (Exception code)) = sign_of_code code
sign_of_answer (Err NoMemory) = Nothing

-- how many exchanges ended with 0B, after one more: no more are counted than make a slave dead
abbrev pub counted_up : ℕ → ℕ → ℕ
counted_up most missed = if nat_lt missed most then missed + 1 else missed

-- one more exchange with a slave ended with 0B, at this time
abbrev pub missed_once_more : SparingLimits → Standing → Option Instant → Standing
missed_once_more limits slave at = record { missed = counted_up limits.misses slave.missed; since = at }

-- how many nanoseconds ago the last exchange with a slave ended with 0B, where that is known
abbrev pub ago : Standing → Option Instant → Option ℕ
ago slave now = nanos_between (option_map instant_nanos slave.since) (option_map instant_nanos now)

-- so much time is less than a dead slave is spared for; it is not where it is not known
abbrev pub is_soon : SparingLimits → Option ℕ → Bool
is_soon limits (Some passed) = nat_lt passed (as_nanos limits.retry)
is_soon limits None = false

-- as many exchanges with a slave in a row ended with 0B as make it dead
abbrev pub is_dead : SparingLimits → Standing → Bool
is_dead limits slave = nat_le limits.misses slave.missed

-- a slave is dead, and the last exchange with it ended a short time before now
abbrev pub is_out : SparingLimits → Standing → Option Instant → Bool
is_out limits slave now = is_dead limits slave && is_soon limits (ago slave now)

-- who is told what changes, the devices, and for each address what is kept of its slave
pub record SparingState (W S : Type 0) : Type 0 where
  pub watcher : W
  pub line : S
  pub limits : SparingLimits
  pub slaves : List Standing
  -- what the clock told before the last request, and after the last exchange that ended with 0B
  pub judged : Reading
  pub ended : Reading
  -- how often the clock was read
  pub readings : ℕ

-- no slave was asked
abbrev pub sparing_at_start : {W S : Type 0} → W → S → SparingLimits → SparingState W S
sparing_at_start watcher line limits = record {
  watcher = watcher;
  line = line;
  limits = at_least_one limits;
  slaves = replicate 256 alive;
  judged = no_reading;
  ended = no_reading;
  readings = 0;
}

-- what is kept of the slave of an address
abbrev pub slave_at : {W S : Type 0} → SparingState W S → ℕ → Standing
slave_at state unit = unwrap_or (slice_get state.slaves unit) alive

abbrev pub is_dead_in : {W S : Type 0} → SparingState W S → ℕ → Bool
is_dead_in state unit = is_dead state.limits (slave_at state unit)

-- A request for a unit is spared, where the clock tells this. A broadcast never is.
abbrev pub is_spared : {W S : Type 0} → SparingState W S → ℕ → Option Instant → Bool
is_spared state unit now = not (unit == 0) && is_out state.limits (slave_at state unit) now

-- the clock was read for a request, and told this
abbrev pub judged_by : {W S : Type 0} → Reading → SparingState W S → SparingState W S
judged_by reading state = record state { judged = reading; readings = reading.number }

-- What is kept after an exchange with a slave: where it did not respond the clock is read once more, and one more is counted; an answer
-- makes the slave alive.
abbrev pub KeepsEnd : {W S : Type 0} → Sign → SparingState W S → ℕ → SparingState W S → Type 0
KeepsEnd Missed old unit new = (new.ended.number ≡ next_count old.readings) × (new ≡ record old {
  slaves = slice_set old.slaves unit (missed_once_more old.limits (slave_at old unit) new.ended.at);
  ended = new.ended;
  readings = new.ended.number;
})
KeepsEnd Answered old unit new = new ≡ record old { slaves = slice_set old.slaves unit alive }
KeepsEnd Nothing old unit new = new ≡ old

-- The same, and what is told: where a slave became dead, or was dead and is alive, that is told once, and nothing else is.
abbrev pub KeepsTold : {W S : Type 0} → (W → LineChange → W → Type 0) → Sign → SparingState W S → ℕ → SparingState W S → Type 0
KeepsTold tells sign old unit new = KeepsEnd sign old unit (record new { watcher = old.watcher })
    × TellsIf tells (slave_change unit (is_dead_in old unit) (is_dead_in new unit)) old.watcher new.watcher

-- What one request does behind the reading of the clock, where it is spared or not: a spared one is answered by 0B, and nothing is done;
-- any other is forwarded, how it ended is kept, and what changed is told.
abbrev pub GivesJudged : {W S : Type 0} → (W → LineChange → W → Type 0) → Answering S → Bool → SparingState W S → ℕ → Asked → Outcome → SparingState W S → Type 0
GivesJudged tells A true old unit request outcome new = (outcome ≡ exception GatewayTargetDevice) × (new ≡ old)
GivesJudged tells A false old unit request outcome new =
    A.gives old.line unit request outcome new.line × KeepsTold tells (sign_of outcome) (record old { line = new.line }) unit new

-- memory is wanting for what is forwarded alone, and shows nothing of the slave
abbrev pub WantsJudged : {W S : Type 0} → (W → LineChange → W → Type 0) → Answering S → Bool → SparingState W S → ℕ → Asked → SparingState W S → Type 0
WantsJudged tells A true old unit request new = ⊥
WantsJudged tells A false old unit request new = A.wants old.line unit request new.line × KeepsTold tells Nothing (record old { line = new.line }) unit new

-- The clock is read once for each request, and by what it told the request is spared or not.
abbrev pub sparing : {W S : Type 0} → (W → LineChange → W → Type 0) → Answering S → Answering (SparingState W S)
sparing tells A = record {
  gives = λ old unit request outcome new. (new.judged.number ≡ next_count old.readings)
      × GivesJudged tells A (is_spared old unit new.judged.at) (judged_by new.judged old) unit request outcome new;
  wants = λ old unit request new. (new.judged.number ≡ next_count old.readings)
      × WantsJudged tells A (is_spared old unit new.judged.at) (judged_by new.judged old) unit request new;
}

-- the exchanges of which the line had those that were not spared
abbrev pub WithAsked : {Header : Type 0} → Bool → Exchange Header → List (Exchange Header) → List (Exchange Header) → Type 0
WithAsked true x asked rest = asked ≡ rest
WithAsked false x asked rest = asked ≡ x ∷ rest

-- From one state to another over these exchanges, of which the line had these, in their order: those that were not spared by what the clock
-- told before each.
abbrev pub Spares : {Header W S : Type 0} → (Header → ℕ) → (W → LineChange → W → Type 0) → Answering S → SparingState W S → List (Exchange Header) → List (Exchange Header) → SparingState W S → Type 0
Spares unit tells A start [] asked last = (asked ≡ []) × (last ≡ start)
Spares {Header} unit tells A start (x ∷ xs) asked last = (next : _) × (rest : List (Exchange Header)) × GivesOutcome unit (sparing tells A) start x next
    × WithAsked (is_spared start (unit x.header) next.judged.at) x asked rest × Spares unit tells A next xs rest last

-- how many exchanges with a slave ended with 0B in a row, up to this most, after these exchanges of the line and so many before them; one that
-- shows nothing of the slave is passed over
abbrev pub counted_by : ℕ → ℕ → Sign → ℕ
counted_by most missed Missed = counted_up most missed
counted_by most missed Answered = 0
counted_by most missed Nothing = missed

abbrev pub missed_in_a_row : {Header : Type 0} → (Header → ℕ) → ℕ → ℕ → ℕ → List (Exchange Header) → ℕ
missed_in_a_row unit slave most missed [] = missed
missed_in_a_row unit slave most missed (x ∷ xs) =
    missed_in_a_row unit slave most (if unit x.header == slave then counted_by most missed (sign_of x.outcome) else missed) xs

-- Whatever masters ask, the line has the requests that are not spared and no other, in their order.
abbrev pub SparingRuns : (Header : Type 0) → {W S : Type 0} → (W → LineChange → W → Type 0) → Answering S → Type 0
SparingRuns Header {W} {S} tells A =
    (unit : Header → ℕ) (start last : SparingState W S) (xs : List (Exchange Header))
    → Run unit (sparing tells A) start xs last
    → (asked : List (Exchange Header)) × Spares unit tells A start xs asked last × Run unit A start.line asked last.line

-- What is kept of a slave counts the exchanges that the line had: it is how many with this slave ended with 0B in a row. So a slave is
-- spared only where its last exchanges, as many as make it dead, ended so.
abbrev pub SparingCounts : (Header : Type 0) → {W S : Type 0} → (W → LineChange → W → Type 0) → Answering S → Type 0
SparingCounts Header {W} {S} tells A =
    (unit : Header → ℕ) (slave : ℕ) (start last : SparingState W S) (xs asked : List (Exchange Header))
    → Spares unit tells A start xs asked last → slave < length start.slaves
    → (slave_at last slave).missed ≡ missed_in_a_row unit slave start.limits.misses (slave_at start slave).missed asked
