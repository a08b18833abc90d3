-- Devices of a line that is asked for no one who has waited too long.
use Rattle.std.specs.Prelude.{◌≡◌, ℕ, nat_lt, Bool, true, false, List, [], ◌∷◌, Option, Some, None}
use Rattle.std.specs.Duration.{as_nanos}
use Rattle.std.specs.Option.{option_map}
use Rattle.std.specs.Time.{instant_nanos}
use Rattle.std.specs.declared.time.Duration.{Duration}
use Rattle.std.specs.declared.time.Instant.{Instant}
use Rattle.modbus_link.specs.Memory.{next_count}
use Rattle.modbus_link.specs.Terminal.{nanos_between}
use Rattle.modbus_frame.specs.Meaning.{Asked}
use Rattle.modbus_frame.specs.declared.code.ExceptionCode.TheVariants.{ServerDeviceBusy}
use Rattle.modbus_service.specs.Answering.{Answering}
use Rattle.modbus_service.specs.Exchange.{Exchange, GivesOutcome, Run}
use Rattle.modbus_service.specs.Outcome.{Outcome, exception}
use Rattle.modbus_gateway.specs.Readings.{Reading, no_reading}

-- how many nanoseconds a request has waited that was read whole at the one time, and whose turn came at the other, where that is known
abbrev pub waited : Option Instant → Option Instant → Option ℕ
waited asked now = nanos_between (option_map instant_nanos asked) (option_map instant_nanos now)

-- so much time is more than the limit; it is not where it is not known
abbrev pub is_over : Duration → Option ℕ → Bool
is_over limit (Some passed) = nat_lt (as_nanos limit) passed
is_over limit None = false

-- a request waited for its turn longer than the limit
abbrev pub is_stale : Duration → Option Instant → Option Instant → Bool
is_stale limit asked now = is_over limit (waited asked now)

-- the devices, and what the clock told of the last request
pub record TimelyState (S : Type 0) : Type 0 where
  pub line : S
  pub limit : Duration
  -- when it was read whole, and when its turn came
  pub asked : Option Instant
  pub judged : Reading
  -- how often the clock was read as a turn came
  pub readings : ℕ

-- nothing was asked
abbrev pub timely_at_start : {S : Type 0} → S → Duration → TimelyState S
timely_at_start line limit = record { line = line; limit = limit; asked = None; judged = no_reading; readings = 0 }

-- the turn of a request came that was read whole at this time, and the clock told this
abbrev pub turned : {S : Type 0} → Option Instant → Reading → TimelyState S → TimelyState S
turned asked reading state = record state { asked = asked; judged = reading; readings = reading.number }

-- A stale request is answered by 06, and nothing is done; any other is forwarded.
abbrev pub GivesInTime : {S : Type 0} → Answering S → Bool → TimelyState S → ℕ → Asked → Outcome → TimelyState S → Type 0
GivesInTime A true old unit request outcome new = (outcome ≡ exception ServerDeviceBusy) × (new ≡ old)
GivesInTime A false old unit request outcome new = A.gives old.line unit request outcome new.line × (new ≡ record old { line = new.line })

-- memory is wanting for what is forwarded alone
abbrev pub WantsInTime : {S : Type 0} → Answering S → Bool → TimelyState S → ℕ → Asked → TimelyState S → Type 0
WantsInTime A true old unit request new = ⊥
WantsInTime A false old unit request new = A.wants old.line unit request new.line × (new ≡ record old { line = new.line })

-- The clock is read once as the turn of a request comes. By that, and by when the request was read whole, it is stale or not.
abbrev pub timely : {S : Type 0} → Answering S → Answering (TimelyState S)
timely A = record {
  gives = λ old unit request outcome new. (new.judged.number ≡ next_count old.readings)
      × GivesInTime A (is_stale old.limit new.asked new.judged.at) (turned new.asked new.judged old) unit request outcome new;
  wants = λ old unit request new. (new.judged.number ≡ next_count old.readings)
      × WantsInTime A (is_stale old.limit new.asked new.judged.at) (turned new.asked new.judged old) unit request new;
}

-- the exchanges of which the line had those that were not stale
abbrev pub WithFresh : {Header : Type 0} → Bool → Exchange Header → List (Exchange Header) → List (Exchange Header) → Type 0
WithFresh true x fresh rest = fresh ≡ rest
WithFresh false x fresh rest = fresh ≡ x ∷ rest

-- From one state to another over these exchanges, of which the line had these, in their order: those that were not stale by when each was
-- read whole and what the clock told as its turn came.
abbrev pub Passes : {Header S : Type 0} → (Header → ℕ) → Answering S → TimelyState S → List (Exchange Header) → List (Exchange Header) → TimelyState S → Type 0
Passes unit A start [] fresh last = (fresh ≡ []) × (last ≡ start)
Passes {Header} unit A start (x ∷ xs) fresh last = (next : _) × (rest : List (Exchange Header)) × GivesOutcome unit (timely A) start x next
    × WithFresh (is_stale start.limit next.asked next.judged.at) x fresh rest × Passes unit A next xs rest last

-- Whatever masters ask and however long they wait, the line has the requests that are not stale and no other, in their order. The limit stays.
abbrev pub TimelyRuns : (Header : Type 0) → {S : Type 0} → Answering S → Type 0
TimelyRuns Header {S} A =
    (unit : Header → ℕ) (start last : TimelyState S) (xs : List (Exchange Header))
    → Run unit (timely A) start xs last
    → (last.limit ≡ start.limit) × ((fresh : List (Exchange Header)) × Passes unit A start xs fresh last × Run unit A start.line fresh last.line)
