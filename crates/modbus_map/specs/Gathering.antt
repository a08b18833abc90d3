-- The poll of a device: the reads of its four tables, and the value of each point among what they gave (Modbus Application Protocol V1.1b3,
-- sections 4.3 and 6.1 to 6.4).
use Rattle.std.specs.Prelude.{◌≡◌, ℕ, ◌+◌, ◌-◌, nat_le, Bool, true, false, List, [], ◌∷◌, length, map, filter, take, drop, slice_get, position, Option, Some, None, Result, Ok, Err, if◌then◌else◌}
use Rattle.std.specs.Option.{option_map}
use Rattle.modbus_frame.specs.Meaning.{Asked}
use Rattle.modbus_frame.specs.declared.code.ExceptionCode.{ExceptionCode}
use Rattle.modbus_client.specs.Matches.{Answer}
use Rattle.modbus_poll.specs.declared.read.Read.{Read}
use Rattle.modbus_poll.specs.declared.span.Span.{Span}
use Rattle.modbus_poll.specs.declared.span.Limits.{Limits}
use Rattle.modbus_poll.specs.Spans.{is_within}
use Rattle.modbus_poll.specs.SpanPlans.{IsPlanWithin, FollowWithin}
use Rattle.modbus_pdu.specs.Limits.{max_read_coils}
use Rattle.modbus_map.specs.declared.kind.Table.{Table}
use Rattle.modbus_map.specs.declared.kind.Table.TheVariants.{Coils, DiscreteInputs, InputRegisters, HoldingRegisters}
use Rattle.modbus_map.specs.declared.point.Encoding.{Encoding}
use Rattle.modbus_map.specs.declared.point.Point.{Point}
use Rattle.modbus_map.specs.declared.value.PointValue.{PointValue}
use Rattle.modbus_map.specs.declared.given.Given.{Given}
use Rattle.modbus_map.specs.declared.tables.Tables.{Tables}
use Rattle.modbus_map.specs.Kinds.{width}
use Rattle.modbus_map.specs.Values.{value}
use Rattle.modbus_poll.specs.declared.polling.PollError.{PollError}
use Rattle.modbus_map.specs.declared.gathering.TableError.{TableError}
use Rattle.modbus_map.specs.Asking.{AsksTable, ReadsAll, Stops}

-- the registers or the bit of a point
abbrev pub span_of : Point → Span
span_of point = record { address = point.address; count = width point.encoding.kind }

-- a point lies in this table
abbrev pub is_in : Table → Table → Bool
is_in Coils Coils = true
is_in DiscreteInputs DiscreteInputs = true
is_in InputRegisters InputRegisters = true
is_in HoldingRegisters HoldingRegisters = true
is_in table other = false

-- the spans of the points in a table, in the order of the points
abbrev pub spans_in : Table → List Point → List Span
spans_in table points = map span_of (filter (λ point. is_in table point.table) points)

-- what the words of a read make of a point: the value of those at its place, where there are so many
abbrev pub value_of_words : Point → ℕ → List ℕ → Option PointValue
value_of_words point start words =
    if nat_le (start + width point.encoding.kind) (length words)
    then Some (value point.encoding (take (width point.encoding.kind) (drop start words))) else None

-- what a read that has the point gives of it: its value, or the exception
abbrev pub value_given : Point → Given → Option (Result PointValue ExceptionCode)
value_given point given = elim given.words [
  | Ok words ↦ option_map (λ found. Ok found) (value_of_words point (point.address - given.read.address) words)
  | Err code ↦ Some (Err code)
]

-- what the read at this place gives of a point; none where there is none
abbrev pub value_at : Point → List Given → Option ℕ → Option (Result PointValue ExceptionCode)
value_at point given None = None
value_at point given (Some place) = elim (slice_get given place) [ None ↦ None | Some one ↦ value_given point one ]

-- What the reads of its table give of a point: the first of them that has it decides. None where none has it.
abbrev pub value_among : List Given → Point → Option (Result PointValue ExceptionCode)
value_among given point = value_at point given (position (λ (one : Given). is_within (span_of point) one.read) given)

-- what there is of a table
abbrev pub of_table : {A : Type 0} → Tables A → Table → A
of_table tables Coils = tables.coils
of_table tables DiscreteInputs = tables.discrete_inputs
of_table tables InputRegisters = tables.input_registers
of_table tables HoldingRegisters = tables.holding_registers

-- what one read of bits may give, by the limits of a device, which are told for registers (sections 6.1 and 6.2)
abbrev pub bits_of : Limits → Limits
bits_of limits = record { most = max_read_coils; gap = limits.gap }

-- The plan of a table: reads within the limits that give each of these spans. Each begins where a span does that no earlier one gives, goes on as
-- far as the limits allow, and has no more in a row that no span names than the gap.
abbrev pub IsTablePlan : Limits → List Span → List Read → Type 0
IsTablePlan limits spans plan = IsPlanWithin limits spans plan × FollowWithin limits spans [] plan

-- the plans of a device: of each table, the reads within its limits that give its points
pub record PlansDevice (limits : Limits) (points : List Point) (plans : Tables (List Read)) : Type 0 where
  pub coils : IsTablePlan (bits_of limits) (spans_in Coils points) plans.coils
  pub discrete_inputs : IsTablePlan (bits_of limits) (spans_in DiscreteInputs points) plans.discrete_inputs
  pub input_registers : IsTablePlan limits (spans_in InputRegisters points) plans.input_registers
  pub holding_registers : IsTablePlan limits (spans_in HoldingRegisters points) plans.holding_registers

-- The reads of the tables were made, one table after another, each read once.
pub record GathersAll {S : Type 0} (answers : S → Asked → Answer → S → Type 0) (old : S) (plans : Tables (List Read)) (found : Tables (List Given)) (new : S) : Type 0 where
  pub first : S
  pub second : S
  pub third : S
  pub coils : ReadsAll (AsksTable answers Coils) old plans.coils found.coils first
  pub discrete_inputs : ReadsAll (AsksTable answers DiscreteInputs) first plans.discrete_inputs found.discrete_inputs second
  pub input_registers : ReadsAll (AsksTable answers InputRegisters) second plans.input_registers found.input_registers third
  pub holding_registers : ReadsAll (AsksTable answers HoldingRegisters) third plans.holding_registers found.holding_registers new

-- what a client may answer, and be then, where it is asked so
abbrev pub Answering : Type 0 → Type 1
Answering S = S → Asked → Answer → S → Type 0

-- the reads of a table were made, each once
abbrev pub ReadsTable : {S : Type 0} → Answering S → Table → S → Tables (List Read) → S → Type 0
ReadsTable answers table old plans new =
    (found : List Given) × ReadsAll (AsksTable answers table) old (of_table plans table) found new

-- the reads of the coils were made, and then those of the discrete inputs
abbrev pub ReadsBits : {S : Type 0} → Answering S → S → Tables (List Read) → S → Type 0
ReadsBits {S} answers old plans new =
    (middle : S) × ReadsTable answers Coils old plans middle × ReadsTable answers DiscreteInputs middle plans new

-- the reads of the tables before this one were made, one table after another, each read once
abbrev pub ReadsBefore : {S : Type 0} → Answering S → Table → S → Tables (List Read) → S → Type 0
ReadsBefore answers Coils old plans new = new ≡ old
ReadsBefore answers DiscreteInputs old plans new = ReadsTable answers Coils old plans new
ReadsBefore answers InputRegisters old plans new = ReadsBits answers old plans new
ReadsBefore {S} answers HoldingRegisters old plans new =
    (middle : S) × ReadsBits answers old plans middle × ReadsTable answers InputRegisters middle plans new

-- The reads of a table stopped so, behind those of the tables before it; no later table was read.
pub record StopsBehind {S : Type 0} (answers : Answering S) (old : S) (plans : Tables (List Read)) (table : Table) (error : PollError) (new : S) : Type 0 where
  pub before : S
  pub earlier : ReadsBefore answers table old plans before
  pub stopped : Stops (AsksTable answers table) before (of_table plans table) error new

-- the reads of a device stopped in the table that is told, for the reason that is told
abbrev pub StopsIn : {S : Type 0} → Answering S → S → Tables (List Read) → TableError → S → Type 0
StopsIn answers old plans stop new = StopsBehind answers old plans stop.table stop.error new

-- the same, with what a view shows of each
abbrev pub seen_by : {A B : Type 0} → (A → B) → Tables A → Tables B
seen_by view tables = record {
  coils = view tables.coils;
  discrete_inputs = view tables.discrete_inputs;
  input_registers = view tables.input_registers;
  holding_registers = view tables.holding_registers;
}
