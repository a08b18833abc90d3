-- Runs of services that share a line: each unit's service runs over what it hears (MODBUS over Serial Line V1.02, section 2.2).
use Rattle.std.specs.Prelude.{◌≡◌, ◌≢◌, ◌⊎◌, ◌||◌, ℕ, ◌==◌, Bool, List, [], ◌∷◌, filter, All}
use Rattle.modbus_frame.specs.Meaning.{Asked}
use Rattle.modbus_service.specs.declared.only_unit.OnlyUnit.{OnlyUnit}
use Rattle.modbus_service.specs.Outcome.{silence}
use Rattle.modbus_service.specs.Answering.{Answering, steady}
use Rattle.modbus_service.specs.Exchange.{Exchange, Run}
use Rattle.modbus_service.specs.OnlyUnit.{Giving, only_unit, only_unit_takes}
use Rattle.modbus_service.specs.Units.{LineUnits, FirstAt, units_answering}

-- a unit hears what is for it, and each broadcast
abbrev pub hears : ℕ → ℕ → Bool
hears unit slave = (slave == 0) || (slave == unit)

-- the exchanges of a line that the unit at this address hears, in order
abbrev pub exchanges_heard : {Header : Type 0} → (Header → ℕ) → ℕ → List (Exchange Header) → List (Exchange Header)
exchanges_heard slave unit xs = filter (λ x. hears unit (slave x.header)) xs

-- Exchanges of a line as the service sees them that was asked: the same requests in order, and the outcomes that were sent. To a
-- broadcast the service gave some outcome, which was not sent.
abbrev pub Seen : {Header : Type 0} → (Header → ℕ) → List (Exchange Header) → List (Exchange Header) → Type 0
Seen slave [] [] = Unit {0}
Seen slave [] (y ∷ ys) = ⊥
Seen slave (x ∷ xs) [] = ⊥
Seen slave (x ∷ xs) (y ∷ ys) =
    (y.header ≡ x.header) × (y.request ≡ x.request) × (slave x.header ≢ 0 → y.outcome ≡ x.outcome) × Seen slave xs ys

-- the service went from one state to the other over what this unit hears of these exchanges
abbrev pub RunsOverHeard : {Header S : Type 0} → (Header → ℕ) → Answering S → ℕ → S → List (Exchange Header) → S → Type 0
RunsOverHeard {Header} slave A unit start xs end = (ys : List (Exchange Header)) × Seen slave (exchanges_heard slave unit xs) ys × Run slave A start ys end

-- a run of a service as one unit of a line is a run of the service over what the unit hears
abbrev pub UnitRuns : (Header : Type 0) → {S : Type 0} → Giving S → (S → ℕ → Asked → Type 0) → Type 0
UnitRuns Header {S} gives takes =
    (slave : Header → ℕ) (start end : OnlyUnit S) (xs : List (Exchange Header))
    → Run slave (steady (only_unit gives) (only_unit_takes takes)) start xs end
    → RunsOverHeard slave (steady gives takes) start.unit start.service xs end.service

-- and there is no answer to a broadcast, nor to a request for another
abbrev pub UnitIsSilent : (Header : Type 0) → {S : Type 0} → Giving S → (S → ℕ → Asked → Type 0) → Type 0
UnitIsSilent Header {S} gives takes =
    (slave : Header → ℕ) (start end : OnlyUnit S) (xs : List (Exchange Header))
    → Run slave (steady (only_unit gives) (only_unit_takes takes)) start xs end
    → All (λ x. (slave x.header ≡ 0) ⊎ (slave x.header ≢ start.unit) → x.outcome ≡ silence) xs

-- a run of several units is for each that is there at the start a run of its service over what it hears, and it is there at the end
abbrev pub UnitsRun : (Header : Type 0) → {S : Type 0} → Answering S → Type 0
UnitsRun Header {S} A =
    (slave : Header → ℕ) (unit : ℕ) (start end : LineUnits S) (xs : List (Exchange Header))
    → Run slave (units_answering A) start xs end → (first : FirstAt unit start.units)
    → ((last : FirstAt unit end.units) × RunsOverHeard slave A unit first.service xs last.service)
