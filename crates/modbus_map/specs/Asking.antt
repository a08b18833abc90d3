-- Reads of a device's tables, and what each was answered (Modbus Application Protocol V1.1b3, sections 6.1 to 6.4).
use Rattle.std.specs.Prelude.{◌≡◌, ◌≢◌, ◌⊎◌, ℕ, Bool, List, [], ◌∷◌, length, map, take, slice_get, Option, Some, None, Result, Ok, Err, IfOk, if◌then◌else◌, ⊤}
use Rattle.modbus_frame.specs.Meaning.{Asked, ReadCoils, ReadDiscreteInputs, ReadInputRegisters, ReadHoldingRegisters}
use Rattle.modbus_frame.specs.declared.fault.Error.TheVariants as error
use Rattle.modbus_client.specs.Matches.{Answer}
use Rattle.modbus_client.specs.Typed.{AnswerOf, answer_map, Asks, coils_read, discrete_inputs_read, input_registers_read, holding_registers_read}
use Rattle.modbus_poll.specs.declared.read.Read.{Read}
use Rattle.modbus_poll.specs.declared.polling.PollError.{PollError}
use Rattle.modbus_poll.specs.declared.polling.PollError.TheVariants as poll
use Rattle.modbus_map.specs.declared.kind.Table.{Table}
use Rattle.modbus_map.specs.declared.kind.Table.TheVariants.{Coils, DiscreteInputs, InputRegisters, HoldingRegisters}
use Rattle.modbus_map.specs.declared.given.Given.{Given}

-- a bit as a word
abbrev pub word_of : Bool → ℕ
word_of state = if state then 1 else 0

-- what asking one read may do: of a state, the read, its answer in words and the next state
abbrev pub Asking : Type 0 → Type 1
Asking S = S → Read → AnswerOf (List ℕ) → S → Type 0

-- a client was asked one read of a table once, by the typed call for it; the states of bits are given as words
abbrev pub AsksTable : {S : Type 0} → (S → Asked → Answer → S → Type 0) → Table → Asking S
AsksTable answers Coils old read answer new =
    (states : AnswerOf (List Bool)) × Asks answers old (ReadCoils read.address read.count) (coils_read read.count) states new
    × (answer ≡ answer_map (map word_of) states)
AsksTable answers DiscreteInputs old read answer new =
    (states : AnswerOf (List Bool)) × Asks answers old (ReadDiscreteInputs read.address read.count) (discrete_inputs_read read.count) states new
    × (answer ≡ answer_map (map word_of) states)
AsksTable answers InputRegisters old read answer new =
    Asks answers old (ReadInputRegisters read.address read.count) (input_registers_read read.count) answer new
AsksTable answers HoldingRegisters old read answer new =
    Asks answers old (ReadHoldingRegisters read.address read.count) (holding_registers_read read.count) answer new

-- what is made of the answer to the read at this place
abbrev pub TakesGiven : ℕ → Read → AnswerOf (List ℕ) → Result Given PollError → Type 0
TakesGiven place read answer (Ok given) =
    (given.read ≡ read) × (answer ≡ Ok given.words) × IfOk given.words (λ words. length words ≡ read.count)
TakesGiven place read answer (Err (poll.Call at fault)) = (at ≡ place) × (fault ≢ error.NoMemory) × (answer ≡ Err fault)
TakesGiven place read answer (Err (poll.Exception at code)) = ⊥
TakesGiven place read answer (Err (poll.Words at count)) =
    (at ≡ place) × (words : List ℕ) × (answer ≡ Ok (Ok words)) × (count ≡ length words) × (count ≢ read.count)
TakesGiven place read answer (Err poll.NoMemory) = answer ≡ Err error.NoMemory

-- A read was made once: it gave as many words as it asks for, or was refused with an exception.
pub record Gives {S : Type 0} (asks : Asking S) (old : S) (read : Read) (given : Given) (new : S) : Type 0 where
  pub of_read : given.read ≡ read
  pub asked : asks old read (Ok given.words) new
  pub counted : IfOk given.words (λ words. length words ≡ read.count)

-- what may be lost for want of memory: the answer of a call that had none for it, or the words that were read
abbrev pub IsLost : {A : Type 0} → AnswerOf A → Type 0
IsLost (Err fault) = fault ≡ error.NoMemory
IsLost (Ok (Err code)) = ⊥
IsLost (Ok (Ok found)) = ⊤

-- A read was made once, and there was no memory for its answer.
pub record Loses {S : Type 0} (asks : Asking S) (old : S) (read : Read) (new : S) : Type 0 where
  pub answer : AnswerOf (List ℕ)
  pub asked : asks old read answer new
  pub lost : IsLost answer

-- The read at this place was made once. It gave so; or its call failed, or it was answered with another number of words, or there was no
-- memory for its answer.
abbrev pub ReadsOne : {S : Type 0} → Asking S → S → ℕ → Read → Result Given PollError → S → Type 0
ReadsOne asks old place read (Ok given) new = Gives asks old read given new
ReadsOne asks old place read (Err (poll.Call at fault)) new = (at ≡ place) × (fault ≢ error.NoMemory) × asks old read (Err fault) new
ReadsOne asks old place read (Err (poll.Exception at code)) new = ⊥
ReadsOne asks old place read (Err (poll.Words at count)) new =
    (at ≡ place) × (words : List ℕ) × asks old read (Ok (Ok words)) new × (count ≡ length words) × (count ≢ read.count)
ReadsOne asks old place read (Err poll.NoMemory) new = Loses asks old read new

-- the reads were made in order, each once
abbrev pub ReadsAll : {S : Type 0} → Asking S → S → List Read → List Given → S → Type 0
ReadsAll asks old [] [] new = new ≡ old
ReadsAll asks old (read ∷ reads) (given ∷ others) new = (next : _) × Gives asks old read given next × ReadsAll asks next reads others new
ReadsAll asks old _ _ new = ⊥

-- the read at a place failed so, after those before it were made; no later one was
pub record StopsAt {S : Type 0} (asks : Asking S) (old : S) (reads : List Read) (error : PollError) (new : S) : Type 0 where
  pub place : ℕ
  pub found : List Given
  pub before : S
  pub earlier : ReadsAll asks old (take place reads) found before
  pub read : Read
  pub is : slice_get reads place ≡ Some read
  pub failed : ReadsOne asks before place read (Err error) new

-- Reads were made until one failed. Memory was refused before the first of them, or in one, which was made.
abbrev pub Stops : {S : Type 0} → Asking S → S → List Read → PollError → S → Type 0
Stops asks old reads poll.NoMemory new = (new ≡ old) ⊎ StopsAt asks old reads poll.NoMemory new
Stops asks old reads error new = StopsAt asks old reads error new
