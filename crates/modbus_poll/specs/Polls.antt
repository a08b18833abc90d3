-- Polls: reads that are made in order, and what each was answered (Modbus Application Protocol V1.1b3, sections 6.1 to 6.4).
use Rattle.std.specs.Prelude.{◌≡◌, ◌≢◌, ◌⊎◌, ℕ, List, [], ◌∷◌, length, take, slice_get, Some, Result, Ok, Err}
use Rattle.modbus_frame.specs.Meaning.{Asked, ReadHoldingRegisters}
use Rattle.modbus_frame.specs.declared.fault.Error.TheVariants as error
use Rattle.modbus_client.specs.Matches.{Answer}
use Rattle.modbus_client.specs.Typed.{AnswerOf, Asks, holding_registers_read}
use Rattle.modbus_poll.specs.declared.item.Item.{Item}
use Rattle.modbus_poll.specs.declared.read.Read.{Read}
use Rattle.modbus_poll.specs.declared.value.Value.{Value}
use Rattle.modbus_poll.specs.declared.polling.PollError.{PollError}
use Rattle.modbus_poll.specs.declared.polling.PollError.TheVariants.{Call, Exception, Words, NoMemory}
use Rattle.modbus_poll.specs.Words.{values_among}

-- what a read is answered: its words, the exception of the device, or the fault of the call
abbrev pub WordsAnswer : Type 0
WordsAnswer = AnswerOf (List ℕ)

-- what asking one read, of registers or of bits, may do: of a state, the read, its answer and the next state
abbrev pub ReadMeaning : Type 0 → Type 0 → Type 1
ReadMeaning A S = S → Read → AnswerOf (List A) → S → Type 0

abbrev pub PollMeaning : Type 0 → Type 1
PollMeaning S = ReadMeaning ℕ S

-- the request of a read
abbrev pub request_for : Read → Asked
request_for read = ReadHoldingRegisters read.address read.count

-- a client was asked a read once, by its typed call
abbrev pub AsksClient : {S : Type 0} → (S → Asked → Answer → S → Type 0) → PollMeaning S
AsksClient answers old read answer new =
    Asks answers old (request_for read) (holding_registers_read read.count) answer new

-- The reads were made in order, each once, and each was answered with as many words as it asks for.
abbrev pub ReadsEach : {A S : Type 0} → ReadMeaning A S → S → List Read → List (List A) → S → Type 0
ReadsEach asks old [] [] new = new ≡ old
ReadsEach asks old (read ∷ reads) (words ∷ found) new =
    (next : _) × asks old read (Ok (Ok words)) next × (length words ≡ read.count)
    × ReadsEach asks next reads found new
ReadsEach asks old _ _ new = ⊥

-- The read at this place was answered so, after those before it, each of which gave its words. No other was made.
pub record AnswersAt {A S : Type 0} (asks : ReadMeaning A S) (old : S) (reads : List Read) (place : ℕ)
    (answer : AnswerOf (List A)) (new : S) : Type 0 where
  pub found : List (List A)
  pub before : S
  pub earlier : ReadsEach asks old (take place reads) found before
  pub read : Read
  pub is : slice_get reads place ≡ Some read
  pub asked : asks before read answer new

-- a response with another number of words than its read asks for
pub record AnswersOther {A S : Type 0} (asks : ReadMeaning A S) (old : S) (reads : List Read)
    (place count : ℕ) (new : S) : Type 0 where
  pub words : List A
  pub answers : AnswersAt asks old reads place (Ok (Ok words)) new
  pub counted : count ≡ length words
  pub other : count ≢ answers.read.count

-- Memory was refused before the first read, after the last one, or in the call of a read, which was answered so after those before it. So
-- where some reads gave their words and another answer came then, it is told.
abbrev pub LacksMemory : {A S : Type 0} → ReadMeaning A S → S → List Read → S → Type 0
LacksMemory asks old reads new =
    (new ≡ old)
    ⊎ (((found : List (List _)) × ReadsEach asks old reads found new)
    ⊎ ((place : ℕ) × AnswersAt asks old reads place (Err error.NoMemory) new))

-- what stands where a poll gives no values
abbrev pub Stops : {A S : Type 0} → ReadMeaning A S → S → List Read → PollError → S → Type 0
Stops asks old reads (Call place fault) new =
    (fault ≢ error.NoMemory) × AnswersAt asks old reads place (Err fault) new
Stops asks old reads (Exception place code) new = AnswersAt asks old reads place (Ok (Err code)) new
Stops asks old reads (Words place count) new = AnswersOther asks old reads place count new
Stops asks old reads NoMemory new = LacksMemory asks old reads new

-- Each read was made once, in order, and each value is that of its item among the words that they gave.
pub record GivesValues {S : Type 0} (asks : PollMeaning S) (old : S) (reads : List Read)
    (items : List Item) (values : List Value) (new : S) : Type 0 where
  pub found : List (List ℕ)
  pub made : ReadsEach asks old reads found new
  pub given : values ≡ values_among reads found items

-- what a poll makes of the answer to the read at this place
abbrev pub TakesAnswer : {A : Type 0} → ℕ → Read → AnswerOf (List A) → Result (List A) PollError → Type 0
TakesAnswer place read answer (Ok words) = (answer ≡ Ok (Ok words)) × (length words ≡ read.count)
TakesAnswer place read answer (Err (Call at fault)) =
    (at ≡ place) × (answer ≡ Err fault) × (fault ≢ error.NoMemory)
TakesAnswer place read answer (Err (Exception at code)) = (at ≡ place) × (answer ≡ Ok (Err code))
TakesAnswer place read answer (Err (Words at count)) =
    (at ≡ place) × (words : List _) × (answer ≡ Ok (Ok words)) × (count ≡ length words)
    × (count ≢ read.count)
TakesAnswer place read answer (Err NoMemory) = answer ≡ Err error.NoMemory
