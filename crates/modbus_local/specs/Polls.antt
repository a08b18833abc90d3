-- Polls of a service without a transport: what each read was answered, and the run of the service over the reads.
use Rattle.std.specs.Prelude.{◌≡◌, ℕ, List, [], ◌∷◌, Ok, ⊤}
use Rattle.modbus_frame.specs.Answered.{function_answered}
use Rattle.modbus_frame.specs.Codes.{function_number}
use Rattle.modbus_frame.specs.declared.code.FunctionCode.TheVariants as function
use Rattle.modbus_frame.specs.declared.response.Response.TheVariants as response
use Rattle.modbus_pdu.specs.RequestOf.{IsModelled}
use Rattle.modbus_pdu.specs.ResponseLaws.{IsResponse}
use Rattle.modbus_service.specs.Answering.{Answering}
use Rattle.modbus_service.specs.Exchange.{Exchange, Run}
use Rattle.modbus_service.specs.Outcome.{Outcome, reply}
use Rattle.modbus_client.specs.Matches.{Answer}
use Rattle.modbus_client.specs.Typed.{answer_map}
use Rattle.modbus_poll.specs.declared.item.Item.{Item}
use Rattle.modbus_poll.specs.declared.read.Read.{Read}
use Rattle.modbus_poll.specs.declared.value.Value.{Value}
use Rattle.modbus_poll.specs.Polls.{WordsAnswer, request_for}
use Rattle.modbus_poll.specs.Words.{values_among}
use Rattle.modbus_local.specs.Exchange.{ExchangesLocally}
use Rattle.modbus_local.specs.Back.{ComesBack}

-- an answer with a response has one of holding registers
abbrev pub IsOfRegisters : Answer → Type 0
IsOfRegisters (Ok (Ok given)) = function_answered given ≡ function.ReadHoldingRegisters
IsOfRegisters _ = ⊤

-- the same answer, with the response that has these words
abbrev pub as_response : WordsAnswer → Answer
as_response answer = answer_map response.ReadHoldingRegisters answer

-- A service was asked a read once, in an exchange without a transport, and this came back of its response.
pub record AsksService {S : Type 0} (A : Answering S) (slave : ℕ) (old : S) (read : Read)
    (answer : WordsAnswer) (new : S) : Type 0 where
  pub exchanges : ExchangesLocally A old new slave (request_for read) (as_response answer)
  pub comes_back : ComesBack A old new slave (request_for read) (as_response answer)

-- A service gave these registers. It is known of a response of a kind that the protocol defines, whose numbers are in the range of their
-- types, as those of every `Response` of the code are.
abbrev pub GivesRegisters : Outcome → List ℕ → Type 0
GivesRegisters (reply given) words =
    IsResponse given → IsModelled (function_number (function_answered given))
    → given ≡ response.ReadHoldingRegisters words
GivesRegisters _ words = ⊥

-- These are requests of the reads to this slave, in order, each with an outcome that gave its words.
abbrev pub AskReads : ℕ → List Read → List (List ℕ) → List (Exchange ℕ) → Type 0
AskReads slave [] [] [] = ⊤
AskReads slave (read ∷ reads) (words ∷ found) (x ∷ xs) =
    (x.header ≡ slave) × (x.request ≡ request_for read) × GivesRegisters x.outcome words
    × AskReads slave reads found xs
AskReads slave _ _ _ = ⊥

-- One run of the service over the requests of the reads ends there, and each value is that of its item among the registers that it gave.
pub record ServesPoll {S : Type 0} (A : Answering S) (slave : ℕ) (old : S) (reads : List Read)
    (items : List Item) (values : List Value) (new : S) : Type 0 where
  pub exchanges : List (Exchange ℕ)
  pub run : Run (λ to. to) A old exchanges new
  pub found : List (List ℕ)
  pub asked : AskReads slave reads found exchanges
  pub given : values ≡ values_among reads found items
