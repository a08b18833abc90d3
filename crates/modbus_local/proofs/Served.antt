-- What an exchange gives of a read, and a run of reads.
use Rattle.std.proofs.Common.{◌≡◌, ℕ, List, [], ◌∷◌, length, Result, Ok, Err, inl, inr, refl, subst, arith}
use Rattle.std.specs.Result.{IfOk}
use Rattle.std.proofs.lemmas.Bool.{cases_lt}
use Rattle.modbus_frame.specs.Answered.{function_answered}
use Rattle.modbus_frame.specs.Codes.{function_number}
use Rattle.modbus_frame.specs.Meaning.{Asked, function_asked}
use Rattle.modbus_frame.specs.declared.response.Response.{Response}
use Rattle.modbus_frame.specs.declared.response.Response.TheVariants as response
use Rattle.modbus_pdu.specs.Encodes.{Fits}
use Rattle.modbus_pdu.specs.Laws.{request_size}
use Rattle.modbus_pdu.specs.Limits.{max_pdu}
use Rattle.modbus_pdu.specs.RequestOf.{IsModelled}
use Rattle.modbus_pdu.specs.RequestPdu.{request_pdu}
use Rattle.modbus_pdu.specs.ResponseLaws.{IsResponse}
use Rattle.modbus_pdu.specs.ResponsePdu.{response_pdu}
use Rattle.modbus_service.specs.Answering.{Answering}
use Rattle.modbus_service.specs.Exchange.{Exchange, Run}
use Rattle.modbus_service.specs.Outcome.{Outcome, silence, reply, exception}
use Rattle.modbus_local.specs.Back.{ReplyComesBack, OutcomeComesBack}
use Rattle.modbus_local.specs.Exchange.{ExchangesLocally}
use Rattle.modbus_client.specs.Matches.{Answer, IsOf}
use Rattle.modbus_poll.specs.declared.read.Read.{Read}
use Rattle.modbus_poll.specs.Polls.{request_for, ReadsEach}
use Rattle.modbus_local.specs.Polls.{IsOfRegisters, AsksService, GivesRegisters, AskReads}

-- what follows from an answer that is there
pub ok_more : {A E : Type 0} (P Q : A → Type 0) → ((x : A) → P x → Q x) → (r : Result A E) → IfOk r P → IfOk r Q
ok_more P Q f (Ok x) p = f x p
ok_more P Q f (Err e) p = tt

pub request_fits : ((r : Asked) → length (request_pdu r) ≡ request_size r) → (read : Read) → Fits (request_pdu (request_for read))
request_fits sizes read = let size : length (request_pdu (request_for read)) ≡ 5 = sizes (request_for read) in omega arith

-- the response of an exchange is of the function of its request
pub registers_alone : {S : Type 0} (A : Answering S) (before after : S) (slave : ℕ) (read : Read) (answer : Answer) → Fits (request_pdu (request_for read))
    → ExchangesLocally A before after slave (request_for read) answer → IsOfRegisters answer
registers_alone A before after slave read (Ok (Ok given)) fits exchanges = elim (exchanges.asks fits) [
  | inl local ↦ let judged = local.client.ends.5 in subst (λ result. IsOf (function_asked (request_for read)) result) judged.2 judged.1
  | inr none ↦ let e : Ok (Ok given) ≡ Err _ = none.0 in absurd (cc)
]
registers_alone A before after slave read (Ok (Err code)) fits exchanges = tt
registers_alone A before after slave read (Err error) fits exchanges = tt

-- what gave registers is a response with these
given_by_kind : (read : Read) (given : Response) (words : List ℕ) → ReplyComesBack (request_for read) given (Ok (Ok (response.ReadHoldingRegisters words))) → IsResponse given
    → IsModelled (function_number (function_answered given)) → Fits (response_pdu given) → given ≡ response.ReadHoldingRegisters words
given_by_kind read (response.ReadHoldingRegisters found) words back is modelled fits = let e = back.own is fits refl in (cc)
given_by_kind read (response.Custom code bytes) words back is modelled fits = absurd (is modelled)
given_by_kind read given words back is modelled fits = let e = back.other is modelled fits (λ same. (cc)) in absurd (cc)

registers_given : (read : Read) (outcome : Outcome) (words : List ℕ) → OutcomeComesBack (request_for read) outcome (Ok (Ok (response.ReadHoldingRegisters words)))
    → GivesRegisters outcome words
registers_given read silence words back = absurd (cc)
registers_given read (exception code) words back = absurd (cc)
registers_given read (reply given) words back = λ is modelled. elim (cases_lt max_pdu (length (response_pdu given))) [
  | inl long ↦ let e = back.too_long long in absurd (cc)
  | inr fits ↦ given_by_kind read given words back is modelled fits
]

-- The exchanges of reads, as one run.
pub record RunsOver {S : Type 0} (A : Answering S) (slave : ℕ) (old : S) (reads : List Read) (found : List (List ℕ)) (new : S) : Type 0 where
  pub exchanges : List (Exchange ℕ)
  pub run : Run (λ to. to) A old exchanges new
  pub asked : AskReads slave reads found exchanges

pub runs_over : ((r : Asked) → length (request_pdu r) ≡ request_size r) → {S : Type 0} (A : Answering S) (slave : ℕ) (reads : List Read) (found : List (List ℕ)) (old new : S)
    → ReadsEach (AsksService A slave) old reads found new → RunsOver A slave old reads found new
runs_over sizes A slave [] [] old new made = record { exchanges = []; run = made; asked = tt }
runs_over sizes A slave [] (w ∷ ws) old new made = absurd made
runs_over sizes A slave (r ∷ rs) [] old new made = absurd made
runs_over sizes A slave (r ∷ rs) (w ∷ ws) old new made =
    let rest = runs_over sizes A slave rs ws made.0 new made.3 in
    let back = made.1.comes_back tt (request_fits sizes r) (λ e. (cc)) in
    record {
      exchanges = record { header = slave; request = request_for r; outcome = back.0 } ∷ rest.exchanges;
      run = (made.0, back.1, rest.run);
      asked = (refl, refl, registers_given r back.0 w back.2, rest.asked);
    }
