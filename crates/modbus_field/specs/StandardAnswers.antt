-- A service that is asked for what can be read alone.
use Rattle.std.specs.Prelude.{◌≡◌, ◌⊎◌, ℕ, Option, Some, None}
use Rattle.modbus_frame.specs.Meaning.{Asked}
use Rattle.modbus_frame.specs.declared.code.ExceptionCode.TheVariants.{ServerDeviceFailure}
use Rattle.modbus_service.specs.OnlyUnit.{Giving}
use Rattle.modbus_service.specs.Outcome.{silence, exception}
use Rattle.modbus_field.specs.declared.standard.answers.StandardAnswers.{StandardAnswers}
use Rattle.modbus_field.specs.declared.standard.answers.Unread.{Unread}
use Rattle.modbus_field.specs.declared.standard.answers.Unread.TheVariants.{Refused, Silent}
use Rattle.modbus_field.specs.Unread.{unread_of}

-- What can't be read has its exception, or no answer, and the service is as it was; all else is the service's. Where the service may take
-- memory for it, which is refused, it is as it was, and the answer is that the device failed (section 7).
abbrev pub AnswersUnless : {S : Type 0} → Giving S → (S → ℕ → Asked → Type 0) → Option Unread → Giving (StandardAnswers S)
AnswersUnless gives takes (Some (Refused code)) old slave request outcome new = (outcome ≡ exception code) × (new ≡ old)
AnswersUnless gives takes (Some Silent) old slave request outcome new = (outcome ≡ silence) × (new ≡ old)
AnswersUnless gives takes None old slave request outcome new =
    gives old.service slave request outcome new.service
    ⊎ ((outcome ≡ exception ServerDeviceFailure) × takes old.service slave request × (new ≡ old))

abbrev pub standard_answers : {S : Type 0} → Giving S → (S → ℕ → Asked → Type 0) → Giving (StandardAnswers S)
standard_answers gives takes old slave request outcome new = AnswersUnless gives takes (unread_of request) old slave request outcome new

-- refused memory is answered, and told to nobody
abbrev pub standard_takes : {S : Type 0} → StandardAnswers S → ℕ → Asked → Type 0
standard_takes it slave request = ⊥
