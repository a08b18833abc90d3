-- What the service gave comes back of an exchange.
use Rattle.std.proofs.Common.{◌≡◌, ◌≢◌, ◌⊎◌, inl, inr, ℕ, ◌<◌, List, [], Ok, Err, Result, refl, sym, ap, ◌∙◌, subst, arith}
use Rattle.modbus_frame.specs.Answered.{function_answered}
use Rattle.modbus_frame.specs.Codes.{function_number, function_of, exception_number, exception_of}
use Rattle.modbus_frame.specs.Meaning.{Asked, ReadCoils, ReadDiscreteInputs, WriteSingleCoil, WriteMultipleCoils, ReadInputRegisters, ReadHoldingRegisters, WriteSingleRegister, WriteMultipleRegisters, ReportServerId, MaskWriteRegister, ReadWriteMultipleRegisters, ReadFifoQueue, ReadDeviceIdentification, Custom, function_asked}
use Rattle.modbus_frame.specs.declared.code.FunctionCode.{FunctionCode}
use Rattle.modbus_frame.specs.declared.code.ExceptionCode.{ExceptionCode}
use Rattle.modbus_frame.specs.declared.response.Response.{Response}
use Rattle.modbus_frame.specs.declared.response.Response.TheVariants as response
use Rattle.modbus_frame.specs.declared.response.ExceptionResponse.{ExceptionResponse}
use Rattle.modbus_frame.specs.declared.fault.Error.TheVariants.{Protocol as protocol, Transport, NoMemory}
use Rattle.modbus_frame.specs.declared.fault.HeaderSeen.{HeaderSeen}
use Rattle.modbus_frame.specs.declared.fault.ProtocolError.TheVariants.{HeaderMismatch, FunctionCodeMismatch, PayloadMismatch}
use Rattle.modbus_frame.specs.declared.fault.TransportError.TheVariants.{BrokenPipe}
use Rattle.modbus_pdu.specs.Encodes.{Fits}
use Rattle.modbus_pdu.specs.Laws.{IsReadable}
use Rattle.modbus_pdu.specs.RequestOf.{IsModelled}
use Rattle.modbus_pdu.specs.ResponseOf.{response_result_of}
use Rattle.modbus_pdu.specs.ResponseLaws.{IsResponse, with_filled_coils, ResultReadsBack, ExceptionReadsBack}
use Rattle.modbus_pdu.specs.ResponsePdu.{response_pdu}
use Rattle.modbus_pdu.specs.Message.{message}
use Rattle.modbus_rtu.specs.Frame.{frame}
use Rattle.modbus_rtu.specs.ResponseHead.{response_verdict, HasResponseHead}
use Rattle.modbus_rtu.specs.declared.verdict.Verdict.TheVariants.{Open}
use Rattle.modbus_service.specs.Outcome.{Outcome, silence, reply, exception, code_of, reply_pdu}
use Rattle.modbus_rtu.specs.WholeReading.{IsModelledAsk}
use Rattle.modbus_local.specs.Back.{ReplyComesBack, OutcomeComesBack}
use Rattle.modbus_local.specs.Exchange.{ReadsAll}
use Rattle.modbus_client.specs.Matches.{Answer, IsOf, Judges, answer_of}
use Rattle.modbus_client.specs.Rtu.{rtu_protocol, slave_seen}
use Rattle.modbus_local.proofs.AskedOnce.{IsSent}
use Rattle.modbus_local.proofs.ReadBack.{FramesAreFound, nothing_back, frame_back}

-- what a message that belongs to the request is answered
abbrev pub ResultsAreTold : Type 0
ResultsAreTold = (asked : HeaderSeen) (function : FunctionCode) (seen : HeaderSeen) (result : Result Response ExceptionResponse) (answer : Answer) → seen ≡ asked → IsOf function result
    → Judges asked function seen result answer → answer ≡ answer_of result

-- an answer of another function is told as that
mismatched : (seen : HeaderSeen) (function : FunctionCode) (result : Result Response ExceptionResponse) (answer : Answer) → (IsOf function result → ⊥) → Judges seen function seen result answer
    → answer ≡ Err (protocol (FunctionCodeMismatch function result))
mismatched seen function result (Ok (Ok given)) other (same, of, is) = absurd (other of)
mismatched seen function result (Ok (Err code)) other (same, of, refusal, is, c) = absurd (other of)
mismatched seen function result (Err (protocol (HeaderMismatch request response received))) other judges = absurd (judges.0 refl)
mismatched seen function result (Err (protocol (FunctionCodeMismatch request received))) other (same, differ, e, f) =
    ap (λ r. Err (protocol (FunctionCodeMismatch r received))) e ∙ ap (λ r. Err (protocol (FunctionCodeMismatch function r))) f
mismatched seen function result (Err (protocol (PayloadMismatch given))) other judges = absurd judges
mismatched seen function result (Err (Transport fault)) other judges = absurd judges
mismatched seen function result (Err NoMemory) other judges = absurd judges

pub readable : (asked : Asked) → IsModelledAsk asked → IsReadable asked
readable (Custom code bytes) of = absurd of
readable _ of = tt

-- its code is that of a modelled kind, is below 80, and is the number of the function that it stands for
pub record CodeModelled (asked : Asked) : Type 0 where
  pub modelled : IsModelled (function_number (function_asked asked))
  pub below : function_number (function_asked asked) < 0x80
  pub again : function_number (function_of (function_number (function_asked asked))) ≡ function_number (function_asked asked)

code_modelled : (asked : Asked) → IsModelledAsk asked → CodeModelled asked
code_modelled (ReadCoils address quantity) of = record { modelled = refl; below = omega arith; again = refl }
code_modelled (ReadDiscreteInputs address quantity) of = record { modelled = refl; below = omega arith; again = refl }
code_modelled (WriteSingleCoil address coil) of = record { modelled = refl; below = omega arith; again = refl }
code_modelled (WriteMultipleCoils address coils) of = record { modelled = refl; below = omega arith; again = refl }
code_modelled (ReadInputRegisters address quantity) of = record { modelled = refl; below = omega arith; again = refl }
code_modelled (ReadHoldingRegisters address quantity) of = record { modelled = refl; below = omega arith; again = refl }
code_modelled (WriteSingleRegister address word) of = record { modelled = refl; below = omega arith; again = refl }
code_modelled (WriteMultipleRegisters address words) of = record { modelled = refl; below = omega arith; again = refl }
code_modelled ReportServerId of = record { modelled = refl; below = omega arith; again = refl }
code_modelled (MaskWriteRegister address and_mask or_mask) of = record { modelled = refl; below = omega arith; again = refl }
code_modelled (ReadWriteMultipleRegisters read_address quantity write_address words) of = record { modelled = refl; below = omega arith; again = refl }
code_modelled (ReadFifoQueue address) of = record { modelled = refl; below = omega arith; again = refl }
code_modelled (ReadDeviceIdentification code id) of = record { modelled = refl; below = omega arith; again = refl }
code_modelled (Custom code bytes) of = absurd of

-- the code of a modelled response is below 80, and with its coils filled it is of the same function
pub record GivenModelled (given : Response) : Type 0 where
  pub below : function_number (function_answered given) < 0x80
  pub filled : function_answered (with_filled_coils given) ≡ function_answered given

given_modelled : (given : Response) → IsResponse given → IsModelled (function_number (function_answered given)) → GivenModelled given
given_modelled (response.ReadCoils coils) is of = record { below = omega arith; filled = refl }
given_modelled (response.ReadDiscreteInputs coils) is of = record { below = omega arith; filled = refl }
given_modelled (response.WriteSingleCoil address coil) is of = record { below = omega arith; filled = refl }
given_modelled (response.WriteMultipleCoils address quantity) is of = record { below = omega arith; filled = refl }
given_modelled (response.ReadInputRegisters words) is of = record { below = omega arith; filled = refl }
given_modelled (response.ReadHoldingRegisters words) is of = record { below = omega arith; filled = refl }
given_modelled (response.WriteSingleRegister address word) is of = record { below = omega arith; filled = refl }
given_modelled (response.WriteMultipleRegisters address quantity) is of = record { below = omega arith; filled = refl }
given_modelled (response.ReportServerId id run extra) is of = record { below = omega arith; filled = refl }
given_modelled (response.MaskWriteRegister address and_mask or_mask) is of = record { below = omega arith; filled = refl }
given_modelled (response.ReadWriteMultipleRegisters words) is of = record { below = omega arith; filled = refl }
given_modelled (response.ReadFifoQueue words) is of = record { below = omega arith; filled = refl }
given_modelled (response.ReadDeviceIdentification found) is of = record { below = omega arith; filled = refl }
given_modelled (response.Custom code bytes) is of = absurd (is of)

-- unless memory is wanting
the_first : {A B : Type 0} → A ⊎ B → (B → ⊥) → A
the_first (inl a) none = a
the_first (inr b) none = absurd (none b)

module _ (nothing_open : response_verdict [] ≡ Open) (alone : FramesAreFound) (told : ResultsAreTold) (result_again : (r : Response) → ResultReadsBack r) (exception_again : (e : ExceptionResponse) → ExceptionReadsBack e)
    (response_head : (slave : ℕ) (given : Response) → IsResponse given → IsModelled (function_number (function_answered given)) → Fits (response_pdu given) → HasResponseHead (message slave (response_pdu given)))
    (exception_head : (slave : ℕ) (asked : Asked) (code : ExceptionCode) → IsModelledAsk asked → HasResponseHead (message slave (reply_pdu (code_of asked) (exception code))))
    (slave : ℕ) (asked : Asked) (of : IsModelledAsk asked) (held : List ℕ) (answer : Answer) (some : answer ≢ Err NoMemory) where
  abbrev Reads : List ℕ → Type 0
  Reads sent = ReadsAll rtu_protocol (slave_seen slave) (function_asked asked) sent held answer

  nothing : (sent : List ℕ) → Reads sent → sent ≡ [] → answer ≡ Err (Transport BrokenPipe)
  nothing sent r none = the_first (nothing_back nothing_open (slave_seen slave) (function_asked asked) held answer (subst Reads none r)) some

  judged : (sent pdu : List ℕ) (result : Result Response ExceptionResponse) → Reads sent → sent ≡ frame slave pdu → HasResponseHead (message slave pdu) → response_result_of pdu ≡ Ok result
      → Judges (slave_seen slave) (function_asked asked) (slave_seen slave) result answer
  judged sent pdu result r is has means = the_first (frame_back alone slave (function_asked asked) pdu result has means held answer (subst Reads is r)) some

  refusal : ExceptionCode → ExceptionResponse
  refusal code = record { function = function_asked asked; exception = code }

  exception_means : (code : ExceptionCode) → response_result_of (reply_pdu (code_of asked) (exception code)) ≡ Ok (Err (record { function = function_of (function_number (function_asked asked)); exception = exception_of (exception_number code) }))
  unfolding reply_pdu refusal
  exception_means code = exception_again (refusal code) (code_modelled asked of).below

  exception_back : (code : ExceptionCode) (sent : List ℕ) → Reads sent → sent ≡ frame slave (reply_pdu (code_of asked) (exception code)) → answer ≡ Ok (Err (exception_of (exception_number code)))
  exception_back code sent r is =
      let result : Result Response ExceptionResponse = Err (record { function = function_of (function_number (function_asked asked)); exception = exception_of (exception_number code) }) in
      told (slave_seen slave) (function_asked asked) (slave_seen slave) result answer refl (code_modelled asked of).again
      (judged sent (reply_pdu (code_of asked) (exception code)) result r is (exception_head slave asked code of) (exception_means code))

  reply_judged : (given : Response) (sent : List ℕ) → Reads sent → sent ≡ frame slave (response_pdu given) → IsResponse given → IsModelled (function_number (function_answered given))
      → Fits (response_pdu given) → Judges (slave_seen slave) (function_asked asked) (slave_seen slave) (Ok (with_filled_coils given)) answer
  reply_judged given sent r is ranges modelled fits =
      judged sent (response_pdu given) (Ok (with_filled_coils given)) r is (response_head slave given ranges modelled fits)
      (result_again given ranges (given_modelled given ranges modelled).below fits)

  own_back : (given : Response) (sent : List ℕ) → Reads sent → sent ≡ frame slave (response_pdu given) → IsResponse given → Fits (response_pdu given)
      → function_answered given ≡ function_asked asked → answer ≡ Ok (Ok (with_filled_coils given))
  own_back given sent r is ranges fits same =
      let modelled : IsModelled (function_number (function_answered given)) = subst (λ (f : FunctionCode). IsModelled (function_number f)) (sym same) (code_modelled asked of).modelled in
      told (slave_seen slave) (function_asked asked) (slave_seen slave) (Ok (with_filled_coils given)) answer refl ((given_modelled given ranges modelled).filled ∙ same)
      (reply_judged given sent r is ranges modelled fits)

  other_back : (given : Response) (sent : List ℕ) → Reads sent → sent ≡ frame slave (response_pdu given) → IsResponse given → IsModelled (function_number (function_answered given))
      → Fits (response_pdu given) → function_answered given ≢ function_asked asked → answer ≡ Err (protocol (FunctionCodeMismatch (function_asked asked) (Ok (with_filled_coils given))))
  other_back given sent r is ranges modelled fits differ =
      mismatched (slave_seen slave) (function_asked asked) (Ok (with_filled_coils given)) answer (λ e. differ (sym (given_modelled given ranges modelled).filled ∙ e))
      (reply_judged given sent r is ranges modelled fits)

  reply_back : (given : Response) (sent : List ℕ) → Reads sent → IsSent slave asked (reply given) sent → ReplyComesBack asked given answer
  unfolding reply_pdu
  reply_back given sent r (inl (is, fit)) = record {
    own = own_back given sent r is;
    other = other_back given sent r is;
    too_long = λ long. absurd (omega (arith, fit, long));
  }
  reply_back given sent r (inr (none, long)) = record {
    own = λ ranges fits same. absurd (omega (arith, long, fits));
    other = λ ranges modelled fits differ. absurd (omega (arith, long, fits));
    too_long = λ l. nothing sent r none;
  }

  pub outcome_back : (outcome : Outcome) (sent : List ℕ) → Reads sent → IsSent slave asked outcome sent → OutcomeComesBack asked outcome answer
  unfolding reply_pdu
  outcome_back silence sent r (inl (is, fit)) = nothing sent r is
  outcome_back silence sent r (inr (none, long)) = nothing sent r none
  outcome_back (exception code) sent r (inl (is, fit)) = exception_back code sent r is
  outcome_back (exception code) sent r (inr (none, long)) = absurd (omega (arith, long))
  outcome_back (reply given) sent r wrote = reply_back given sent r wrote
