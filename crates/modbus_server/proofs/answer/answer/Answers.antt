use Rattle.std.proofs.Common.{◌≡◌, ◌+◌, ◌∷◌, [], ap, sym, refl, ◌∙◌, subst, Ok, Err, inl, inr}
use Rattle.modbus_frame.specs.Codes.{function_number, exception_number}
use Rattle.modbus_frame.specs.Meaning.{meaning}
use Rattle.modbus_pdu.specs.RequestOf.{CarriesList}
use Rattle.modbus_pdu.specs.Message.{Message}
use Rattle.modbus_service.specs.Outcome.{silence, reply, exception, code_of}
use Rattle.modbus_server.proofs.Answering.{exchange, answered, reply_is, exception_is, is_request, framed_as, silent}
use Rattle.modbus_server.proofs.answer.answer.Goals as goal

pub returns-in-Ok-None-clause-answers : goal.returns-in-Ok-None-clause-answers
returns-in-Ok-None-clause-answers g c =
    let F = g.I.Framing.framing in
    let A = g.V.Answerer.answering in
    let message : Message F.Header = record { header = g.I.Framing.header_of c.args.header; pdu = c.args.pdu.now } in
    let e : F.request_of message.pdu ≡ Ok (meaning c.in-Ok.request) = c.in-Ok.ensures.value in
    let step : A.gives c.args.service.now (F.slave message.header) (meaning c.in-Ok.request) silence c.ask.new.self =
    subst (λ n. A.gives c.args.service.now n (meaning c.in-Ok.request) silence c.ask.new.self) c.slave-slave.ensures (rw c.in-Ok-None.field-0-is at c.in-Ok-None.ensures) in
    silent F A g.row.I-Fault.Denot message c.args.service.now c.ask.new.self c.args.reply.now.items (exchange F message.header (meaning c.in-Ok.request) silence)
    (answered F A message.header message.pdu c.args.service.now c.ask.new.self (meaning c.in-Ok.request) silence e step) refl c.requires.empty

pub returns-in-Ok-Some-clause-answers : goal.returns-in-Ok-Some-clause-answers
returns-in-Ok-Some-clause-answers g c =
    let F = g.I.Framing.framing in
    let A = g.V.Answerer.answering in
    let message : Message F.Header = record { header = g.I.Framing.header_of c.args.header; pdu = c.args.pdu.now } in
    let e : F.request_of message.pdu ≡ Ok (meaning c.in-Ok.request) = c.in-Ok.ensures.value in
    let step : A.gives c.args.service.now (F.slave message.header) (meaning c.in-Ok.request) (reply c.in-Ok-Some.response) c.ask.new.self =
    subst (λ n. A.gives c.args.service.now n (meaning c.in-Ok.request) (reply c.in-Ok-Some.response) c.ask.new.self) c.slave-slave.ensures (rw c.in-Ok-Some.field-0-is at c.in-Ok-Some.ensures) in
    framed_as F A message c.args.service.now c.ask.new.self (Ok c.in-Ok-Some.response) c.frame.result c.frame.new.reply.items (
      exchange F message.header (meaning c.in-Ok.request) (reply c.in-Ok-Some.response),
      answered F A message.header message.pdu c.args.service.now c.ask.new.self (meaning c.in-Ok.request) (reply c.in-Ok-Some.response) e step,
      (λ bad. cc),
      reply_is (code_of (meaning c.in-Ok.request)) c.in-Ok-Some.response,
    ) (rw c.in-Ok-Some.field-0-is at c.frame.ensures.frames)

pub returns-in-Err-Exception-clause-answers : goal.returns-in-Err-Exception-clause-answers
returns-in-Err-Exception-clause-answers g c =
    let F = g.I.Framing.framing in
    let A = g.V.Answerer.answering in
    let message : Message F.Header = record { header = g.I.Framing.header_of c.args.header; pdu = c.args.pdu.now } in
    let e : F.request_of message.pdu ≡ Ok (meaning c.in-Ok.request) = c.in-Ok.ensures.value in
    let step : A.gives c.args.service.now (F.slave message.header) (meaning c.in-Ok.request) (exception c.in-Err-Exception.exception) c.ask.new.self =
    subst (λ n. A.gives c.args.service.now n (meaning c.in-Ok.request) (exception c.in-Err-Exception.exception) c.ask.new.self) c.slave-slave.ensures (rw c.in-Err-Exception.field-0-is at c.in-Err-Exception.ensures) in
    framed_as F A message c.args.service.now c.ask.new.self (Err (record { function = c.function_code-function.result; exception = c.in-Err-Exception.exception })) c.refuse.result c.refuse.new.reply.items (
      exchange F message.header (meaning c.in-Ok.request) (exception c.in-Err-Exception.exception),
      answered F A message.header message.pdu c.args.service.now c.ask.new.self (meaning c.in-Ok.request) (exception c.in-Err-Exception.exception) e step,
      (λ bad. cc),
      exception_is (code_of (meaning c.in-Ok.request)) c.in-Err-Exception.exception ∙ ap (λ f. (function_number f + 0x80) ∷ exception_number c.in-Err-Exception.exception ∷ []) (sym c.function_code-function.ensures),
    ) c.refuse.ensures.frames

pub returns-in-Err-NoMemory-clause-answers : goal.returns-in-Err-NoMemory-clause-answers
returns-in-Err-NoMemory-clause-answers g c =
    let some = is_request (g.I.Framing.framing.request_of c.args.pdu.now) CarriesList ((rw c.in-Err-NoMemory.field-0-is at c.in-Err-NoMemory.ensures.memory) refl) in
    (some.0, some.1, inl (some.2, refl))

pub returns-in-Err-NoMemory-ask-clause-answers : goal.returns-in-Err-NoMemory-ask-clause-answers
returns-in-Err-NoMemory-ask-clause-answers g c =
    let F = g.I.Framing.framing in
    let A = g.V.Answerer.answering in
    let message : Message F.Header = record { header = g.I.Framing.header_of c.args.header; pdu = c.args.pdu.now } in
    let e : F.request_of message.pdu ≡ Ok (meaning c.in-Ok.request) = c.in-Ok.ensures.value in
    let step : A.wants c.args.service.now (F.slave message.header) (meaning c.in-Ok.request) c.ask.new.self =
    subst (λ n. A.wants c.args.service.now n (meaning c.in-Ok.request) c.ask.new.self) c.slave-slave.ensures (rw c.in-Err-NoMemory-ask.field-0-is at c.in-Err-NoMemory-ask.ensures) in
    (meaning c.in-Ok.request, e, inr step)
