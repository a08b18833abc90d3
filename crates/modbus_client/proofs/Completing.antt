-- A link that fails nowhere and holds one message alone which belongs to the request.
use Rattle.std.proofs.Common.{◌≡◌, ◌⊎◌, inl, inr, ℕ, ◌<◌, List, [], ◌++◌, length, Result, Ok, Err, refl, sym, ap, ◌∙◌, subst, arith, length-append, IsTrue}
use Rattle.modbus_link.specs.Outside.{outside, Input, Output, Rose}
use Rattle.modbus_link.specs.Line.{LinkMeaning}
use Rattle.modbus_link.specs.Runs.{RisesTo-count}
use Rattle.modbus_link.specs.Reads.{totals}
use Rattle.modbus_frame.specs.Meaning.{Asked, function_asked}
use Rattle.modbus_frame.specs.declared.code.FunctionCode.{FunctionCode}
use Rattle.modbus_frame.specs.declared.fault.Reason.{Reason}
use Rattle.modbus_frame.specs.declared.response.Response.{Response}
use Rattle.modbus_frame.specs.declared.response.ExceptionResponse.{ExceptionResponse}
use Rattle.modbus_frame.specs.declared.fault.Error.TheVariants.{Protocol as protocol, Transport, NoMemory}
use Rattle.modbus_frame.specs.declared.fault.HeaderSeen.{HeaderSeen}
use Rattle.modbus_frame.specs.declared.fault.ProtocolError.TheVariants.{HeaderMismatch, FunctionCodeMismatch, PayloadMismatch}
use Rattle.modbus_frame.specs.declared.fault.TransportError.TheVariants as transport
use Rattle.modbus_pdu.specs.Encodes.{Fits}
use Rattle.modbus_pdu.specs.RequestPdu.{request_pdu}
use Rattle.modbus_client.specs.Protocol.{Protocol, Heading, Found, waiting, reply, broken, IsOfMessage}
use Rattle.modbus_client.specs.Matches.{Answer, IsOf, Judges, answer_of}
use Rattle.modbus_client.specs.Call.{IsJudged}
use Rattle.modbus_client.specs.State.{ClientState, next_header}
use Rattle.modbus_client.specs.Calls.{Exchanged, Called, IsComplete}

abbrev pub IsFoundAlone : {H : Type 0} → Protocol H → Type 0
IsFoundAlone {H} P = (header : H) (pdu bytes rest cuts : List ℕ) (found : Found) → P.IsWhole header pdu → P.adu header pdu ≡ bytes ++ rest → P.Finds (P.seen header) bytes cuts found → IsOfMessage (P.seen header) pdu rest found

pub ok_same : (a b : Result Response ExceptionResponse) (m : Result (Result Response ExceptionResponse) Reason) → m ≡ Ok a → m ≡ Ok b → a ≡ b
ok_same a b m e f = cc

pub ok_err : {P : Type 0} (a : Result Response ExceptionResponse) (r : Reason) (m : Result (Result Response ExceptionResponse) Reason) → m ≡ Ok a → m ≡ Err r → P
ok_err a r m e f = cc

-- of an answer that belongs to the request the call gives the result
pub judged_result : (asked : HeaderSeen) (function : FunctionCode) (header : HeaderSeen) (result : Result Response ExceptionResponse) (answer : Answer) → header ≡ asked → IsOf function result
    → Judges asked function header result answer → answer ≡ answer_of result
judged_result asked function header result (Ok (Ok response)) e is (same, of, r) = ap answer_of (sym r)
judged_result asked function header result (Ok (Err code)) e is (same, of, refusal, r, c) = ap (λ x. Ok (Err x)) (sym c) ∙ ap answer_of (sym r)
judged_result asked function header result (Err (protocol (HeaderMismatch request response received))) e is judges = absurd (judges.0 e)
judged_result asked function header result (Err (protocol (FunctionCodeMismatch request received))) e is judges = absurd (judges.1 is)
judged_result asked function header result (Err (protocol (PayloadMismatch response))) e is judges = absurd judges
judged_result asked function header result (Err (Transport fault)) e is judges = absurd judges
judged_result asked function header result (Err NoMemory) e is judges = absurd judges

module _ {H : Type 0} (P : Protocol H) (alone : IsFoundAlone P) (from to : Input) (sunk sinks : Output) (header : H) (asked : Asked) (turns : ℕ) (held : List ℕ)
    (fits : Fits (request_pdu asked)) (told : IsTrue from.told) (no_read : Rose from.faults to.faults → ⊥) (no_write : Rose sunk.faults sinks.faults → ⊥)
    (pdu : List ℕ) (result : Result Response ExceptionResponse) (whole : P.IsWhole header pdu) (means : P.means pdu ≡ Ok result) (of : IsOf (function_asked asked) result)
    (left : from.left ≡ P.adu header pdu) (short : length from.left < turns) where
  module _ (answer : Answer) (r : Exchanged P (outside from sunk) (outside to sinks) header asked turns held answer) where
    parts : from.left ≡ r.fed ++ to.left
    parts = (r.passes.source.content told).left ∙ ap (λ b. b ++ to.left) (r.passes.read told)

    joined : P.adu header pdu ≡ r.fed ++ to.left
    joined = sym left ∙ parts

    ended : {X : Type 0} (kept : List ℕ) → P.Finds (P.seen header) r.fed (totals r.made) (waiting kept) → to.left ≡ [] → X
    ended kept finds none = absurd (alone header pdu r.fed to.left (totals r.made) (waiting kept) whole joined finds none)

    judged : IsJudged P (P.seen header) (function_asked asked) r.fed (totals r.made) held answer → answer ≡ answer_of result
    judged (seen, found, other, finds, meant, judges) =
        let facts = alone header pdu r.fed to.left (totals r.made) (reply held seen found) whole joined finds in
        let same : other ≡ result = ok_same other result (P.means pdu) (ap P.means (sym facts.3) ∙ meant) means in
        judged_result (P.seen header) (function_asked asked) seen result answer facts.2 of (subst (λ y. Judges (P.seen header) (function_asked asked) seen y answer) same judges)

    count : length r.made < turns
    count = omega (arith, RisesTo-count 0 (length r.fed) r.made r.passes.rises, ap length parts, length-append r.fed to.left)

  pub completes : (answer : Answer) → Exchanged P (outside from sunk) (outside to sinks) header asked turns held answer → (answer ≡ answer_of result) ⊎ (answer ≡ Err NoMemory)
  completes (Ok x) r = inl (judged (Ok x) r r.ends)
  completes (Err (protocol fault)) r = inl (judged (Err (protocol fault)) r r.ends)
  completes (Err (Transport transport.NotConnected)) r = absurd r.ends
  completes (Err (Transport (transport.RequestTooLong size))) r = absurd (omega (arith, ((r.too_long size).0 refl).0, fits))
  completes (Err (Transport transport.WriteFault)) r = absurd (no_write (r.write_fault refl))
  completes (Err (Transport transport.ReadFault)) r = absurd (no_read (r.read_fault refl))
  completes (Err (Transport transport.BrokenPipe)) r = ended (Err (Transport transport.BrokenPipe)) r held r.ends.0 (r.ended told)
  completes (Err (Transport transport.BytesRemaining)) r = ended (Err (Transport transport.BytesRemaining)) r held r.ends.0 (r.ended told)
  completes (Err (Transport transport.TurnLimit)) r = absurd (omega (arith, r.spends, count (Err (Transport transport.TurnLimit)) r))
  completes (Err (Transport (transport.InvalidResponse reason))) r =
      let (seen, found, finds, meant) = r.ends in
      let facts = alone header pdu r.fed to.left (totals r.made) (reply held seen found) whole (joined (Err (Transport (transport.InvalidResponse reason))) r) finds in
      ok_err result reason (P.means pdu) means (ap P.means (sym facts.3) ∙ meant)
  completes (Err (Transport transport.TooManyRetries)) r =
      absurd (alone header pdu r.fed to.left (totals r.made) (broken held transport.TooManyRetries) whole (joined (Err (Transport transport.TooManyRetries)) r) r.ends.1)
  completes (Err (Transport transport.InvalidLength)) r =
      absurd (alone header pdu r.fed to.left (totals r.made) (broken held transport.InvalidLength) whole (joined (Err (Transport transport.InvalidLength)) r) r.ends.1)
  completes (Err (Transport (transport.InvalidProtocol number))) r =
      absurd (alone header pdu r.fed to.left (totals r.made) (broken held (transport.InvalidProtocol number)) whole (joined (Err (Transport (transport.InvalidProtocol number))) r) r.ends.1)
  completes (Err NoMemory) r = inr refl

-- what a call did to a client says so of it
pub called_completes : {L H I : Type 0} (P : Protocol H) (N : Heading H I) → IsFoundAlone P → (M : LinkMeaning L) (old : ClientState I L) (asked : Asked) (answer : Answer) (new : ClientState I L)
    → Called P N M old asked answer new → IsComplete P N M old asked answer new
called_completes P N alone M old asked answer new called = λ on fits told no_read no_write pdu result whole means of left short.
    completes P alone (M.input old.link) (M.input new.link) (M.output old.link) (M.output new.link) (next_header N old) asked old.turns new.held fits told no_read no_write pdu result whole means of left short
    answer (called.ran on)
