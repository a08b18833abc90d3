-- What a call makes of the bytes that a server appends: of one frame whose first bytes tell its length, and of none.
use Rattle.std.proofs.Common.{◌≡◌, ◌⊎◌, inl, inr, ℕ, ◌*◌, List, [], ◌++◌, take, drop, Result, Ok, Err, refl, sym, ap, ◌∙◌, subst, arith}
use Rattle.std.proofs.lemmas.List.{take_all, drop_all, take-append-drop}
use Rattle.modbus_frame.specs.declared.code.FunctionCode.{FunctionCode}
use Rattle.modbus_frame.specs.declared.fault.HeaderSeen.{HeaderSeen}
use Rattle.modbus_frame.specs.declared.fault.Error.TheVariants.{Protocol as protocol, Transport, NoMemory}
use Rattle.modbus_frame.specs.declared.fault.Reason.{Reason}
use Rattle.modbus_frame.specs.declared.fault.TransportError.{TransportError}
use Rattle.modbus_frame.specs.declared.fault.TransportError.TheVariants as transport
use Rattle.modbus_frame.specs.declared.response.Response.{Response}
use Rattle.modbus_frame.specs.declared.response.ExceptionResponse.{ExceptionResponse}
use Rattle.modbus_frame.specs.declared.rtu.Header.{Header}
use Rattle.modbus_pdu.specs.ResponseOf.{response_result_of}
use Rattle.modbus_pdu.specs.Message.{message}
use Rattle.modbus_rtu.specs.declared.verdict.Verdict.{Verdict}
use Rattle.modbus_rtu.specs.declared.verdict.Verdict.TheVariants.{Open, Bad, Good}
use Rattle.modbus_rtu.specs.Frame.{frame}
use Rattle.modbus_rtu.specs.ResponseHead.{response_verdict, HasResponseHead}
use Rattle.modbus_client.specs.Limits.{read_room}
use Rattle.modbus_client.specs.Call.{IsJudged}
use Rattle.modbus_client.specs.Calls.{CallEndsAs, CallEndsRead}
use Rattle.modbus_local.specs.Exchange.{IsOfReplies, full_cuts, ReadsAll}
use Rattle.modbus_client.specs.Matches.{Answer, Judges}
use Rattle.modbus_client.specs.Protocol as found
use Rattle.modbus_client.specs.Protocol.{Found, IsOfMessage}
use Rattle.modbus_client.specs.Rtu.{rtu_protocol, slave_seen, Waits, FindsReplyFrame, FoundFrame, FoundCrowd}
use Rattle.modbus_client.specs.Search.{verdict_when_read}

-- a frame alone is found in whatever pieces it comes
abbrev pub FramesAreFound : Type 0
FramesAreFound = (header : Header) (pdu bytes rest cuts : List ℕ) (found : Found) → HasResponseHead (message header.slave_id pdu) → frame header.slave_id pdu ≡ bytes ++ rest
    → FindsReplyFrame bytes cuts found → IsOfMessage (slave_seen header.slave_id) pdu rest found

ok_same : (a b : Result Response ExceptionResponse) (m : Result (Result Response ExceptionResponse) Reason) → m ≡ Ok a → m ≡ Ok b → a ≡ b
ok_same a b m e f = cc

ok_err : {P : Type 0} (a : Result Response ExceptionResponse) (r : Reason) (m : Result (Result Response ExceptionResponse) Reason) → m ≡ Ok a → m ≡ Err r → P
ok_err a r m e f = cc

open_bad : {v : Verdict} → v ≡ Open → v ≡ Bad → ⊥
open_bad o b = cc

open_good : {v : Verdict} {n : ℕ} → v ≡ Open → v ≡ Good n → ⊥
open_good o g = cc

-- In no bytes the search waits, and nothing is held.
module _ (nothing_open : response_verdict [] ≡ Open) (seen_of : HeaderSeen) (function : FunctionCode) where
  none_left : (n : ℕ) → (let none : List ℕ = [] in take n none ≡ none)
  none_left n = take_all n [] (omega arith)

  seen_none : (offset cut : ℕ) → verdict_when_read [] offset cut ≡ Open
  seen_none offset cut = ap response_verdict (ap (drop offset) (none_left cut) ∙ drop_all offset [] (omega arith)) ∙ nothing_open

  no_frame : (cuts held : List ℕ) (header : HeaderSeen) (pdu : List ℕ) → FoundFrame [] cuts held header pdu → ⊥
  no_frame cuts held header pdu r = let (looks, passed, (e, cut, l, good)) = r.finds in open_good (seen_none r.offset cut) good

  no_crowd : (cuts held : List ℕ) (fault : TransportError) → FoundCrowd [] cuts held fault → ⊥
  no_crowd cuts held fault r = let (looks, passed, (e, cut, l, bad, first, is, share)) = r.finds in open_bad (seen_none r.offset cut) bad

  none_held : (cuts held : List ℕ) → Waits [] cuts held → held ≡ []
  none_held cuts held w = w.holds ∙ drop_all w.place [] (omega arith)

  no_message : (cuts held : List ℕ) (answer : Answer) → IsJudged rtu_protocol seen_of function [] cuts held answer → ⊥
  no_message cuts held answer (header, pdu, result, finds, meant, judges) = no_frame cuts held header pdu finds

  nothing_ends : (cuts held : List ℕ) (answer : Answer) → IsOfReplies answer → CallEndsAs rtu_protocol seen_of function [] cuts held answer → (answer ≡ Err (Transport transport.BrokenPipe)) ⊎ (answer ≡ Err NoMemory)
  nothing_ends cuts held (Ok x) only ends = absurd (no_message cuts held (Ok x) ends)
  nothing_ends cuts held (Err (protocol fault)) only ends = absurd (no_message cuts held (Err (protocol fault)) ends)
  nothing_ends cuts held (Err (Transport transport.BrokenPipe)) only ends = inl refl
  nothing_ends cuts held (Err (Transport transport.BytesRemaining)) only ends = absurd (ends.1 (none_held cuts held ends.0))
  nothing_ends cuts held (Err (Transport (transport.InvalidResponse reason))) only (header, pdu, finds, meant) = absurd (no_frame cuts held header pdu finds)
  nothing_ends cuts held (Err (Transport transport.TooManyRetries)) only ends = absurd (no_crowd cuts held transport.TooManyRetries ends.1)
  nothing_ends cuts held (Err (Transport transport.InvalidLength)) only ends = absurd (no_crowd cuts held transport.InvalidLength ends.1)
  nothing_ends cuts held (Err (Transport (transport.InvalidProtocol number))) only ends = absurd (no_crowd cuts held (transport.InvalidProtocol number) ends.1)
  nothing_ends cuts held (Err (Transport transport.NotConnected)) only ends = absurd ends
  nothing_ends cuts held (Err (Transport (transport.RequestTooLong size))) only ends = absurd (only.0 refl)
  nothing_ends cuts held (Err (Transport transport.WriteFault)) only ends = absurd (only.1 refl)
  nothing_ends cuts held (Err (Transport _)) only ends = absurd only
  nothing_ends cuts held (Err NoMemory) only ends = inr refl

  pub nothing_back : (held : List ℕ) (answer : Answer) → ReadsAll rtu_protocol seen_of function [] held answer → (answer ≡ Err (Transport transport.BrokenPipe)) ⊎ (answer ≡ Err NoMemory)
  nothing_back held answer r =
      nothing_ends (full_cuts r.reads []) held answer r.only
      (subst (λ b. CallEndsAs rtu_protocol seen_of function b (full_cuts r.reads []) held answer) (none_left (r.reads * read_room)) r.ends)

-- One frame gives what its PDU stands for.
module _ (alone : FramesAreFound) (slave : ℕ) (function : FunctionCode) (pdu : List ℕ) (result : Result Response ExceptionResponse)
    (has : HasResponseHead (message slave pdu)) (means : response_result_of pdu ≡ Ok result) (bytes rest cuts : List ℕ) (joined : frame slave pdu ≡ bytes ++ rest) where
  header : Header
  header = record { slave_id = slave }

  found_is : (found : Found) → FindsReplyFrame bytes cuts found → IsOfMessage (slave_seen slave) pdu rest found
  unfolding header
  found_is found finds = alone header pdu bytes rest cuts found has joined finds

  judged : (held : List ℕ) (answer : Answer) → IsJudged rtu_protocol (slave_seen slave) function bytes cuts held answer → Judges (slave_seen slave) function (slave_seen slave) result answer
  judged held answer (from, other, told, finds, meant, judges) =
      let facts = found_is (found.reply held from other) finds in
      let same : told ≡ result = ok_same told result (response_result_of pdu) (ap response_result_of (sym facts.3) ∙ meant) means in
      subst (λ y. Judges (slave_seen slave) function (slave_seen slave) y answer) same (subst (λ s. Judges (slave_seen slave) function s told answer) facts.2 judges)

  read_ends : (held : List ℕ) (answer : Answer) → IsOfReplies answer → CallEndsAs rtu_protocol (slave_seen slave) function bytes cuts held answer → CallEndsRead answer rest
      → Judges (slave_seen slave) function (slave_seen slave) result answer ⊎ (answer ≡ Err NoMemory)
  read_ends held (Ok x) only ends ended = inl (judged held (Ok x) ends)
  read_ends held (Err (protocol fault)) only ends ended = inl (judged held (Err (protocol fault)) ends)
  read_ends held (Err (Transport transport.BrokenPipe)) only ends ended = absurd (found_is (found.waiting held) ends.0 ended)
  read_ends held (Err (Transport transport.BytesRemaining)) only ends ended = absurd (found_is (found.waiting held) ends.0 ended)
  read_ends held (Err (Transport (transport.InvalidResponse reason))) only (from, other, finds, meant) ended =
      let facts = found_is (found.reply held from other) finds in
      ok_err result reason (response_result_of pdu) means (ap response_result_of (sym facts.3) ∙ meant)
  read_ends held (Err (Transport transport.TooManyRetries)) only ends ended = absurd (found_is (found.broken held transport.TooManyRetries) ends.1)
  read_ends held (Err (Transport transport.InvalidLength)) only ends ended = absurd (found_is (found.broken held transport.InvalidLength) ends.1)
  read_ends held (Err (Transport (transport.InvalidProtocol number))) only ends ended = absurd (found_is (found.broken held (transport.InvalidProtocol number)) ends.1)
  read_ends held (Err (Transport transport.NotConnected)) only ends ended = absurd ends
  read_ends held (Err (Transport (transport.RequestTooLong size))) only ends ended = absurd (only.0 refl)
  read_ends held (Err (Transport transport.WriteFault)) only ends ended = absurd (only.1 refl)
  read_ends held (Err (Transport _)) only ends ended = absurd only
  read_ends held (Err NoMemory) only ends ended = inr refl

pub frame_back : FramesAreFound → (slave : ℕ) (function : FunctionCode) (pdu : List ℕ) (result : Result Response ExceptionResponse) → HasResponseHead (message slave pdu)
    → response_result_of pdu ≡ Ok result → (held : List ℕ) (answer : Answer) → ReadsAll rtu_protocol (slave_seen slave) function (frame slave pdu) held answer
    → Judges (slave_seen slave) function (slave_seen slave) result answer ⊎ (answer ≡ Err NoMemory)
frame_back alone slave function pdu result has means held answer r =
    let n = r.reads * read_room in
    read_ends alone slave function pdu result has means (take n (frame slave pdu)) (drop n (frame slave pdu)) (full_cuts r.reads (frame slave pdu))
    (sym (take-append-drop n (frame slave pdu))) held answer r.only r.ends r.ended
