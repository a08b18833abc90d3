-- What is written of a request, and what a call makes of one that was not sent.
use Rattle.std.proofs.Common.{◌≡◌, ◌↔◌, inl, ℕ, ◌<◌, List, [], length, Result, Err, refl, sym, ap, ◌∙◌, arith}
use Rattle.std.specs.Prelude.{IfErr}
use Rattle.modbus_link.specs.Outside.{Outside, outside, Input, Output, Rose}
use Rattle.modbus_link.specs.Passes.{Passes, passes_none}
use Rattle.modbus_link.specs.Reads.{Spends}
use Rattle.modbus_frame.specs.Meaning.{Asked, function_asked}
use Rattle.modbus_frame.specs.declared.fault.Error.{Error}
use Rattle.modbus_frame.specs.declared.fault.Error.TheVariants.{Protocol as protocol, Transport, NoMemory}
use Rattle.modbus_frame.specs.declared.fault.HeaderSeen.{HeaderSeen}
use Rattle.modbus_frame.specs.declared.fault.TransportError.TheVariants as transport
use Rattle.modbus_pdu.specs.Encodes.{Fits, told_size}
use Rattle.modbus_pdu.specs.Limits.{max_pdu}
use Rattle.modbus_pdu.specs.RequestPdu.{request_pdu}
use Rattle.modbus_client.specs.Protocol.{Protocol, waiting}
use Rattle.modbus_client.specs.Matches.{Answer}
use Rattle.modbus_client.specs.Sends.{WritesRequest, IsOfSending}
use Rattle.modbus_client.specs.Calls.{CallEndsAs, CallEndsRead, CameLast, call_spending, Sent, Exchanged, CountsDropped}
use Rattle.modbus_client.specs.Polled.{IsRefusedCall}

-- an exchange with the count of the messages that it dropped, as one fact
pub record Counted {H : Type 0} (P : Protocol H) (from to : Outside) (header : H) (asked : Asked) (turns : ℕ) (held : List ℕ) (dropped : ℕ) (answer : Answer) : Type 0 where
  pub ran : Exchanged P from to header asked turns held answer
  pub counts : CountsDropped ran dropped

pub counted : {H : Type 0} (P : Protocol H) (from to : Outside) (header : H) (asked : Asked) (turns : ℕ) (held : List ℕ) (dropped : ℕ) (answer : Answer)
    → (ran : Exchanged P from to header asked turns held answer) × CountsDropped ran dropped → Counted P from to header asked turns held dropped answer
counted P from to header asked turns held dropped answer all = record { ran = all.0; counts = all.1 }

module _ (X : Type 0) {H : Type 0} (P : Protocol H) (header : H) (asked : Asked) (held : List ℕ) (empty : held ≡ []) where
  -- the PDU is too long
  sent_long : (a : Input) (k : Output) (size : ℕ) → max_pdu < length (request_pdu asked) → size ≡ told_size (request_pdu asked)
      → Sent {X = X} P (outside a k) (outside a k) header asked held (Err (Transport (transport.RequestTooLong size)))
  sent_long a k size long is = record {
    sent = [];
    passes = passes_none (outside a k);
    source = refl;
    only = tt;
    too_long = λ other. (
      λ e. let same : size ≡ other = cc in (long, sym same ∙ is),
      λ told. let same : size ≡ other = is ∙ sym told.1 in ap (λ n. Err (Transport (transport.RequestTooLong n))) same,
    );
    writes = refl;
    write_fault = λ e. cc;
    emptied = empty;
  }

  -- the PDU fits, and these bytes of the request were sent
  sent_fit : (a b : Input) (k m : Output) (answer : Result X Error) (sent : List ℕ) → Fits (request_pdu asked) → b ≡ a → Passes (outside a k) (outside b m) [] [] sent → IfErr answer IsOfSending
      → ((size : ℕ) → answer ≡ Err (Transport (transport.RequestTooLong size)) → ⊥) → WritesRequest (P.adu header (request_pdu asked)) sent answer
      → (answer ≡ Err (Transport transport.WriteFault) → Rose k.faults m.faults) → Sent P (outside a k) (outside b m) header asked held answer
  sent_fit a b k m answer sent fits same passes only short writes write_fault = record {
    sent = sent;
    passes = passes;
    source = same;
    only = only;
    too_long = λ other. (λ e. absurd (short other e), λ told. absurd (omega (arith, fits, told.0)));
    writes = writes;
    write_fault = write_fault;
    emptied = empty;
  }

  -- memory was wanting
  sent_wanting : (a : Input) (k : Output) → Fits (request_pdu asked) → Sent {X = X} P (outside a k) (outside a k) header asked held (Err NoMemory)
  sent_wanting a k fits = sent_fit a a k k (Err NoMemory) [] fits refl (passes_none (outside a k)) tt (λ size e. cc) (P.adu header (request_pdu asked), refl) (λ e. cc)

  -- a call was not opened
  pub sent_refused : (a : Input) (k : Output) (error : Error) → IsRefusedCall (request_pdu asked) error → Sent {X = X} P (outside a k) (outside a k) header asked held (Err error)
  sent_refused a k (protocol fault) refused = absurd refused
  sent_refused a k (Transport (transport.RequestTooLong size)) refused = sent_long a k size refused.0 refused.1
  sent_refused a k (Transport _) refused = absurd refused
  sent_refused a k NoMemory refused = sent_wanting a k refused

-- a request that was not sent is the whole call
module _ (X : Type 0) {H : Type 0} (P : Protocol H) (opening : (seen : HeaderSeen) → P.Finds seen [] [] (waiting [])) (a b : Input) (k m : Output) (header : H) (asked : Asked) (turns : ℕ) (held : List ℕ) where
  abbrev pub SentAs : Error → Type 0
  SentAs e = Sent {X = X} P (outside a k) (outside b m) header asked held (Err e)

  unsent : (e : Error) → SentAs e → CallEndsAs P (P.seen header) (function_asked asked) [] [] held (Err e) → CameLast P (P.seen header) [] [] (Err e) → CallEndsRead (Err e) b.left → Spends (call_spending (Err e)) 0 turns
      → (((size : ℕ) → (let answer : Answer = Err e in answer ≡ Err (Transport (transport.RequestTooLong size))) ↔ ((max_pdu < length (request_pdu asked)) × (size ≡ told_size (request_pdu asked)))))
      → ((s : SentAs e) → (let answer : Answer = Err e in WritesRequest (P.adu header (request_pdu asked)) s.sent answer))
      → (let answer : Answer = Err e in answer ≡ Err (Transport transport.WriteFault) → Rose k.faults m.faults)
      → (let answer : Answer = Err e in answer ≡ Err (Transport transport.ReadFault) → Rose a.faults b.faults)
      → Exchanged P (outside a k) (outside b m) header asked turns held (Err e)
  unsent e s ends last ended spends long writes write_fault read_fault = record {
    fed = [];
    made = [];
    sent = s.sent;
    passes = s.passes;
    too_long = long;
    writes = writes s;
    ends = ends;
    last = last;
    ended = λ told. ended;
    spends = spends;
    rooms = tt;
    write_fault = write_fault;
    read_fault = read_fault;
  }

  pub exchanged_unsent : (e : Error) → SentAs e → Exchanged P (outside a k) (outside b m) header asked turns held (Err e)
  exchanged_unsent (protocol fault) s = absurd s.only
  exchanged_unsent (Transport (transport.RequestTooLong size)) s =
      unsent (Transport (transport.RequestTooLong size)) s (refl, s.emptied) (λ e. cc) tt (omega arith)
      (λ n. (
        λ e. let same : size ≡ n = cc in (s.too_long n).0 (ap (λ n. Err (Transport (transport.RequestTooLong n))) same),
        λ told. let same : size ≡ n = ((s.too_long size).0 refl).1 ∙ sym told.1 in ap (λ n. Err (Transport (transport.RequestTooLong n))) same,
      ))
      (λ s. s.writes) (λ e. cc) (λ e. cc)
  exchanged_unsent (Transport transport.WriteFault) s =
      unsent (Transport transport.WriteFault) s (refl, s.emptied) (λ e. cc) tt (omega arith)
      (λ n. (λ e. cc, λ told. let bad = (s.too_long n).1 told in cc)) (λ s. s.writes) (λ e. s.write_fault refl) (λ e. cc)
  exchanged_unsent (Transport _) s = absurd s.only
  exchanged_unsent NoMemory s =
      unsent NoMemory s (inl ([], opening (P.seen header))) tt tt (omega arith)
      (λ n. (λ e. cc, λ told. let bad = (s.too_long n).1 told in cc)) (λ s. s.writes) (λ e. cc) (λ e. cc)

  -- it dropped no message of another request
  pub unsent_dropping : (e : Error) → ((seen : HeaderSeen) → P.Counts seen [] [] 0) → SentAs e → (ran : Exchanged P (outside a k) (outside b m) header asked turns held (Err e)) × CountsDropped ran 0
  unfolding exchanged_unsent unsent
  unsent_dropping (protocol fault) none s = absurd s.only
  unsent_dropping (Transport (transport.RequestTooLong size)) none s = (exchanged_unsent (Transport (transport.RequestTooLong size)) s, none (P.seen header))
  unsent_dropping (Transport transport.WriteFault) none s = (exchanged_unsent (Transport transport.WriteFault) s, none (P.seen header))
  unsent_dropping (Transport _) none s = absurd s.only
  unsent_dropping NoMemory none s = (exchanged_unsent NoMemory s, none (P.seen header))
