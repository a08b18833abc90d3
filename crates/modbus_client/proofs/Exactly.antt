-- What the search finds in the bytes that a call read is what the call tells.
use Rattle.std.proofs.Common.{◌≡◌, ◌≢◌, inl, inr, ℕ, List, [], ◌∷◌, length, Ok, Err, refl, sym, ap, ◌∙◌, subst, arith}
use Rattle.modbus_link.specs.declared.outside.Cut.{Cut}
use Rattle.modbus_link.specs.Outside.{outside, Input, Output, Rose, RisesTo}
use Rattle.modbus_link.specs.Runs.{RisesTo-count}
use Rattle.modbus_link.specs.Reads.{totals}
use Rattle.modbus_frame.specs.Meaning.{Asked, function_asked}
use Rattle.modbus_frame.specs.declared.fault.HeaderSeen.{HeaderSeen}
use Rattle.modbus_frame.specs.declared.fault.Error.TheVariants.{Protocol as protocol, Transport, NoMemory}
use Rattle.modbus_frame.specs.declared.fault.TransportError.{TransportError}
use Rattle.modbus_frame.specs.declared.fault.TransportError.TheVariants as transport
use Rattle.modbus_pdu.specs.Encodes.{Fits}
use Rattle.modbus_pdu.specs.RequestPdu.{request_pdu}
use Rattle.std.specs.Prelude.{IsOkAnd}
use Rattle.modbus_pdu.specs.ResponseOf.{AnswerCarriesMemory}
use Rattle.modbus_client.specs.Protocol.{Protocol, Found, waiting, reply, broken}
use Rattle.modbus_client.specs.Matches.{Answer, Judges}
use Rattle.modbus_client.specs.Call.{IsJudged}
use Rattle.modbus_client.specs.Calls.{Exchanged}
use Rattle.modbus_client.specs.Exactly.{IsAnswerTo, IsToldOf, IsOfWaiting, TellsWaiting, error_at_end}

abbrev pub IsOneWay : {H : Type 0} → Protocol H → Type 0
IsOneWay {H} P = (asked : HeaderSeen) (bytes cuts : List ℕ) (found other : Found) → P.Finds asked bytes cuts found → P.Finds asked bytes cuts other → found ≡ other

no_made : (made : List Cut) (fed : List ℕ) → fed ≡ [] → RisesTo 0 made (length fed) → made ≡ []
no_made [] fed none rises = refl
no_made (cut ∷ made) fed none rises = absurd (omega (arith, RisesTo-count 0 (length fed) (cut ∷ made) rises, ap length none))

module _ {H : Type 0} (P : Protocol H) (opening : (asked : HeaderSeen) → P.Finds asked [] [] (waiting [])) (one_way : IsOneWay P) (from to : Input) (sunk sinks : Output) (header : H) (asked : Asked) (turns : ℕ) (held : List ℕ) where
  module _ (answer : Answer) (r : Exchanged P (outside from sunk) (outside to sinks) header asked turns held answer) where
    -- two searches in the same bytes are one
    same : (found other : Found) → P.Finds (P.seen header) r.fed (totals r.made) found → P.Finds (P.seen header) r.fed (totals r.made) other → found ≡ other
    same found other a b = one_way (P.seen header) r.fed (totals r.made) found other a b

    -- with no byte the search waits
    none_waits : r.fed ≡ [] → P.Finds (P.seen header) r.fed (totals r.made) (waiting [])
    none_waits none = rw (none, no_made r.made r.fed none r.passes.rises) (opening (P.seen header))

    meets : (kept : List ℕ) (seen : HeaderSeen) (pdu : List ℕ) → P.Finds (P.seen header) r.fed (totals r.made) (reply kept seen pdu) → IsJudged P (P.seen header) (function_asked asked) r.fed (totals r.made) held answer
        → IsAnswerTo (P.seen header) (function_asked asked) seen (P.means pdu) answer
    meets kept seen pdu finds (seen', pdu', result, finds', meant, judges) =
        let e : reply kept seen pdu ≡ reply held seen' pdu' = same (reply kept seen pdu) (reply held seen' pdu') finds finds' in
        let first : seen ≡ seen' = cc in
        let second : pdu ≡ pdu' = cc in
        let is : P.means pdu ≡ Ok result = ap P.means second ∙ meant in
        subst (λ m. IsAnswerTo (P.seen header) (function_asked asked) seen m answer) (sym is)
        (subst (λ s. Judges (P.seen header) (function_asked asked) s result answer) (sym first) judges)

    no_wait : {X : Type 0} (kept seen-held : List ℕ) (seen : HeaderSeen) (pdu : List ℕ) → P.Finds (P.seen header) r.fed (totals r.made) (reply kept seen pdu) → P.Finds (P.seen header) r.fed (totals r.made) (waiting seen-held) → X
    no_wait kept other seen pdu a b = let e : reply kept seen pdu ≡ waiting other = same (reply kept seen pdu) (waiting other) a b in cc

    no_break : {X : Type 0} (kept other : List ℕ) (seen : HeaderSeen) (pdu : List ℕ) (fault : TransportError) → P.Finds (P.seen header) r.fed (totals r.made) (reply kept seen pdu) → P.Finds (P.seen header) r.fed (totals r.made) (broken other fault) → X
    no_break kept other seen pdu fault a b = let e : reply kept seen pdu ≡ broken other fault = same (reply kept seen pdu) (broken other fault) a b in cc

    breaks_not_waits : {X : Type 0} (kept other : List ℕ) (fault : TransportError) → P.Finds (P.seen header) r.fed (totals r.made) (broken kept fault) → P.Finds (P.seen header) r.fed (totals r.made) (waiting other) → X
    breaks_not_waits kept other fault a b = let e : broken kept fault ≡ waiting other = same (broken kept fault) (waiting other) a b in cc

    same_fault : (kept other : List ℕ) (fault fault' : TransportError) → P.Finds (P.seen header) r.fed (totals r.made) (broken kept fault) → P.Finds (P.seen header) r.fed (totals r.made) (broken other fault') → fault' ≡ fault
    same_fault kept other fault fault' a b = let e : broken kept fault ≡ broken other fault' = same (broken kept fault) (broken other fault') a b in cc

  abbrev Tells : Answer → Found → Type 0
  Tells answer found = IsToldOf P.means (P.seen header) (function_asked asked) found answer

  told_reply : (kept : List ℕ) (seen : HeaderSeen) (pdu : List ℕ) (answer : Answer) (r : Exchanged P (outside from sunk) (outside to sinks) header asked turns held answer) → P.Finds (P.seen header) r.fed (totals r.made) (reply kept seen pdu) → Tells answer (reply kept seen pdu)
  told_reply kept seen pdu (Ok x) r finds = inl (meets (Ok x) r kept seen pdu finds r.ends)
  told_reply kept seen pdu (Err (protocol fault)) r finds = inl (meets (Err (protocol fault)) r kept seen pdu finds r.ends)
  told_reply kept seen pdu (Err (Transport transport.NotConnected)) r finds = absurd r.ends
  told_reply kept seen pdu (Err (Transport (transport.RequestTooLong size))) r finds = no_wait _ r kept [] seen pdu finds (none_waits _ r r.ends.0)
  told_reply kept seen pdu (Err (Transport transport.WriteFault)) r finds = no_wait _ r kept [] seen pdu finds (none_waits _ r r.ends.0)
  told_reply kept seen pdu (Err (Transport transport.ReadFault)) r finds = no_wait _ r kept held seen pdu finds r.ends
  told_reply kept seen pdu (Err (Transport transport.TurnLimit)) r finds = no_wait _ r kept held seen pdu finds r.ends
  told_reply kept seen pdu (Err (Transport transport.BrokenPipe)) r finds = no_wait _ r kept held seen pdu finds r.ends.0
  told_reply kept seen pdu (Err (Transport transport.BytesRemaining)) r finds = no_wait _ r kept held seen pdu finds r.ends.0
  told_reply kept seen pdu (Err (Transport (transport.InvalidResponse reason))) r finds =
      let (seen', pdu', finds', meant) = r.ends in
      let e : reply kept seen pdu ≡ reply held seen' pdu' = same (Err (Transport (transport.InvalidResponse reason))) r (reply kept seen pdu) (reply held seen' pdu') finds finds' in
      let second : pdu ≡ pdu' = cc in
      let is : P.means pdu ≡ Err reason = ap P.means second ∙ meant in
      let answer : Answer = Err (Transport (transport.InvalidResponse reason)) in
      inl (subst (λ m. IsAnswerTo (P.seen header) (function_asked asked) seen m answer) (sym is) refl)
  told_reply kept seen pdu (Err (Transport transport.TooManyRetries)) r finds = no_break _ r kept held seen pdu transport.TooManyRetries finds r.ends.1
  told_reply kept seen pdu (Err (Transport transport.InvalidLength)) r finds = no_break _ r kept held seen pdu transport.InvalidLength finds r.ends.1
  told_reply kept seen pdu (Err (Transport (transport.InvalidProtocol number))) r finds = no_break _ r kept held seen pdu (transport.InvalidProtocol number) finds r.ends.1
  told_reply kept seen pdu (Err NoMemory) r finds = elim r.ends [
    | inl waits ↦ no_wait _ r kept waits.0 seen pdu finds waits.1
    | inr (rest, seen', pdu', finds', carries) ↦
        let e : reply kept seen pdu ≡ reply rest seen' pdu' = same (Err NoMemory) r (reply kept seen pdu) (reply rest seen' pdu') finds finds' in
        let second : pdu ≡ pdu' = cc in
        inr (refl, subst (λ p. IsOkAnd (P.means p) AnswerCarriesMemory) (sym second) carries)
  ]

  told_broken : (kept : List ℕ) (fault : TransportError) (answer : Answer) (r : Exchanged P (outside from sunk) (outside to sinks) header asked turns held answer) → P.Finds (P.seen header) r.fed (totals r.made) (broken kept fault) → Tells answer (broken kept fault)
  told_broken kept fault (Ok x) r finds = let (seen, pdu, result, finds', meant, judges) = r.ends in no_break _ r held kept seen pdu fault finds' finds
  told_broken kept fault (Err (protocol error)) r finds = let (seen, pdu, result, finds', meant, judges) = r.ends in no_break _ r held kept seen pdu fault finds' finds
  told_broken kept fault (Err (Transport transport.NotConnected)) r finds = absurd r.ends
  told_broken kept fault (Err (Transport (transport.RequestTooLong size))) r finds = breaks_not_waits _ r kept [] fault finds (none_waits _ r r.ends.0)
  told_broken kept fault (Err (Transport transport.WriteFault)) r finds = breaks_not_waits _ r kept [] fault finds (none_waits _ r r.ends.0)
  told_broken kept fault (Err (Transport transport.ReadFault)) r finds = breaks_not_waits _ r kept held fault finds r.ends
  told_broken kept fault (Err (Transport transport.TurnLimit)) r finds = breaks_not_waits _ r kept held fault finds r.ends
  told_broken kept fault (Err (Transport transport.BrokenPipe)) r finds = breaks_not_waits _ r kept held fault finds r.ends.0
  told_broken kept fault (Err (Transport transport.BytesRemaining)) r finds = breaks_not_waits _ r kept held fault finds r.ends.0
  told_broken kept fault (Err (Transport (transport.InvalidResponse reason))) r finds = let (seen, pdu, finds', meant) = r.ends in no_break _ r held kept seen pdu fault finds' finds
  told_broken kept fault (Err (Transport transport.TooManyRetries)) r finds = ap (λ f. Err (Transport f)) (same_fault _ r kept held fault transport.TooManyRetries finds r.ends.1)
  told_broken kept fault (Err (Transport transport.InvalidLength)) r finds = ap (λ f. Err (Transport f)) (same_fault _ r kept held fault transport.InvalidLength finds r.ends.1)
  told_broken kept fault (Err (Transport (transport.InvalidProtocol number))) r finds = ap (λ f. Err (Transport f)) (same_fault _ r kept held fault (transport.InvalidProtocol number) finds r.ends.1)
  told_broken kept fault (Err NoMemory) r finds = elim r.ends [
    | inl waits ↦ breaks_not_waits _ r kept waits.0 fault finds waits.1
    | inr (rest, seen, pdu, finds', carries) ↦ no_break _ r rest kept seen pdu fault finds' finds
  ]

  told_waiting : (kept : List ℕ) (answer : Answer) (r : Exchanged P (outside from sunk) (outside to sinks) header asked turns held answer) → P.Finds (P.seen header) r.fed (totals r.made) (waiting kept) → Tells answer (waiting kept)
  told_waiting kept (Ok x) r finds = let (seen, pdu, result, finds', meant, judges) = r.ends in no_wait _ r held kept seen pdu finds' finds
  told_waiting kept (Err (protocol fault)) r finds = let (seen, pdu, result, finds', meant, judges) = r.ends in no_wait _ r held kept seen pdu finds' finds
  told_waiting kept (Err (Transport transport.NotConnected)) r finds = absurd r.ends
  told_waiting kept (Err (Transport (transport.RequestTooLong size))) r finds = λ e. cc
  told_waiting kept (Err (Transport transport.WriteFault)) r finds = λ e. cc
  told_waiting kept (Err (Transport transport.ReadFault)) r finds = λ e. cc
  told_waiting kept (Err (Transport transport.TurnLimit)) r finds = λ e. cc
  told_waiting kept (Err (Transport transport.BrokenPipe)) r finds = λ e. cc
  told_waiting kept (Err (Transport transport.BytesRemaining)) r finds = λ e. cc
  told_waiting kept (Err (Transport (transport.InvalidResponse reason))) r finds = let (seen, pdu, finds', meant) = r.ends in no_wait _ r held kept seen pdu finds' finds
  told_waiting kept (Err (Transport transport.TooManyRetries)) r finds = breaks_not_waits _ r held kept transport.TooManyRetries r.ends.1 finds
  told_waiting kept (Err (Transport transport.InvalidLength)) r finds = breaks_not_waits _ r held kept transport.InvalidLength r.ends.1 finds
  told_waiting kept (Err (Transport (transport.InvalidProtocol number))) r finds = breaks_not_waits _ r held kept (transport.InvalidProtocol number) r.ends.1 finds
  told_waiting kept (Err NoMemory) r finds = λ e. cc

  pub told_of : (answer : Answer) (r : Exchanged P (outside from sunk) (outside to sinks) header asked turns held answer) (found : Found) → P.Finds (P.seen header) r.fed (totals r.made) found → Tells answer found
  told_of answer r (waiting kept) finds = told_waiting kept answer r finds
  told_of answer r (reply kept seen pdu) finds = told_reply kept seen pdu answer r finds
  told_of answer r (broken kept fault) finds = told_broken kept fault answer r finds

  module _ (kept : List ℕ) (fits : Fits (request_pdu asked)) (no_read : Rose from.faults to.faults → ⊥) (no_write : Rose sunk.faults sinks.faults → ⊥) where
    same_held : (answer : Answer) (r : Exchanged P (outside from sunk) (outside to sinks) header asked turns held answer) → P.Finds (P.seen header) r.fed (totals r.made) (waiting kept) → P.Finds (P.seen header) r.fed (totals r.made) (waiting held) → held ≡ kept
    same_held answer r a b = let e : waiting kept ≡ waiting held = same answer r (waiting kept) (waiting held) a b in cc

    end_some : (bytes : List ℕ) → bytes ≢ [] → transport.BytesRemaining ≡ error_at_end bytes
    end_some [] some = absurd (some refl)
    end_some (b ∷ bytes) some = refl

    pub tells_waiting : (answer : Answer) (r : Exchanged P (outside from sunk) (outside to sinks) header asked turns held answer) → P.Finds (P.seen header) r.fed (totals r.made) (waiting kept) → TellsWaiting kept (length r.made) turns to.left answer
    tells_waiting answer r finds = by_answer answer r finds (told_waiting kept answer r finds)
      where
        by_answer : (answer : Answer) (r : Exchanged P (outside from sunk) (outside to sinks) header asked turns held answer) → P.Finds (P.seen header) r.fed (totals r.made) (waiting kept) → IsOfWaiting answer → TellsWaiting kept (length r.made) turns to.left answer
        by_answer (Err (Transport (transport.RequestTooLong size))) r finds is = absurd (omega (arith, ((r.too_long size).0 refl).0, fits))
        by_answer (Err (Transport transport.WriteFault)) r finds is = absurd (no_write (r.write_fault refl))
        by_answer (Err (Transport transport.ReadFault)) r finds is = absurd (no_read (r.read_fault refl))
        by_answer (Err (Transport transport.BrokenPipe)) r finds is = record {
          turn_limit = λ all. absurd (omega (arith, r.spends, all));
          end_told = λ none less.
              let empty : kept ≡ [] = sym (same_held (Err (Transport transport.BrokenPipe)) r finds r.ends.0) ∙ r.ends.1 in
              inl (rw empty refl);
        }
        by_answer (Err (Transport transport.BytesRemaining)) r finds is = record {
          turn_limit = λ all. absurd (omega (arith, r.spends, all));
          end_told = λ none less.
              let some : kept ≢ [] = λ e. r.ends.1 (same_held (Err (Transport transport.BytesRemaining)) r finds r.ends.0 ∙ e) in
              inl (ap (λ f. Err (Transport f)) (end_some kept some));
        }
        by_answer (Err (Transport transport.TurnLimit)) r finds is = record {
          turn_limit = λ all. inl refl;
          end_told = λ none less. absurd (omega (arith, r.spends, less));
        }
        by_answer (Err NoMemory) r finds is = record { turn_limit = λ all. inr refl; end_told = λ none less. inr refl }
        by_answer (Ok result) r finds is = absurd is
        by_answer (Err (protocol fault)) r finds is = absurd (is refl)
        by_answer (Err (Transport transport.NotConnected)) r finds is = absurd is
        by_answer (Err (Transport _)) r finds is = absurd (is refl)
