-- What a server of a gateway's answers promises, in records of the line.
use Rattle.std.proofs.Common.{◌≡◌, inl, inr, ℕ, List, [], ◌∷◌, ◌++◌, map, refl, sym, ap, ◌∙◌, subst, arith, Result, Ok, Err, append-nil}
use Rattle.std.specs.Prelude.{Option, Some, None, All}
use Rattle.std.proofs.lemmas.List.{map-append}
use Rattle.std.proofs.lemmas.List.Elements.{All-cons, All-nil}
use Rattle.std.proofs.lemmas.List.Concat.{flat_map-cons}
use Rattle.std.proofs.lemmas.Grind.{flat_map-append}
use Rattle.modbus_link.specs.Outside.{Input, Output}
use Rattle.modbus_link.specs.Line.{LinkMeaning}
use Rattle.modbus_link.specs.Reads.{totals}
use Rattle.modbus_frame.specs.Meaning.{Asked}
use Rattle.modbus_frame.specs.declared.tcp.Header.{Header}
use Rattle.modbus_frame.specs.declared.fault.Reason.{Reason}
use Rattle.modbus_pdu.specs.RequestOf.{request_of}
use Rattle.modbus_pdu.specs.Message.{Message}
use Rattle.modbus_tcp.specs.Stream.{IsSplit, IsRest, empty, unfinished}
use Rattle.modbus_server.specs.declared.error.ProcessError.{ProcessError}
use Rattle.modbus_server.specs.declared.error.ProcessError.TheVariants.{ReadFault, WriteFault, TooManyRetries, BytesRemaining, InvalidRequest, ResponseTooLong, TurnLimit, InvalidLength, InvalidProtocol, NoMemory}
use Rattle.modbus_server.specs.Exchanges.{Exchange, Run, output, asked_of, asks}
use Rattle.modbus_server.specs.Exchanges as server
use Rattle.modbus_server.specs.Served.{IsEndOf, Halt, remaining, broken, refused, Served, Unwritten, Wanting, WantsMemory, EndsAs}
use Rattle.modbus_server.specs.Step.{Ran}
use Rattle.modbus_server.specs.Tcp.{tcp, AreAllAdus}
use Rattle.modbus_service.specs.Outcome.{Outcome, code_of}
use Rattle.modbus_gateway.specs.Answer.{line_outcome}
use Rattle.modbus_gateway.specs.Forwards.{LineState, forwards}
use Rattle.modbus_gateway.specs.Records.{LineView, view_of, LineRecord, AreJoined, record_told, told_in, reply_to, record_reply, replies}
use Rattle.modbus_gateway.specs.Forwarded.{question_asked, StopsAfter, HasOutcome, last_record_reply, SendsAs, InRecords, Forwarded}
use Rattle.modbus_gateway.proofs.Fitting.{none_too_long, none_crowded}
use Rattle.modbus_gateway.proofs.Recording.{same_reply, joined_recorded, run_in_records, want_in_record}
use Rattle.modbus_server.specs.Moment.{moment}

-- what was asked, by what is told
abbrev asks_told : Header × Asked × Option Outcome → server.Question tcp
asks_told told = (told.0, Ok told.1)

-- what the records of a run tell of its exchanges
same_asks : (xs : List (Exchange tcp)) (rs : List LineRecord) → map record_told rs ≡ map told_in xs → map (asks tcp) xs ≡ map question_asked rs
same_asks [] [] e = refl
same_asks (x ∷ xs) [] e = cc
same_asks [] (r ∷ rs) e = cc
same_asks (x ∷ xs) (r ∷ rs) e =
    let first : record_told r ≡ told_in x = cc in
    let one : asks tcp x ≡ question_asked r = sym (ap asks_told first) in
    let rest : map (asks tcp) xs ≡ map question_asked rs = same_asks xs rs (cc) in
    cc

all_told : (xs : List (Exchange tcp)) (rs : List LineRecord) → map record_told rs ≡ map told_in xs → All HasOutcome rs
all_told xs [] e = All-nil HasOutcome
all_told [] (r ∷ rs) e = cc
all_told (x ∷ xs) (r ∷ rs) e =
    let first : record_told r ≡ told_in x = cc in
    let told : line_outcome r.answer ≡ Some x.outcome = ap (λ (t : Header × Asked × Option Outcome). t.2) first in
    let one : HasOutcome r = λ none. cc in
    All-cons HasOutcome r rs one (all_told xs rs (cc))

same_last : (xs : List (Exchange tcp)) (rs : List LineRecord) → map record_told rs ≡ map told_in xs → server.last_reply tcp xs ≡ last_record_reply rs
same_last [] [] e = refl
same_last (x ∷ xs) [] e = cc
same_last [] (r ∷ rs) e = cc
same_last (x ∷ []) (r ∷ []) e = same_reply x r (cc)
same_last (x ∷ y ∷ xs) (r ∷ []) e = cc
same_last (x ∷ []) (r ∷ s ∷ rs) e = cc
same_last (x ∷ y ∷ xs) (r ∷ s ∷ rs) e = same_last (y ∷ xs) (s ∷ rs) (cc)

-- one record more
joined_more : (turns : ℕ) (start now end : LineView) (rs : List LineRecord) (r : LineRecord) → AreJoined turns start rs now → AreJoined turns now (r ∷ []) end
    → AreJoined turns start (rs ++ r ∷ []) end
joined_more turns start now end [] r e last = subst (λ view. AreJoined turns view (r ∷ []) end) e last
joined_more turns start now end (s ∷ rs) r (begins, is, later) last = (begins, is, joined_more turns s.after now end rs r later last)

-- nothing is left where no ADU is unfinished
only_adus : (bytes cuts : List ℕ) (adus : List (Message tcp.Header)) → AreAllAdus bytes cuts [] adus → IsSplit bytes adus [] empty
only_adus bytes cuts adus (inl s) = s
only_adus bytes cuts adus (inr s) = absurd (some s.left)
  where
    some : IsRest [] unfinished → ⊥
    some (positive, short) = omega arith

module _ {L : Type 0} (M : LinkMeaning L) (fed cuts : List ℕ) (old new : LineState L) (sent : List ℕ) where
  -- by a run over the first ADUs
  by_run : (result : Result (Unit {0}) ProcessError) (adus : List (Message tcp.Header)) (xs : List (Exchange tcp)) → map (asked_of tcp) adus ≡ map (asks tcp) xs
      → Run tcp (forwards M) old xs new → StopsAfter fed cuts adus result
      → ((rs : List LineRecord) → map record_told rs ≡ map told_in xs → output tcp xs ≡ replies rs → SendsAs rs sent result)
      → InRecords M old new fed cuts sent result
  by_run result adus xs asked run stops sends =
      let r = run_in_records M old new xs run in
      record {
        adus = adus;
        records = r.records;
        asked = asked ∙ same_asks xs r.records r.told;
        recorded = r.recorded;
        turns = r.turns;
        timeout = r.timeout;
        stops = stops;
        sends = sends r.records r.told r.output;
      }

  -- all replies were sent
  by_served : (result : Result (Unit {0}) ProcessError) (halt : Halt) (s : Served tcp (forwards M) fed cuts old new sent halt) → new ≡ s.ends → StopsAfter fed cuts s.before result
      → ((rs : List LineRecord) → All HasOutcome rs × (sent ≡ replies rs) → SendsAs rs sent result)
      → InRecords M old new fed cuts sent result
  by_served result halt s same stops sends =
      by_run result s.before s.exchanges s.asked (subst (Run tcp (forwards M) old s.exchanges) (sym same) s.run) stops
      (λ rs told out. sends rs (all_told s.exchanges rs told, s.wrote ∙ out))

  -- a rest of the last reply waits
  by_unwritten : Unwritten tcp (forwards M) fed cuts old new sent → InRecords M old new fed cuts sent (Err WriteFault)
  by_unwritten u =
      by_run (Err WriteFault) u.stood.taken u.exchanges u.stood.asked u.run (u.held, u.stood.stands.0, u.stood.stands.1)
      (λ rs told out. (
        all_told u.exchanges rs told,
        u.waiting,
        u.stood.wrote ∙ out,
        subst (IsEndOf u.waiting) (same_last u.exchanges rs told) u.stood.late,
      ))

  module _ (w : Wanting tcp (forwards M) fed cuts old new sent) where
    sent_all : sent ≡ output tcp w.exchanges
    sent_all = sym (append-nil sent) ∙ w.stood.wrote

    -- the gateway stands where the run left it
    by_run_alone : new ≡ w.ends → InRecords M old new fed cuts sent (Err NoMemory)
    by_run_alone same =
        by_run (Err NoMemory) w.stood.taken w.exchanges w.stood.asked (subst (Run tcp (forwards M) old w.exchanges) (sym same) w.run) (w.held, w.stood.stands.0, w.stood.stands.1)
        (λ rs told out. (inl (all_told w.exchanges rs told), sent_all ∙ out))

    -- memory was wanting in the exchange for the next ADU
    by_want : (next : Message tcp.Header) (request : Asked) → tcp.IsNext fed cuts w.stood.taken next → request_of next.pdu ≡ Ok request
        → (forwards M).wants w.ends (tcp.slave next.header) request new → InRecords M old new fed cuts sent (Err NoMemory)
    by_want next request (rest, joined, whole) is wants =
        let r = run_in_records M old w.ends w.exchanges w.run in
        let last = want_in_record M w.ends new next.header request wants in
        let view : AreJoined old.turns (view_of M w.ends) (last.row ∷ []) (view_of M new) =
        subst (λ n. AreJoined n (view_of M w.ends) (last.row ∷ []) (view_of M new)) r.turns last.recorded.joined in
        let all = joined_more old.turns (view_of M old) (view_of M w.ends) (view_of M new) r.records last.row r.recorded.joined view in
        let none : line_outcome last.row.answer ≡ None = ap (λ (t : Header × Asked × Option Outcome). t.2) last.told in
        let no_reply : record_reply last.row ≡ [] = ap (reply_to last.row.header (code_of last.row.request)) none in
        let asked_last : asked_of tcp next ≡ question_asked last.row = ap (λ (request' : Result Asked Reason). (next.header, request')) is ∙ sym (ap asks_told last.told) in
        record {
          adus = w.stood.taken ++ next ∷ [];
          records = r.records ++ last.row ∷ [];
          asked = map-append (asked_of tcp) w.stood.taken (next ∷ [])
              ∙ ap (λ (front : List (server.Question tcp)). front ++ asked_of tcp next ∷ []) (w.stood.asked ∙ same_asks w.exchanges r.records r.told)
              ∙ ap (λ (one : server.Question tcp). map question_asked r.records ++ one ∷ []) asked_last
              ∙ sym (map-append question_asked r.records (last.row ∷ []));
          recorded = joined_recorded old.turns (view_of M old) (r.records ++ last.row ∷ []) (view_of M new) all;
          turns = last.turns ∙ r.turns;
          timeout = last.timeout ∙ r.timeout;
          stops = (rest, joined, whole);
          sends = (
            inr (r.records, last.row, refl, all_told w.exchanges r.records r.told, none),
            sent_all ∙ r.output ∙ sym (append-nil (replies r.records)) ∙ ap (λ bytes. replies r.records ++ bytes) (sym no_reply)
                ∙ ap (λ bytes. replies r.records ++ bytes) (sym (append-nil (record_reply last.row)) ∙ sym (flat_map-cons record_reply last.row []))
                ∙ sym (flat_map-append record_reply r.records (last.row ∷ [])),
          );
        }

    by_cause : (held : List ℕ) (taken : List (Message tcp.Header)) → taken ≡ w.stood.taken → WantsMemory tcp (forwards M) fed cuts held taken w.ends new → InRecords M old new fed cuts sent (Err NoMemory)
    by_cause held taken e (inl (next, is_next, (request, is, inl (carries, same)))) = by_run_alone same
    by_cause held taken e (inl (next, is_next, (request, is, inr wants))) = by_want next request (subst (λ t. tcp.IsNext fed cuts t next) e is_next) is wants
    by_cause held taken e (inr (inl (takes, all, same))) = by_run_alone same
    by_cause held taken e (inr (inr (none, nothing, same))) = by_run_alone same

  pub by_end : (result : Result (Unit {0}) ProcessError) → EndsAs tcp (forwards M) fed cuts old new sent result → InRecords M old new fed cuts sent result
  by_end (Ok done) s = by_served (Ok done) (remaining []) s s.halts.1 (only_adus fed cuts s.before s.halts.0) (λ rs all. all)
  by_end (Err BytesRemaining) (left, some, s) = by_served (Err BytesRemaining) (remaining left) s s.halts.1 (left, some, s.halts.0) (λ rs all. all)
  by_end (Err ReadFault) (left, s) = by_served (Err ReadFault) (remaining left) s s.halts.1 (left, s.halts.0) (λ rs all. all)
  by_end (Err TurnLimit) (left, s) = by_served (Err TurnLimit) (remaining left) s s.halts.1 (left, s.halts.0) (λ rs all. all)
  by_end (Err (InvalidRequest reason)) s = by_served (Err (InvalidRequest reason)) (refused reason) s s.halts.3 (s.halts.0, s.halts.1, s.halts.2) (λ rs all. all)
  by_end (Err InvalidLength) s = by_served (Err InvalidLength) (broken InvalidLength) s s.halts.1 s.halts.0 (λ rs all. all)
  by_end (Err (InvalidProtocol protocol)) s = by_served (Err (InvalidProtocol protocol)) (broken (InvalidProtocol protocol)) s s.halts.1 s.halts.0 (λ rs all. all)
  by_end (Err WriteFault) u = by_unwritten u
  by_end (Err NoMemory) w = by_cause w w.held w.stood.taken refl w.cause
  by_end (Err TooManyRetries) s = absurd (none_crowded M fed cuts old new sent s)
  by_end (Err (ResponseTooLong size)) s = absurd (none_too_long M fed cuts old new sent size s)

pub forwarded_of : {L : Type 0} (M : LinkMeaning L) (old new : LineState L) (from to : Input) (sunk sinks : Output) (turns : ℕ) (result : Result (Unit {0}) ProcessError)
    → Ran tcp (forwards M) turns (moment old from sunk) (moment new to sinks) result → Forwarded M turns (moment old from sunk) (moment new to sinks) result
forwarded_of M old new from to sunk sinks turns result ran = record {
  ran = ran;
  in_records = by_end M ran.fed (totals ran.made) old new ran.sent result ran.served;
}
