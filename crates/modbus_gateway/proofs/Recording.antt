-- Each exchange on the line is a record, and the exchanges of a run are records joined end to end.
use Rattle.std.proofs.Common.{◌≡◌, ◌≢◌, ◌↔◌, ℕ, Bool, true, false, List, [], ◌∷◌, ◌++◌, map, refl, sym, ap, ◌∙◌, subst, IsTrue, Result}
use Rattle.std.specs.Prelude.{Option, None}
use Rattle.std.proofs.lemmas.List.Elements.{All-cons, All-nil, All-head, All-tail}
use Rattle.std.proofs.lemmas.List.Concat.{flat_map-cons}
use Rattle.modbus_link.specs.Line.{LinkMeaning}
use Rattle.modbus_link.specs.Passes.{Passes, passes_none, passes_both}
use Rattle.modbus_frame.specs.Meaning.{Asked}
use Rattle.modbus_frame.specs.declared.tcp.Header.{Header}
use Rattle.modbus_frame.specs.declared.fault.Error.{Error}
use Rattle.modbus_service.specs.Outcome.{Outcome, code_of}
use Rattle.modbus_server.specs.Exchanges.{Exchange, Run, output, reply_of}
use Rattle.modbus_server.specs.Tcp.{tcp}
use Rattle.modbus_client.specs.Matches.{Answer}
use Rattle.modbus_client.specs.Calls.{Called, SentAlone}
use Rattle.modbus_client.specs.Rtu.{rtu_protocol, rtu_heading}
use Rattle.modbus_client.specs.Sends.{WritesRequest}
use Rattle.modbus_gateway.specs.Answer.{LineAnswer, of_call, of_sending, line_outcome}
use Rattle.modbus_gateway.specs.Forwards.{LineState, to_unit, AsksLine, Exchanges, forwards}
use Rattle.modbus_gateway.specs.Records.{LineView, view_of, LineRecord, line_frame, AsksAs, IsUnconnected, IsIdle, ExchangesAs, IsRecord, AreJoined, written_in, read_in, cuts_in, RecordWrites, WritesFrame, Stays, Recorded, record_told, told_in, reply_to, record_reply, replies, RunInRecords, WantInRecord}
use Rattle.modbus_link.specs.declared.outside.Cut.{Cut}
use Rattle.modbus_link.specs.Outside.{outside}

-- what a record of an exchange tells of it
pub record RecordOf (turns : ℕ) (start end : LineView) (header : Header) (request : Asked) (answer : LineAnswer) : Type 0 where
  pub row : LineRecord
  pub header_is : row.header ≡ header
  pub request_is : row.request ≡ request
  pub answer_is : row.answer ≡ answer
  pub begins : row.before ≡ start
  pub ends : row.after ≡ end
  pub is_record : IsRecord turns row

module _ {L : Type 0} (M : LinkMeaning L) (old new : LineState L) (header : Header) (request : Asked) where
  -- a record over this line
  abbrev row_with : LineAnswer → List ℕ → List ℕ → List Cut → LineRecord
  row_with answer sent fed made = record {
    header = header;
    request = request;
    answer = answer;
    sent = sent;
    fed = fed;
    made = made;
    before = view_of M old;
    after = view_of M new;
  }

  made_of : (answer : LineAnswer) (sent fed : List ℕ) (made : List Cut) → ExchangesAs old.turns old.is_connected (row_with answer sent fed made)
      → RecordOf old.turns (view_of M old) (view_of M new) header request answer
  made_of answer sent fed made is = record {
    row = row_with answer sent fed made;
    header_is = refl;
    request_is = refl;
    answer_is = refl;
    begins = refl;
    ends = refl;
    is_record = is;
  }

  -- nothing was done over a line that is not connected
  idle : (answer : LineAnswer) → old.is_connected ≡ false → IsUnconnected header.unit_id answer → view_of M new ≡ view_of M old
      → RecordOf old.turns (view_of M old) (view_of M new) header request answer
  idle answer off none same =
      let is : IsIdle (row_with answer [] [] []) = record { answer = none; sent = refl; fed = refl; made = refl; line = same } in
      made_of answer [] [] [] (subst (λ on. ExchangesAs old.turns on (row_with answer [] [] [])) (sym off) is)

  by_call : (answer : Answer) (on : Bool) → old.is_connected ≡ on → header.unit_id ≢ 0 → Called rtu_protocol rtu_heading M (to_unit header.unit_id old) request answer new
      → RecordOf old.turns (view_of M old) (view_of M new) header request (of_call answer)
  by_call answer true e single c =
      let ran = c.ran e in
      let row = row_with (of_call answer) ran.sent ran.fed ran.made in
      let asks : AsksAs old.turns row (of_call answer) = (single, new.held, ran, refl, refl, refl) in
      made_of (of_call answer) ran.sent ran.fed ran.made (subst (λ on. ExchangesAs old.turns on row) (sym e) (asks, c.connected e))
  by_call answer false e single c = idle (of_call answer) e (single, (c.disconnected e).0) (ap (view_of M) (c.disconnected e).1)

  by_sending : (answer : Result (Unit {0}) Error) (on : Bool) → old.is_connected ≡ on → header.unit_id ≡ 0 → SentAlone rtu_protocol rtu_heading M (to_unit header.unit_id old) request answer new
      → RecordOf old.turns (view_of M old) (view_of M new) header request (of_sending answer)
  by_sending answer true e all c =
      let ran = c.sent e in
      let row = row_with (of_sending answer) ran.sent [] [] in
      let asks : AsksAs old.turns row (of_sending answer) = (all, new.held, ran, refl, refl, refl) in
      made_of (of_sending answer) ran.sent [] [] (subst (λ on. ExchangesAs old.turns on row) (sym e) (asks, c.connected e))
  by_sending answer false e all c = idle (of_sending answer) e (all, (c.disconnected e).0) (ap (view_of M) (c.disconnected e).1)

  pub record_of : (answer : LineAnswer) → AsksLine M old header.unit_id request answer new → RecordOf old.turns (view_of M old) (view_of M new) header request answer
  record_of (of_call answer) (single, c) = by_call answer old.is_connected refl single c
  record_of (of_sending answer) (all, c) = by_sending answer old.is_connected refl all c

  pub keeps : (answer : LineAnswer) → AsksLine M old header.unit_id request answer new → (new.turns ≡ old.turns) × (new.timeout ≡ old.timeout)
  keeps (of_call answer) (single, c) = (c.keeps.turns, c.keeps.timeout)
  keeps (of_sending answer) (all, c) = (c.keeps.turns, c.keeps.timeout)

-- the records of a run
pub record RecordsOf (turns : ℕ) (start end : LineView) (exchanges : List (Exchange tcp)) : Type 0 where
  pub rows : List LineRecord
  pub joined : AreJoined turns start rows end
  pub told : map record_told rows ≡ map told_in exchanges

module _ {L : Type 0} (M : LinkMeaning L) where
  pub run_keeps : (xs : List (Exchange tcp)) (start end : LineState L) → Run tcp (forwards M) start xs end → (end.turns ≡ start.turns) × (end.timeout ≡ start.timeout)
  run_keeps [] start end e = (ap (λ (line : LineState L). line.turns) e, ap (λ (line : LineState L). line.timeout) e)
  run_keeps (x ∷ xs) start end (next, (answer, asks, told), rest) =
      let first = keeps M start next x.header x.request answer asks in
      let later = run_keeps xs next end rest in
      (later.0 ∙ first.0, later.1 ∙ first.1)

  pub run_records : (xs : List (Exchange tcp)) (start end : LineState L) → Run tcp (forwards M) start xs end → RecordsOf start.turns (view_of M start) (view_of M end) xs
  run_records [] start end e = record { rows = []; joined = ap (view_of M) e; told = refl }
  run_records (x ∷ xs) start end (next, (answer, asks, told), rest) =
      let first = record_of M start next x.header x.request answer asks in
      let turns : next.turns ≡ start.turns = (keeps M start next x.header x.request answer asks).0 in
      let later = run_records xs next end rest in
      let tail : AreJoined start.turns first.row.after later.rows (view_of M end) =
      subst (λ view. AreJoined start.turns view later.rows (view_of M end)) (sym first.ends)
      (subst (λ n. AreJoined n (view_of M next) later.rows (view_of M end)) turns later.joined) in
      let head : record_told first.row ≡ told_in x = cc (ap line_outcome first.answer_is ∙ told, first.header_is, first.request_is) in
      record {
        rows = first.row ∷ later.rows;
        joined = (first.begins, first.is_record, tail);
        told = cc (head, later.told);
      }

-- what one record did over the line
module _ (turns : ℕ) (r : LineRecord) where
  over_line : (answer : LineAnswer) → AsksAs turns r answer → Passes (outside r.before.input r.before.output) (outside r.after.input r.after.output) r.fed r.made r.sent
  over_line (of_call answer) (single, held, ran, fed, made, sent) =
      subst (λ bytes. Passes (outside r.before.input r.before.output) (outside r.after.input r.after.output) bytes r.made r.sent) fed
      (subst (λ cuts. Passes (outside r.before.input r.before.output) (outside r.after.input r.after.output) ran.fed cuts r.sent) made
      (subst (λ bytes. Passes (outside r.before.input r.before.output) (outside r.after.input r.after.output) ran.fed ran.made bytes) sent ran.passes))
  over_line (of_sending answer) (all, held, ran, fed, made, sent) =
      subst (λ bytes. Passes (outside r.before.input r.before.output) (outside r.after.input r.after.output) bytes r.made r.sent) (sym fed)
      (subst (λ cuts. Passes (outside r.before.input r.before.output) (outside r.after.input r.after.output) [] cuts r.sent) (sym made)
      (subst (λ bytes. Passes (outside r.before.input r.before.output) (outside r.after.input r.after.output) [] [] bytes) sent ran.passes))

  nothing_passes : IsIdle r → Passes (outside r.before.input r.before.output) (outside r.after.input r.after.output) r.fed r.made r.sent
  nothing_passes i =
      subst (λ bytes. Passes (outside r.before.input r.before.output) (outside r.after.input r.after.output) bytes r.made r.sent) (sym i.fed)
      (subst (λ cuts. Passes (outside r.before.input r.before.output) (outside r.after.input r.after.output) [] cuts r.sent) (sym i.made)
      (subst (λ bytes. Passes (outside r.before.input r.before.output) (outside r.after.input r.after.output) [] [] bytes) (sym i.sent)
      (subst (λ (view : LineView). Passes (outside r.before.input r.before.output) (outside view.input view.output) [] [] []) (sym i.line) (passes_none (outside r.before.input r.before.output)))))

  frame_of : (answer : LineAnswer) → AsksAs turns r answer → RecordWrites r answer
  frame_of (of_call answer) (single, held, ran, fed, made, sent) = subst (λ bytes. WritesRequest (line_frame r) bytes answer) sent ran.writes
  frame_of (of_sending answer) (all, held, ran, fed, made, sent) = subst (λ bytes. WritesRequest (line_frame r) bytes answer) sent ran.writes

  no_frame : (answer : LineAnswer) → IsUnconnected r.header.unit_id answer → r.sent ≡ [] → RecordWrites r answer
  no_frame (of_call answer) (single, e) none = subst (λ a. WritesRequest (line_frame r) r.sent a) (sym e) none
  no_frame (of_sending answer) (all, e) none = subst (λ a. WritesRequest (line_frame r) r.sent a) (sym e) none

  -- it is connected afterwards where it was, and no write failed
  abbrev IsStillConnected : Type 0
  IsStillConnected = IsTrue r.after.is_connected ↔ (IsTrue r.before.is_connected × Stays r)

  pub record Shows : Type 0 where
    pub passes : Passes (outside r.before.input r.before.output) (outside r.after.input r.after.output) r.fed r.made r.sent
    pub frame : WritesFrame r
    pub connected : IsTrue r.after.is_connected ↔ (IsTrue r.before.is_connected × Stays r)

  shows_by : (on : Bool) → r.before.is_connected ≡ on → ExchangesAs turns on r → Shows
  shows_by true e (asks, stay) = record {
    passes = over_line r.answer asks;
    frame = frame_of r.answer asks;
    connected = (λ t. (e, sym stay ∙ t), λ p. stay ∙ p.1);
  }
  shows_by false e i = record {
    passes = nothing_passes i;
    frame = no_frame r.answer i.answer i.sent;
    connected = (
      λ t. absurd (off (ap (λ (view : LineView). view.is_connected) (sym i.line) ∙ t)),
      λ p. absurd (off p.0),
    );
  }
    where
      off : r.before.is_connected ≡ true → ⊥
      off t = let clash : false ≡ true = sym e ∙ t in cc

  pub shows : IsRecord turns r → Shows
  shows is = shows_by r.before.is_connected refl is

pub joined_recorded : (turns : ℕ) (start : LineView) (rs : List LineRecord) (end : LineView) → AreJoined turns start rs end → Recorded turns start rs end
joined_recorded turns start [] end e = record {
  joined = e;
  passes = subst (λ (view : LineView). Passes (outside start.input start.output) (outside view.input view.output) [] [] []) (sym e) (passes_none (outside start.input start.output));
  frames = All-nil WritesFrame;
  connected = (
    λ t. (sym (ap (λ (view : LineView). view.is_connected) e) ∙ t, All-nil Stays),
    λ p. ap (λ (view : LineView). view.is_connected) e ∙ p.0,
  );
}
joined_recorded turns start (r ∷ rs) end (begins, is, later) =
    let one = shows turns r is in
    let more = joined_recorded turns r.after rs end later in
    let first : Passes (outside start.input start.output) (outside r.after.input r.after.output) r.fed r.made r.sent =
    subst (λ (view : LineView). Passes (outside view.input view.output) (outside r.after.input r.after.output) r.fed r.made r.sent) begins one.passes in
    let on : start.is_connected ≡ r.before.is_connected = ap (λ (view : LineView). view.is_connected) (sym begins) in
    record {
      joined = (begins, is, later);
      passes = passes_both (outside start.input start.output) (outside r.after.input r.after.output) (outside end.input end.output) r.fed (read_in rs) r.made (cuts_in rs) r.sent (written_in rs) first more.passes;
      frames = All-cons WritesFrame r rs one.frame more.frames;
      connected = (
        λ t. let p = more.connected.0 t in let q = one.connected.0 p.0 in (on ∙ q.0, All-cons Stays r rs q.1 p.1),
        λ p. more.connected.1 (one.connected.1 (sym on ∙ p.0, All-head Stays r rs p.1), All-tail Stays r rs p.1),
      );
    }

-- the reply to an exchange is that to its record
pub same_reply : (x : Exchange tcp) (r : LineRecord) → record_told r ≡ told_in x → reply_of tcp x ≡ record_reply r
same_reply x r e = ap reply_told (sym e)
  where
    reply_told : Header × Asked × Option Outcome → List ℕ
    reply_told (header, request, told) = reply_to header (code_of request) told

-- the output of exchanges is the replies to their records
pub same_output : (xs : List (Exchange tcp)) (rs : List LineRecord) → map record_told rs ≡ map told_in xs → output tcp xs ≡ replies rs
same_output [] [] e = refl
same_output (x ∷ xs) [] e = cc
same_output [] (r ∷ rs) e = cc
same_output (x ∷ xs) (r ∷ rs) e =
    let first : record_told r ≡ told_in x = cc in
    let one : reply_of tcp x ≡ record_reply r = same_reply x r first in
    let rest : output tcp xs ≡ replies rs = same_output xs rs (cc) in
    flat_map-cons (reply_of tcp) x xs ∙ ap (λ bytes. bytes ++ output tcp xs) one ∙ ap (λ bytes. record_reply r ++ bytes) rest ∙ sym (flat_map-cons record_reply r rs)

pub run_in_records : {L : Type 0} (M : LinkMeaning L) (old new : LineState L) (xs : List (Exchange tcp)) → Run tcp (forwards M) old xs new → RunInRecords M old new xs
run_in_records M old new xs run =
    let rs = run_records M xs old new run in
    let kept = run_keeps M xs old new run in
    record {
      records = rs.rows;
      recorded = joined_recorded old.turns (view_of M old) rs.rows (view_of M new) rs.joined;
      told = rs.told;
      output = same_output xs rs.rows rs.told;
      turns = kept.0;
      timeout = kept.1;
    }

pub want_in_record : {L : Type 0} (M : LinkMeaning L) (old new : LineState L) (header : Header) (request : Asked) → Exchanges M old header.unit_id request None new
    → WantInRecord M old new header request
want_in_record M old new header request (answer, asks, none) =
    let row = record_of M old new header request answer asks in
    let kept = keeps M old new header request answer asks in
    record {
      row = row.row;
      recorded = joined_recorded old.turns (view_of M old) (row.row ∷ []) (view_of M new) (row.begins, row.is_record, sym row.ends);
      told = cc (ap line_outcome row.answer_is ∙ none, row.header_is, row.request_is);
      turns = kept.0;
      timeout = kept.1;
    }
