-- One poll of a call: what is unwritten of the request is written, and then one turn comes after another, as far as the link is ready.
use Rattle.std.proofs.Common.{◌≡◌, ◌≢◌, inl, inr, ℕ, ◌+◌, ◌<◌, ◌≤◌, List, [], ◌∷◌, ◌++◌, length, Option, Some, None, Ok, Err, refl, sym, ap, ◌∙◌, subst, arith, append-nil, append_assoc, length-append}
use Rattle.modbus_link.specs.declared.polled.Polled.{Polled}
use Rattle.modbus_link.specs.declared.polled.Polled.TheVariants.{Ready, Pending}
use Rattle.modbus_link.specs.declared.outside.Cut.{Cut}
use Rattle.modbus_link.specs.Outside.{cut_at, Outside, outside, Input, Output, Rose, cuts_from}
use Rattle.modbus_link.specs.Passes.{Passes, Sends, passes_none, passes_out, passes_in, passes_both}
use Rattle.modbus_link.specs.Reads.{totals, HaveRooms, Spends}
use Rattle.modbus_link.specs.Runs.{RisesTo-both}
use Rattle.modbus_link.specs.TwoRuns.{totals_both, totals_count, count_both, rooms_more, rooms_then, regroup, unread_on}
use Rattle.modbus_frame.specs.Meaning.{Asked, function_asked}
use Rattle.modbus_frame.specs.declared.code.FunctionCode.{FunctionCode}
use Rattle.modbus_frame.specs.declared.fault.EncodeError.TheVariants as encode
use Rattle.modbus_frame.specs.declared.fault.Error.TheVariants.{Protocol as protocol, Transport, NoMemory}
use Rattle.modbus_frame.specs.declared.fault.HeaderSeen.{HeaderSeen}
use Rattle.modbus_frame.specs.declared.fault.TransportError.TheVariants as transport
use Rattle.modbus_pdu.specs.Encodes.{Fits}
use Rattle.modbus_pdu.specs.RequestPdu.{request_pdu}
use Rattle.modbus_client.specs.Protocol.{Protocol, waiting}
use Rattle.modbus_client.specs.Matches.{Answer}
use Rattle.modbus_client.specs.Call.{CallState, CallStands, IsCallFor, IsSameCall, OpensCall}
use Rattle.modbus_client.specs.Sends.{WritesRequest}
use Rattle.modbus_client.specs.Limits.{read_room}
use Rattle.modbus_client.specs.Calls.{HasRoom, CallEndsAs, CameLast, WaitedBefore, IsOneRead, TurnSpends, call_spending, TurnsAs, Turned, IsOfReply, Exchanged, CountsDropped}
use Rattle.modbus_client.specs.Polled.{ReadsNothing, CallGoes, CallEnds, IsOfPoll, CallPolled, OpensCallState, AsksWhole}
use Rattle.modbus_client.proofs.Receiving.{rose_later, late_turn, spends_by, once_most, once_rooms}
use Rattle.modbus_client.proofs.Turning.{none_left}

same_both : (a b c : CallState) → IsSameCall a b → IsSameCall b c → IsSameCall a c
same_both a b c first second = record {
  asked = second.asked ∙ first.asked;
  function = second.function ∙ first.function;
  request = second.request ∙ first.request;
  turns = second.turns ∙ first.turns;
}

same_written : (old new : CallState) (w : List ℕ) → new ≡ record old { unwritten = w } → IsSameCall old new
same_written old new w e = record {
  asked = ap (λ (s : CallState). s.asked) e;
  function = ap (λ (s : CallState). s.function) e;
  request = ap (λ (s : CallState). s.request) e;
  turns = ap (λ (s : CallState). s.turns) e;
}

same_freed : (old new : CallState) (n : ℕ) → new ≡ record old { free = n } → IsSameCall old new
same_freed old new n e = record {
  asked = ap (λ (s : CallState). s.asked) e;
  function = ap (λ (s : CallState). s.function) e;
  request = ap (λ (s : CallState). s.request) e;
  turns = ap (λ (s : CallState). s.turns) e;
}

-- an answer of a reply is one of a poll
own_reply : (answer : Answer) → IsOfReply answer → IsOfPoll (Ready answer)
own_reply (Ok result) late = tt
own_reply (Err error) late = late.0

-- where the whole request was written, that is what an answer of a reply says
whole_written : (request written : List ℕ) (answer : Answer) → written ≡ request → IsOfReply answer → WritesRequest request written answer
whole_written request written (Ok result) e late = e
whole_written request written (Err (protocol fault)) e late = e
whole_written request written (Err (Transport transport.NotConnected)) e late = absurd (late.0 refl)
whole_written request written (Err (Transport (transport.RequestTooLong size))) e late = absurd (late.0 refl)
whole_written request written (Err (Transport transport.WriteFault)) e late = absurd (late.1 refl)
whole_written request written (Err (Transport _)) e late = e
whole_written request written (Err NoMemory) e late = ([], sym e ∙ sym (append-nil written))

not_write : (answer : Answer) → IsOfReply answer → answer ≡ Err (Transport transport.WriteFault) → ⊥
not_write answer late e = (subst IsOfReply e late).1 refl

not_long : (answer : Answer) → IsOfPoll (Ready answer) → (size : ℕ) → answer ≡ Err (Transport (transport.RequestTooLong size)) → ⊥
not_long answer own size e = subst (λ a. IsOfPoll (Ready a)) e own refl

grown : (bytes fed : List ℕ) → bytes ++ fed ≡ [] → fed ≡ []
grown bytes fed e = none_left bytes fed e

module _ {H : Type 0} (P : Protocol H) where
  -- a call that was just opened, or was not
  module _ (header : H) (asked : Asked) (turns : ℕ) where
    pub opened : (call : CallState) → OpensCall P header asked turns (Ok call) → OpensCallState P header asked turns (Ok call)
    opened call o = record {
      goes = record { stands = o.stands; empty = λ none. o.empty; rises = refl; rooms = tt; within = let none = o.stands.counted in omega (arith, none) };
      asks = o.asks;
      fits = o.fits;
      too_long = λ long. absurd (omega (arith, o.fits, long));
      cause = tt;
    }

    pub unopened_long : (size : ℕ) → OpensCall P header asked turns (Err (encode.TooLong size)) → OpensCallState P header asked turns (Err (Transport (transport.RequestTooLong size)))
    unopened_long size o = record {
      goes = tt;
      asks = tt;
      fits = tt;
      too_long = λ long. ap (λ n. Err (Transport (transport.RequestTooLong n))) o.cause.1;
      cause = o.cause;
    }

    pub unopened_wanting : OpensCall P header asked turns (Err encode.NoMemory) → OpensCallState P header asked turns (Err NoMemory)
    unopened_wanting o = record { goes = tt; asks = tt; fits = tt; too_long = λ long. absurd (omega (arith, o.cause, long)); cause = o.cause }

  -- an answer of the bytes comes with the read of its turn, before which the search waited
  module _ (asked : HeaderSeen) (bytes fed held : List ℕ) (earlier made : List Cut) (waits : P.Finds asked bytes (totals earlier) (waiting held)) (once : IsOneRead fed made) where
    waited : length made ≡ 1 → WaitedBefore P asked (bytes ++ fed) (earlier ++ cuts_from (length bytes) made)
    waited one = elim once [
      | inl none ↦ absurd (omega (arith, one, ap length none.1))
      | inr some ↦ record {
        before = bytes;
        piece = fed;
        earlier = earlier;
        kept = held;
        joined = refl;
        last = ap (λ m. earlier ++ cuts_from (length bytes) m) some.1 ∙ ap (λ n. earlier ++ cut_at n read_room ∷ []) (sym (length-append bytes fed));
        waits = waits;
      }
    ]

  came_last : (asked : HeaderSeen) (answer : Answer) (bytes fed held : List ℕ) (earlier made : List Cut) → P.Finds asked bytes (totals earlier) (waiting held) → IsOneRead fed made → TurnSpends (Some answer) (length made)
      → CameLast P asked (bytes ++ fed) (earlier ++ cuts_from (length bytes) made) answer
  came_last asked (Ok result) bytes fed held earlier made waits once spends = waited asked bytes fed held earlier made waits once spends.1
  came_last asked (Err (protocol fault)) bytes fed held earlier made waits once spends = waited asked bytes fed held earlier made waits once spends.1
  came_last asked (Err (Transport transport.BrokenPipe)) bytes fed held earlier made waits once spends = λ e. absurd cc
  came_last asked (Err (Transport transport.BytesRemaining)) bytes fed held earlier made waits once spends = λ e. absurd cc
  came_last asked (Err (Transport transport.ReadFault)) bytes fed held earlier made waits once spends = λ e. absurd cc
  came_last asked (Err (Transport _)) bytes fed held earlier made waits once spends = λ e. waited asked bytes fed held earlier made waits once spends.1
  came_last asked (Err NoMemory) bytes fed held earlier made waits once spends = tt

  -- what a poll keeps from turn to turn, once the request is written
  pub record PollGoing (from to : Input) (sunk sinks : Output) (idle idle' : ℕ) (old call : CallState) : Type 0 where
    pub fed : List ℕ
    pub made : List Cut
    pub sent : List ℕ
    pub passes : Passes (outside from sunk) (outside to sinks) fed made sent
    pub same : IsSameCall old call
    pub goes_on : (written bytes : List ℕ) (earlier : List Cut) → CallGoes P written bytes earlier old
        → CallGoes P (written ++ sent) (bytes ++ fed) (earlier ++ cuts_from (length bytes) made) call
    pub written : call.unwritten ≡ []
    pub all : sent ≡ old.unwritten
    pub later : idle ≤ idle'

  -- what is unwritten is written first, all of it or some
  module _ (a b : Input) (k m : Output) (idle idle' : ℕ) (old new : CallState) (unread : b ≡ a) (sends : Sends k m old.unwritten new.unwritten)
      (keeps : new ≡ record old { unwritten = new.unwritten }) (later : idle ≤ idle') where
    held_same : new.held ≡ old.held
    held_same = ap (λ (s : CallState). s.held) keeps

    asked_same : new.asked ≡ old.asked
    asked_same = ap (λ (s : CallState). s.asked) keeps

    was_some : new.unwritten ≢ [] → old.unwritten ≢ []
    was_some some e = some (none_left sends.sent new.unwritten (sym sends.splits ∙ e))

    flushed : (written bytes : List ℕ) (earlier : List Cut) → CallGoes P written bytes earlier old → CallGoes P (written ++ sends.sent) bytes earlier new
    flushed written bytes earlier s = record {
      stands = record {
        wrote = ap (λ (s : CallState). s.request) keeps ∙ s.stands.wrote ∙ ap (λ w. written ++ w) sends.splits ∙ sym (append_assoc written sends.sent new.unwritten);
        first = λ some. s.stands.first (was_some some);
        finds = subst (λ asked. P.Finds asked bytes (totals earlier) (waiting new.held)) (sym asked_same) (subst (λ held. P.Finds old.asked bytes (totals earlier) (waiting held)) (sym held_same) s.stands.finds);
        counted = ap (λ (s : CallState). s.reads) keeps ∙ s.stands.counted;
        counts = subst (λ asked. P.Counts asked bytes (totals earlier) new.dropped) (sym asked_same)
            (subst (λ n. P.Counts old.asked bytes (totals earlier) n) (sym (ap (λ (s : CallState). s.dropped) keeps)) s.stands.counts);
      };
      empty = λ e. held_same ∙ s.empty e;
      rises = s.rises;
      rooms = s.rooms;
      within =
          let reads : new.reads ≡ old.reads = ap (λ (s : CallState). s.reads) keeps in
          let turns : new.turns ≡ old.turns = ap (λ (s : CallState). s.turns) keeps in
          let before = s.within in omega (arith, before);
    }

    wrote : Passes (outside a k) (outside b m) [] [] sends.sent
    wrote = passes_out (outside a k) (outside b m) sends.sent unread sends.sink sends.wrote

    goes_flushed : (written bytes : List ℕ) (earlier : List Cut) → CallGoes P written bytes earlier old → CallGoes P (written ++ sends.sent) (bytes ++ []) (earlier ++ []) new
    goes_flushed written bytes earlier s = unread_on (λ x y. CallGoes P (written ++ sends.sent) x y new) bytes earlier (flushed written bytes earlier s)

    pub flushed_all : new.unwritten ≡ [] → PollGoing a b k m idle idle' old new
    flushed_all none = record {
      fed = [];
      made = [];
      sent = sends.sent;
      passes = wrote;
      same = same_written old new new.unwritten keeps;
      goes_on = goes_flushed;
      written = none;
      all = sym (append-nil sends.sent) ∙ ap (λ w. sends.sent ++ w) (sym none) ∙ sym sends.splits;
      later = later;
    }

    pub flushed_some : Rose idle idle' → CallPolled P (outside a k) (outside b m) idle idle' old new Pending
    flushed_some rose = record {
      fed = [];
      made = [];
      sent = sends.sent;
      passes = wrote;
      same = same_written old new new.unwritten keeps;
      goes_on = goes_flushed;
      writes_first = λ read. absurd (read refl);
      own = tt;
      ended = λ told. tt;
      waited = λ e. rose;
      later = later;
      read_fault = λ e. absurd cc;
      write_fault = λ e. absurd cc;
    }

    pub flush_failed : new.unwritten ≢ [] → Rose k.faults m.faults → CallPolled P (outside a k) (outside b m) idle idle' old new (Ready (Err (Transport transport.WriteFault)))
    flush_failed some rose = record {
      fed = [];
      made = [];
      sent = sends.sent;
      passes = wrote;
      same = same_written old new new.unwritten keeps;
      goes_on = λ written bytes earlier s.
          let after : CallGoes P (written ++ sends.sent) bytes earlier new = flushed written bytes earlier s in
          let none : bytes ≡ [] = s.stands.first (was_some some) in
          unread_on (λ x y. CallEnds P (written ++ sends.sent) x y new (Err (Transport transport.WriteFault))) bytes earlier record {
            writes = (new.unwritten, after.stands.wrote);
            ends = (none, after.empty none);
            counts = after.stands.counts;
            last = λ e. absurd cc;
            rooms = after.rooms;
            spends =
                let counted : new.reads ≡ length (totals earlier) = after.stands.counted in
                let within : new.reads ≤ new.turns = after.within in
                let count = totals_count earlier in omega (arith, counted, within, count);
          };
      writes_first = λ read. absurd (read refl);
      own = λ e. cc;
      ended = λ told. tt;
      waited = λ e. absurd cc;
      later = later;
      read_fault = λ e. absurd cc;
      write_fault = λ e. rose;
    }

  module _ (a b c : Input) (k l m : Output) (idle idle' idle'' : ℕ) (first old new : CallState) (g : PollGoing a b k l idle idle' first old) (later : idle' ≤ idle'') where
    all_later : idle ≤ idle''
    all_later = let before = g.later in omega (arith, before, later)

    -- the link was not ready for the next turn
    pub polled_idle : ReadsNothing (outside b l) (outside c m) old new → Rose idle' idle'' → CallPolled P (outside a k) (outside c m) idle idle'' first new Pending
    polled_idle r rose = record {
      fed = g.fed ++ [];
      made = g.made ++ [];
      sent = g.sent;
      passes = subst (λ sent. Passes (outside a k) (outside c m) (g.fed ++ []) (g.made ++ []) sent) (append-nil g.sent)
          (passes_both (outside a k) (outside b l) (outside c m) g.fed [] g.made [] g.sent [] g.passes (passes_in (outside b l) (outside c m) [] [] r.sink r.source r.read r.cuts refl));
      same = same_both first old new g.same (same_freed old new new.free r.keeps);
      goes_on = λ written bytes earlier start.
          let s : CallGoes P (written ++ g.sent) (bytes ++ g.fed) (earlier ++ cuts_from (length bytes) g.made) old = g.goes_on written bytes earlier start in
          let held : new.held ≡ old.held = ap (λ (s : CallState). s.held) r.keeps in
          let asked : new.asked ≡ old.asked = ap (λ (s : CallState). s.asked) r.keeps in
          let unwritten : new.unwritten ≡ old.unwritten = ap (λ (s : CallState). s.unwritten) r.keeps in
          regroup (λ x y. CallGoes P (written ++ g.sent) x y new) bytes g.fed [] earlier g.made []
          (unread_on (λ x y. CallGoes P (written ++ g.sent) x y new) (bytes ++ g.fed) (earlier ++ cuts_from (length bytes) g.made) record {
            stands = record {
              wrote = ap (λ (s : CallState). s.request) r.keeps ∙ s.stands.wrote ∙ ap (λ w. (written ++ g.sent) ++ w) (sym unwritten);
              first = λ some. s.stands.first (λ e. some (unwritten ∙ e));
              finds = subst (λ asked. P.Finds asked (bytes ++ g.fed) (totals (earlier ++ cuts_from (length bytes) g.made)) (waiting new.held)) (sym asked)
                  (subst (λ held. P.Finds old.asked (bytes ++ g.fed) (totals (earlier ++ cuts_from (length bytes) g.made)) (waiting held)) (sym held) s.stands.finds);
              counted = ap (λ (s : CallState). s.reads) r.keeps ∙ s.stands.counted;
              counts = subst (λ asked. P.Counts asked (bytes ++ g.fed) (totals (earlier ++ cuts_from (length bytes) g.made)) new.dropped) (sym asked)
                  (subst (λ n. P.Counts old.asked (bytes ++ g.fed) (totals (earlier ++ cuts_from (length bytes) g.made)) n) (sym (ap (λ (s : CallState). s.dropped) r.keeps)) s.stands.counts);
            };
            empty = λ e. held ∙ s.empty e;
            rises = s.rises;
            rooms = s.rooms;
            within =
                let reads : new.reads ≡ old.reads = ap (λ (s : CallState). s.reads) r.keeps in
                let turns : new.turns ≡ old.turns = ap (λ (s : CallState). s.turns) r.keeps in
                let before = s.within in omega (arith, before);
          });
      writes_first = λ read. g.all;
      own = tt;
      ended = λ told. tt;
      waited = λ e. let before = g.later in omega (arith, before, rose);
      later = all_later;
      read_fault = λ e. absurd cc;
      write_fault = λ e. absurd cc;
    }

    module _ (less : old.reads < old.turns) where
      module _ (answer : Option Answer) (t : Turned P (outside b l) (outside c m) old new answer) where
        all_passes : Passes (outside a k) (outside c m) (g.fed ++ t.fed) (g.made ++ cuts_from (length g.fed) t.made) g.sent
        all_passes = subst (λ sent. Passes (outside a k) (outside c m) (g.fed ++ t.fed) (g.made ++ cuts_from (length g.fed) t.made) sent) (append-nil g.sent)
            (passes_both (outside a k) (outside b l) (outside c m) g.fed t.fed g.made t.made g.sent [] g.passes t.passes)

        -- of all that the call stood for before the turn
        module _ (written bytes : List ℕ) (made : List Cut) (s : CallGoes P written bytes made old) where
          turned : TurnsAs P written (bytes ++ t.fed) (totals (made ++ cuts_from (length bytes) t.made)) new answer
          turned = subst (λ cuts. TurnsAs P written (bytes ++ t.fed) cuts new answer) (sym (totals_both (length bytes) made t.made)) (t.stands written bytes (totals made) s.stands)

          have_rooms : HaveRooms HasRoom (bytes ++ t.fed) 0 (made ++ cuts_from (length bytes) t.made)
          have_rooms = rooms_then HasRoom (bytes ++ t.fed) 0 (length bytes) made (cuts_from (length bytes) t.made) s.rises
              (rooms_more HasRoom bytes t.fed 0 (length bytes) made s.rises (omega arith) s.rooms)
              (once_rooms (bytes ++ t.fed) t.fed t.made (length bytes) t.once)

          count : length (made ++ cuts_from (length bytes) t.made) ≡ length made + length t.made
          count = count_both (length bytes) made t.made

          reads_are : old.reads ≡ length made
          reads_are = s.stands.counted ∙ totals_count made

      some_read : (t : Turned P (outside b l) (outside c m) old new None) → t.fed ≡ [] → ⊥
      some_read t none = elim t.once [
        | inl nothing ↦ absurd (let one = t.spends in omega (arith, ap length nothing.1, one))
        | inr one ↦ absurd (omega (arith, one.0, ap length none))
      ]

      pub goes_on : Turned P (outside b l) (outside c m) old new None → PollGoing a c k m idle idle'' first new
      goes_on t = record {
        fed = g.fed ++ t.fed;
        made = g.made ++ cuts_from (length g.fed) t.made;
        sent = g.sent;
        passes = all_passes None t;
        same = same_both first old new g.same t.same;
        goes_on = λ written bytes earlier start.
            let s : CallGoes P (written ++ g.sent) (bytes ++ g.fed) (earlier ++ cuts_from (length bytes) g.made) old = g.goes_on written bytes earlier start in
            let now : List ℕ = bytes ++ g.fed in
            let made : List Cut = earlier ++ cuts_from (length bytes) g.made in
            let stands : CallStands P (written ++ g.sent) (now ++ t.fed) (totals (made ++ cuts_from (length now) t.made)) new = turned None t (written ++ g.sent) now made s in
            regroup (λ x y. CallGoes P (written ++ g.sent) x y new) bytes g.fed t.fed earlier g.made t.made record {
              stands = stands;
              empty = λ e. absurd (some_read t (grown now t.fed e));
              rises = RisesTo-both (made ++ cuts_from (length now) t.made) made t.made (length now) (length t.fed) (length (now ++ t.fed)) refl (length-append now t.fed) s.rises t.passes.rises;
              rooms = have_rooms None t (written ++ g.sent) now made s;
              within =
                  let counted : new.reads ≡ length (totals (made ++ cuts_from (length now) t.made)) = stands.counted in
                  let all = totals_count (made ++ cuts_from (length now) t.made) in
                  let both = count None t (written ++ g.sent) now made s in
                  let before = reads_are None t (written ++ g.sent) now made s in
                  let one = t.spends in
                  let turns = t.same.turns in omega (arith, counted, all, both, before, one, turns, less);
            };
        written = t.unwritten ∙ g.written;
        all = g.all;
        later = all_later;
      }

      pub polled_answer : (answer : Answer) → Turned P (outside b l) (outside c m) old new (Some answer) → CallPolled P (outside a k) (outside c m) idle idle'' first new (Ready answer)
      polled_answer answer t = record {
        fed = g.fed ++ t.fed;
        made = g.made ++ cuts_from (length g.fed) t.made;
        sent = g.sent;
        passes = all_passes (Some answer) t;
        same = same_both first old new g.same t.same;
        goes_on = λ written bytes earlier start.
            let s : CallGoes P (written ++ g.sent) (bytes ++ g.fed) (earlier ++ cuts_from (length bytes) g.made) old = g.goes_on written bytes earlier start in
            let now : List ℕ = bytes ++ g.fed in
            let made : List Cut = earlier ++ cuts_from (length bytes) g.made in
            let all : written ++ g.sent ≡ new.request = sym (t.same.request ∙ s.stands.wrote ∙ ap (λ w. (written ++ g.sent) ++ w) g.written ∙ append-nil (written ++ g.sent)) in
            regroup (λ x y. CallEnds P (written ++ g.sent) x y new answer) bytes g.fed t.fed earlier g.made t.made record {
              writes = whole_written new.request (written ++ g.sent) answer all late;
              ends = (turned (Some answer) t (written ++ g.sent) now made s).0;
              counts = (turned (Some answer) t (written ++ g.sent) now made s).1;
              last = subst (λ asked. CameLast P asked (now ++ t.fed) (made ++ cuts_from (length now) t.made) answer) (sym t.same.asked)
                  (came_last old.asked answer now t.fed old.held made t.made s.stands.finds t.once t.spends);
              rooms = have_rooms (Some answer) t (written ++ g.sent) now made s;
              spends = subst (λ n. Spends (call_spending answer) n new.turns) (sym (count (Some answer) t (written ++ g.sent) now made s))
                  (subst (λ n. Spends (call_spending answer) (length made + length t.made) n) (sym t.same.turns)
                  (spends_by answer (length made) (length t.made) old.turns t.spends (once_most t.fed t.made t.once)
                  (let before = reads_are (Some answer) t (written ++ g.sent) now made s in omega (arith, before, less))));
            };
        writes_first = λ read. g.all;
        own = own_reply answer late;
        ended = λ told. t.ended (g.passes.source.told ∙ told);
        waited = λ e. absurd cc;
        later = all_later;
        read_fault = λ e.
            let same : answer ≡ Err (Transport transport.ReadFault) = cc in
            rose_later a.faults b.faults c.faults g.passes.source.later (t.read_fault (ap (λ (x : Answer). Some x) same));
        write_fault = λ e.
            let same : answer ≡ Err (Transport transport.WriteFault) = cc in
            absurd (not_write answer late same);
      }
        where
          late : IsOfReply answer
          late = late_turn answer (length t.made) t.spends

  pub out_of_turns : (a b : Input) (k l : Output) (idle idle' : ℕ) (first call : CallState) → PollGoing a b k l idle idle' first call → (call.reads < call.turns → ⊥)
      → CallPolled P (outside a k) (outside b l) idle idle' first call (Ready (Err (Transport transport.TurnLimit)))
  out_of_turns a b k l idle idle' first call g none = record {
    fed = g.fed;
    made = g.made;
    sent = g.sent;
    passes = g.passes;
    same = g.same;
    goes_on = λ written bytes earlier start.
        let s : CallGoes P (written ++ g.sent) (bytes ++ g.fed) (earlier ++ cuts_from (length bytes) g.made) call = g.goes_on written bytes earlier start in
        let counted : call.reads ≡ length (totals (earlier ++ cuts_from (length bytes) g.made)) = s.stands.counted in
        let within : call.reads ≤ call.turns = s.within in
        let count = totals_count (earlier ++ cuts_from (length bytes) g.made) in record {
          writes = sym (s.stands.wrote ∙ ap (λ w. (written ++ g.sent) ++ w) g.written ∙ append-nil (written ++ g.sent));
          ends = s.stands.finds;
          counts = s.stands.counts;
          last = λ e. absurd cc;
          rooms = s.rooms;
          spends = omega (arith, counted, within, count, none);
        };
    writes_first = λ read. g.all;
    own = λ e. cc;
    ended = λ told. tt;
    waited = λ e. absurd cc;
    later = g.later;
    read_fault = λ e. absurd cc;
    write_fault = λ e. absurd cc;
  }

  -- the polls so far and a last one are one call
  module _ (a b : Input) (k m : Output) (idle idle' : ℕ) (old new : CallState) where
    pub exchanged_polled : (answer : Answer) → CallPolled P (outside a k) (outside b m) idle idle' old new (Ready answer) → (header : H) (asked : Asked) (turns : ℕ) (written bytes : List ℕ) (made : List Cut) (first : Outside)
        → IsCallFor P header asked turns old → Fits (request_pdu asked) → CallGoes P written bytes made old → Passes first (outside a k) bytes made written
        → Exchanged P first (outside b m) header asked turns new.held answer
    exchanged_polled answer p header asked turns written bytes made first asks fits s passed =
        let ends : CallEnds P (written ++ p.sent) (bytes ++ p.fed) (made ++ cuts_from (length bytes) p.made) new answer = p.goes_on written bytes made s in
        let all : List ℕ = bytes ++ p.fed in
        let cuts : List ℕ = totals (made ++ cuts_from (length bytes) p.made) in record {
          fed = all;
          made = made ++ cuts_from (length bytes) p.made;
          sent = written ++ p.sent;
          passes = passes_both first (outside a k) (outside b m) bytes p.fed made p.made written p.sent passed p.passes;
          too_long = λ size. (λ e. absurd (not_long answer p.own size e), λ told. absurd (omega (arith, fits, told.0)));
          writes = subst (λ request. WritesRequest request (written ++ p.sent) answer) (p.same.request ∙ asks.request) ends.writes;
          ends =
              subst (λ (seen : HeaderSeen). CallEndsAs P seen (function_asked asked) all cuts new.held answer) (p.same.asked ∙ asks.under)
              (subst (λ (function : FunctionCode). CallEndsAs P new.asked function all cuts new.held answer) (p.same.function ∙ asks.function) ends.ends);
          last = subst (λ (seen : HeaderSeen). CameLast P seen all (made ++ cuts_from (length bytes) p.made) answer) (p.same.asked ∙ asks.under) ends.last;
          ended = λ told. p.ended (passed.source.told ∙ told);
          spends = subst (λ n. Spends (call_spending answer) (length (made ++ cuts_from (length bytes) p.made)) n) (p.same.turns ∙ asks.limit) ends.spends;
          rooms = ends.rooms;
          write_fault = λ e. rose_later first.output.faults k.faults m.faults passed.sink.later (p.write_fault (ap (λ (x : Answer). Ready x) e));
          read_fault = λ e. rose_later first.input.faults a.faults b.faults passed.source.later (p.read_fault (ap (λ (x : Answer). Ready x) e));
        }

    -- and the last one tells how many messages of other requests were dropped in all
    pub exchanged_dropping : (answer : Answer) → CallPolled P (outside a k) (outside b m) idle idle' old new (Ready answer) → (header : H) (asked : Asked) (turns : ℕ) → IsCallFor P header asked turns old → Fits (request_pdu asked)
        → CallGoes P [] [] [] old → (ran : Exchanged P (outside a k) (outside b m) header asked turns new.held answer) × CountsDropped ran new.dropped
    unfolding exchanged_polled
    exchanged_dropping answer p header asked turns asks fits s =
        let ends : CallEnds P p.sent p.fed (cuts_from 0 p.made) new answer = p.goes_on [] [] [] s in (
          exchanged_polled answer p header asked turns [] [] [] (outside a k) asks fits s (passes_none (outside a k)),
          subst (λ (seen : HeaderSeen). P.Counts seen p.fed (totals (cuts_from 0 p.made)) new.dropped) (p.same.asked ∙ asks.under) ends.counts,
        )

    pub asks_whole : (answer : Polled Answer) → CallPolled P (outside a k) (outside b m) idle idle' old new answer → AsksWhole P (outside a k) (outside b m) old new answer
    asks_whole Pending p = λ header asked turns written bytes made first asks fits s passed. tt
    asks_whole (Ready answer) p = exchanged_polled answer p
