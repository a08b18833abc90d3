-- One write, and one read whose bytes are fed.
use Rattle.std.proofs.Common.{◌≡◌, inl, inr, ℕ, ◌<◌, ◌≤◌, List, [], ◌∷◌, ◌++◌, length, take, Option, Some, None, Result, Ok, Err, refl, sym, ap, ◌∙◌, subst, arith, append-nil, length-append, IsTrue}
use Rattle.std.proofs.lemmas.List.{length-take-le}
use Rattle.modbus_link.specs.declared.outside.Cut.{Cut}
use Rattle.modbus_link.specs.Outside.{cut_at, outside, Input, Output, Rose, Advances, ReadIsTold, bytes_read, cuts_made}
use Rattle.modbus_link.specs.Runs.{one_cut-one, one_cut-none}
use Rattle.modbus_link.specs.Passes.{Passes, passes_in, passes_none, rises_one}
use Rattle.bytes.specs.Filled.{Filled}
use Rattle.modbus_frame.specs.declared.code.FunctionCode.{FunctionCode}
use Rattle.modbus_frame.specs.declared.fault.Error.TheVariants.{Protocol as protocol, Transport, NoMemory}
use Rattle.modbus_frame.specs.declared.fault.HeaderSeen.{HeaderSeen}
use Rattle.modbus_frame.specs.declared.fault.TransportError.{TransportError}
use Rattle.modbus_frame.specs.declared.fault.TransportError.TheVariants as transport
use Rattle.modbus_client.specs.Limits.{read_room}
use Rattle.modbus_client.specs.Protocol.{Protocol, waiting}
use Rattle.modbus_client.specs.Matches.{Answer}
use Rattle.modbus_client.specs.Call.{CallAlone, CallState, holding, CallStands, IsSameCall, IsAnswered, IsOfBytesIfSome, FeedsAs, CallFed, TellsEnd}
use Rattle.modbus_client.specs.Calls.{CallEndsAs, TurnsAs, TurnSpends, TurnEnds, Turned}

-- a call whose buffer got more room
pub roomier : (call : CallAlone) (old new : Filled) → new.items ≡ old.items → holding call new ≡ record (holding call old) { free = new.spare }
roomier call old new e = ap (λ (bytes : List ℕ). record (holding call old) { held = bytes; free = new.spare }) e

-- a call of whose request more was written
pub still_holding : (old new : CallAlone) (buffer : Filled) → new ≡ record old { unwritten = new.unwritten } → holding new buffer ≡ record (holding old buffer) { unwritten = new.unwritten }
still_holding old new buffer e = ap (λ (call : CallAlone). holding call buffer) e

pub same_call : (old new : CallState) (n : ℕ) → new ≡ record old { free = n } → IsSameCall old new
same_call old new n e = record {
  asked = ap (λ (s : CallState). s.asked) e;
  function = ap (λ (s : CallState). s.function) e;
  request = ap (λ (s : CallState). s.request) e;
  turns = ap (λ (s : CallState). s.turns) e;
}

module _ {H : Type 0} (P : Protocol H) where
  -- where nothing was fed the search waits as before
  still : (asked asked' : HeaderSeen) (bytes cuts held held' : List ℕ) → asked' ≡ asked → held' ≡ held → P.Finds asked bytes cuts (waiting held) → P.Finds asked' (bytes ++ []) (cuts ++ []) (waiting held')
  still asked asked' bytes cuts held held' is e finds = rw (append-nil bytes, append-nil cuts, is, e) finds

  -- and what was dropped is counted as before
  same_count : (asked asked' : HeaderSeen) (bytes cuts : List ℕ) (n n' : ℕ) → asked' ≡ asked → n' ≡ n → P.Counts asked bytes cuts n → P.Counts asked' (bytes ++ []) (cuts ++ []) n'
  same_count asked asked' bytes cuts n n' is e counts = rw (append-nil bytes, append-nil cuts, is, e) counts

  -- an answer of the bytes ends the call
  pub answered_ends : (asked : HeaderSeen) (function : FunctionCode) (bytes cuts held : List ℕ) (answer : Answer) → IsAnswered P asked function bytes cuts held answer → CallEndsAs P asked function bytes cuts held answer
  answered_ends asked function bytes cuts held (Ok result) is = is
  answered_ends asked function bytes cuts held (Err (protocol fault)) is = is
  answered_ends asked function bytes cuts held (Err (Transport (transport.InvalidResponse reason))) is = is
  answered_ends asked function bytes cuts held (Err (Transport transport.TooManyRetries)) is = is
  answered_ends asked function bytes cuts held (Err (Transport transport.InvalidLength)) is = is
  answered_ends asked function bytes cuts held (Err (Transport (transport.InvalidProtocol number))) is = is
  answered_ends asked function bytes cuts held (Err (Transport _)) is = absurd is.0
  answered_ends asked function bytes cuts held (Err NoMemory) is = inr is

  fed_turns : (written bytes cuts : List ℕ) (call : CallState) (answer : Option Answer) → FeedsAs P written bytes cuts call answer → TurnsAs P written bytes cuts call answer
  fed_turns written bytes cuts call None feeds = feeds
  fed_turns written bytes cuts call (Some answer) feeds = (answered_ends call.asked call.function bytes cuts call.held answer feeds.0, feeds.1)

fed_spends : (answer : Option Answer) → IsOfBytesIfSome answer → TurnSpends answer 1
fed_spends None late = refl
fed_spends (Some (Ok result)) late = (tt, refl)
fed_spends (Some (Err (protocol fault))) late = (tt, refl)
fed_spends (Some (Err (Transport (transport.InvalidResponse reason)))) late = (refl, refl)
fed_spends (Some (Err (Transport transport.TooManyRetries))) late = (refl, refl)
fed_spends (Some (Err (Transport transport.InvalidLength))) late = (refl, refl)
fed_spends (Some (Err (Transport (transport.InvalidProtocol number)))) late = (refl, refl)
fed_spends (Some (Err (Transport _))) late = absurd cc
fed_spends (Some (Err NoMemory)) late = tt

pub fed_goes : (answer : Option Answer) (left : List ℕ) → IsOfBytesIfSome answer → TurnEnds answer left
fed_goes None left late = tt
fed_goes (Some (Ok result)) left late = tt
fed_goes (Some (Err (protocol fault))) left late = tt
fed_goes (Some (Err (Transport (transport.InvalidResponse reason)))) left late = tt
fed_goes (Some (Err (Transport transport.TooManyRetries))) left late = tt
fed_goes (Some (Err (Transport transport.InvalidLength))) left late = tt
fed_goes (Some (Err (Transport (transport.InvalidProtocol number)))) left late = tt
fed_goes (Some (Err (Transport _))) left late = absurd cc
fed_goes (Some (Err NoMemory)) left late = tt

fed_no_fault : (answer : Option Answer) → IsOfBytesIfSome answer → answer ≡ Some (Err (Transport transport.ReadFault)) → ⊥
fed_no_fault answer late e = let reading-is-bytes = subst IsOfBytesIfSome e late in cc

pub none_left : (xs ys : List ℕ) → xs ++ ys ≡ [] → ys ≡ []
none_left [] ys e = e
none_left (x ∷ xs) ys e = cc

module _ {H : Type 0} (P : Protocol H) (a b : Input) (k m : Output) (old new : CallState) where
  -- nothing was fed, and the call ended so
  turned_so : (answer : Answer) (n : ℕ) → new ≡ record old { free = n } → Passes (outside a k) (outside b m) [] [] [] → TurnSpends (Some answer) 0
      → ((written bytes cuts : List ℕ) → CallStands P written bytes cuts old → CallEndsAs P new.asked new.function (bytes ++ []) (cuts ++ []) new.held answer)
      → (IsTrue a.told → TurnEnds (Some answer) b.left) → (answer ≡ Err (Transport transport.ReadFault) → Rose a.faults b.faults) → Turned P (outside a k) (outside b m) old new (Some answer)
  turned_so answer n e passes spends ends ended fault = record {
    fed = [];
    made = [];
    passes = passes;
    once = inl (refl, refl);
    spends = spends;
    same = same_call old new n e;
    unwritten = ap (λ (s : CallState). s.unwritten) e;
    reads = let same' : new.reads ≡ old.reads = ap (λ (s : CallState). s.reads) e in omega arith;
    stands = λ written bytes cuts s. (
      ends written bytes cuts s,
      same_count P old.asked new.asked bytes cuts old.dropped new.dropped (ap (λ (s : CallState). s.asked) e) (ap (λ (s : CallState). s.dropped) e) s.counts,
    );
    ended = ended;
    read_fault = λ is. fault cc;
  }

  -- memory was refused before the read
  pub turned_none : (n : ℕ) → b ≡ a → m ≡ k → new ≡ record old { free = n } → Turned P (outside a k) (outside b m) old new (Some (Err NoMemory))
  turned_none n same same' e =
      turned_so (Err NoMemory) n e (subst (λ i. Passes (outside a k) (outside i m) [] [] []) (sym same) (subst (λ o. Passes (outside a k) (outside a o) [] [] []) (sym same') (passes_none (outside a k))))
      tt (λ written bytes cuts s. inl (new.held, still P old.asked new.asked bytes cuts old.held new.held (ap (λ (s : CallState). s.asked) e) (ap (λ (s : CallState). s.held) e) s.finds)) (λ told. tt) (λ bad. cc)

  module _ (n : ℕ) (e : new ≡ record old { free = n }) (same : m ≡ k) (adv : Advances a b) where
    nothing : {E : Type 0} (before after : List ℕ) (result : Result ℕ E) → (IsTrue a.told → ReadIsTold a b before after result) → (IsTrue a.told → bytes_read a b ≡ []) → (IsTrue a.told → cuts_made a b ≡ []) → Passes (outside a k) (outside b m) [] [] []
    nothing before after result told none no_cut = passes_in (outside a k) (outside b m) [] [] same adv none no_cut refl

    waits : (written bytes cuts : List ℕ) → CallStands P written bytes cuts old → P.Finds new.asked (bytes ++ []) (cuts ++ []) (waiting new.held)
    waits written bytes cuts s = still P old.asked new.asked bytes cuts old.held new.held (ap (λ (s : CallState). s.asked) e) (ap (λ (s : CallState). s.held) e) s.finds

    -- the read failed
    pub turned_fault : {E : Type 0} (f : E) (before after : List ℕ) → (IsTrue a.told → ReadIsTold {E = E} a b before after (Err f)) → Rose a.faults b.faults
        → Turned P (outside a k) (outside b m) old new (Some (Err (Transport transport.ReadFault)))
    turned_fault {E} f before after told rose =
        turned_so (Err (Transport transport.ReadFault)) n e (nothing {E = E} before after (Err f) told (λ t. (told t).bytes) (λ t. (told t).cuts)) refl waits (λ t. tt) (λ is. rose)

    -- the input ended
    pub turned_end : {E : Type 0} (count : ℕ) (before after : List ℕ) (fault : TransportError) → count ≡ 0 → (IsTrue a.told → ReadIsTold {E = E} a b before after (Ok count)) → TellsEnd new.held fault
        → Turned P (outside a k) (outside b m) old new (Some (Err (Transport fault)))
    turned_end {E} count before after fault zero' told tells = by_fault fault tells
      where
        none : IsTrue a.told → bytes_read a b ≡ []
        none t = (told t).bytes ∙ ap (λ n. take n after) zero'

        no_cut : IsTrue a.told → cuts_made a b ≡ []
        no_cut t = (told t).cuts ∙ one_cut-none count (length before) zero'

        ended : IsTrue a.told → b.left ≡ []
        ended t = none_left (bytes_read a b) b.left (sym (adv.content t).left ∙ (told t).ended.0 zero')

        passes : Passes (outside a k) (outside b m) [] [] []
        passes = nothing {E = E} before after (Ok count) told none no_cut

        by_fault : (fault : TransportError) → TellsEnd new.held fault → Turned P (outside a k) (outside b m) old new (Some (Err (Transport fault)))
        by_fault transport.BrokenPipe tells =
            turned_so (Err (Transport transport.BrokenPipe)) n e passes refl (λ written bytes cuts s. (waits written bytes cuts s, tells)) ended (λ is. cc)
        by_fault transport.BytesRemaining tells =
            turned_so (Err (Transport transport.BytesRemaining)) n e passes refl (λ written bytes cuts s. (waits written bytes cuts s, tells)) ended (λ is. cc)
        by_fault _ tells = absurd tells

  -- the read gave bytes, which were fed
  pub turned_some : {E : Type 0} (mid : CallState) (free count : ℕ) (before after piece : List ℕ) (answer : Option Answer) → mid ≡ record old { free = free } → CallFed P mid new piece answer
      → m ≡ k → Advances a b → (IsTrue a.told → ReadIsTold {E = E} a b before after (Ok count)) → piece ≡ take count after → (count ≡ 0 → ⊥) → count ≤ length after → length before ≡ read_room
      → Turned P (outside a k) (outside b m) old new answer
  turned_some mid free count before after piece answer e fed same adv told is some within room =
      let long : length piece ≡ count = ap length is ∙ length-take-le count after within in
      let some' : 0 < length piece = omega arith in
      let made : List Cut = cut_at (length piece) read_room ∷ [] in
      let cut : ℕ → List Cut = λ n. cut_at n read_room ∷ [] in
      let cut' : ℕ → List Cut = λ r. cut_at count r ∷ [] in
      let cuts_are : IsTrue a.told → cuts_made a b ≡ made = λ t. (told t).cuts ∙ one_cut-one count (length before) some ∙ ap cut' room ∙ ap cut (sym long) in
      record {
        fed = piece;
        made = made;
        passes = passes_in (outside a k) (outside b m) piece made same adv (λ t. (told t).bytes ∙ sym is) cuts_are (rises_one piece made read_room refl some');
        once = inr (some', refl);
        spends = fed_spends answer fed.late;
        same = record {
          asked = fed.same.asked ∙ ap (λ (s : CallState). s.asked) e;
          function = fed.same.function ∙ ap (λ (s : CallState). s.function) e;
          request = fed.same.request ∙ ap (λ (s : CallState). s.request) e;
          turns = fed.same.turns ∙ ap (λ (s : CallState). s.turns) e;
        };
        unwritten = fed.unwritten ∙ ap (λ (s : CallState). s.unwritten) e;
        reads = let before : mid.reads ≡ old.reads = ap (λ (s : CallState). s.reads) e in let more = fed.reads in omega arith;
        stands = λ written bytes cuts s.
            let s' : CallStands P written bytes cuts mid = subst (CallStands P written bytes cuts) (sym e) (record { wrote = s.wrote; first = s.first; finds = s.finds; counted = s.counted; counts = s.counts }) in
            subst (λ (n : ℕ). TurnsAs P written (bytes ++ piece) (cuts ++ n ∷ []) new answer) (length-append bytes piece)
            (fed_turns P written (bytes ++ piece) (cuts ++ length (bytes ++ piece) ∷ []) new answer (fed.stands written bytes cuts s'));
        ended = λ t. fed_goes answer b.left fed.late;
        read_fault = λ bad. absurd (fed_no_fault answer fed.late bad);
      }
