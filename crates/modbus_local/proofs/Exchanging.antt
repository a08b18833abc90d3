-- A call that is fed bytes in memory, in pieces that fill its room.
use Rattle.std.proofs.Common.{◌≡◌, inl, ℕ, zero, suc, ◌+◌, ◌*◌, ◌<◌, min, List, [], ◌∷◌, ◌++◌, length, take, drop, Some, None, Option, Ok, Err, refl, sym, ap, ◌∙◌, subst, arith, length-append}
use Rattle.std.proofs.Math.Seq.{take-add}
use Rattle.std.proofs.lemmas.List.{length-take, length-drop, drop-drop}
use Rattle.bytes.specs.Filled.{Filled}
use Rattle.modbus_frame.specs.declared.code.FunctionCode.{FunctionCode}
use Rattle.modbus_frame.specs.declared.fault.Error.TheVariants.{Protocol as protocol, Transport, NoMemory}
use Rattle.modbus_frame.specs.declared.fault.HeaderSeen.{HeaderSeen}
use Rattle.modbus_frame.specs.declared.fault.TransportError.{TransportError}
use Rattle.modbus_frame.specs.declared.fault.TransportError.TheVariants as transport
use Rattle.modbus_client.specs.Limits.{read_room}
use Rattle.modbus_client.specs.Protocol.{Protocol, waiting}
use Rattle.modbus_client.specs.Matches.{Answer}
use Rattle.modbus_client.specs.Call.{CallAlone, CallState, holding, CallStands, IsSameCall, IsAnswered, IsOfBytesIfSome, FeedsAs, CallFed, TellsEnd}
use Rattle.modbus_client.specs.Calls.{CallEndsAs, CallEndsRead}
use Rattle.modbus_local.specs.Exchange.{IsOfReplies, full_cuts, ReadsAll}

-- an answer of the bytes ends the call
abbrev pub BytesEndCalls : {H : Type 0} → Protocol H → Type 0
BytesEndCalls P = (asked : HeaderSeen) (function : FunctionCode) (bytes cuts held : List ℕ) (answer : Answer) → IsAnswered P asked function bytes cuts held answer → CallEndsAs P asked function bytes cuts held answer

-- whatever is left to read then
abbrev pub BytesEndAnywhere : Type 0
BytesEndAnywhere = (answer : Answer) (left : List ℕ) → IsOfBytesIfSome (Some answer) → CallEndsRead answer left

-- a call whose buffer got more room
pub roomier : (call : CallAlone) (old new : Filled) → new.items ≡ old.items → holding call new ≡ record (holding call old) { free = new.spare }
roomier call old new e = ap (λ (bytes : List ℕ). record (holding call old) { held = bytes; free = new.spare }) e

same_call : (old new : CallState) (n : ℕ) → new ≡ record old { free = n } → IsSameCall old new
same_call old new n e = record {
  asked = ap (λ (s : CallState). s.asked) e;
  function = ap (λ (s : CallState). s.function) e;
  request = ap (λ (s : CallState). s.request) e;
  turns = ap (λ (s : CallState). s.turns) e;
}

count_full : (n : ℕ) (bytes : List ℕ) → length (full_cuts n bytes) ≡ n
count_full zero bytes = refl
count_full (suc n) bytes = length-append (full_cuts n bytes) (min (suc n * read_room) (length bytes) ∷ []) ∙ omega (arith, count_full n bytes)

of_bytes : (answer : Answer) → IsOfBytesIfSome (Some answer) → IsOfReplies answer
of_bytes (Ok result) late = tt
of_bytes (Err (protocol fault)) late = (λ e. cc, λ e. cc)
of_bytes (Err (Transport (transport.InvalidResponse reason))) late = (λ e. cc, λ e. cc)
of_bytes (Err (Transport transport.TooManyRetries)) late = (λ e. cc, λ e. cc)
of_bytes (Err (Transport transport.InvalidLength)) late = (λ e. cc, λ e. cc)
of_bytes (Err (Transport (transport.InvalidProtocol number))) late = (λ e. cc, λ e. cc)
of_bytes (Err (Transport _)) late = absurd cc
of_bytes (Err NoMemory) late = (λ e. cc, λ e. cc)

module _ {H : Type 0} (P : Protocol H) (bytes : List ℕ) where
  -- what the loop keeps, from a call whose request was written
  pub record Going (first call : CallState) (left : List ℕ) : Type 0 where
    pub reads : ℕ
    pub rest : left ≡ drop (reads * read_room) bytes
    pub stands : CallStands P first.request (take (reads * read_room) bytes) (full_cuts reads bytes) call
    pub same : IsSameCall first call
    pub written : call.unwritten ≡ []

  pub going : (call : CallState) → call.unwritten ≡ [] → CallStands P call.request [] [] call → Going call call bytes
  going call written stands = record {
    reads = 0;
    rest = refl;
    stands = stands;
    same = record { asked = refl; function = refl; request = refl; turns = refl };
    written = written;
  }

  module _ (first old : CallState) (left : List ℕ) (g : Going first old left) where
    -- it may read once more
    pub may_read : 0 < length left → old.reads < length bytes
    may_read some = omega (arith, some, ap length g.rest, length-drop (g.reads * read_room) bytes, g.stands.counted, count_full g.reads bytes)

    waits : P.Finds first.asked (take (g.reads * read_room) bytes) (full_cuts g.reads bytes) (waiting old.held)
    waits = subst (λ asked. P.Finds asked (take (g.reads * read_room) bytes) (full_cuts g.reads bytes) (waiting old.held)) g.same.asked g.stands.finds

    pub no_memory : (held : List ℕ) → ReadsAll P first.asked first.function bytes held (Err NoMemory)
    no_memory held = record { only = (λ e. cc, λ e. cc); reads = g.reads; ends = inl (old.held, waits); ended = tt }

    pub over : left ≡ [] → (fault : TransportError) → TellsEnd old.held fault → ReadsAll P first.asked first.function bytes old.held (Err (Transport fault))
    over none transport.BrokenPipe tells = record { only = (λ e. cc, λ e. cc); reads = g.reads; ends = (waits, tells); ended = sym g.rest ∙ none }
    over none transport.BytesRemaining tells = record { only = (λ e. cc, λ e. cc); reads = g.reads; ends = (waits, tells); ended = sym g.rest ∙ none }
    over none _ tells = absurd tells

    module _ (free : ℕ) (mid new : CallState) (same : mid ≡ record old { free = free }) (piece : List ℕ) (is : piece ≡ take read_room left) (answer : Option Answer) (fed : CallFed P mid new piece answer) where
      all_same : IsSameCall first new
      all_same = let m = same_call old mid free same in record {
        asked = fed.same.asked ∙ m.asked ∙ g.same.asked;
        function = fed.same.function ∙ m.function ∙ g.same.function;
        request = fed.same.request ∙ m.request ∙ g.same.request;
        turns = fed.same.turns ∙ m.turns ∙ g.same.turns;
      }

      bytes_more : take (g.reads * read_room) bytes ++ piece ≡ take (suc g.reads * read_room) bytes
      bytes_more =
          let next : suc g.reads * read_room ≡ g.reads * read_room + read_room = omega arith in
          ap (λ p. take (g.reads * read_room) bytes ++ p) (is ∙ ap (λ l. take read_room l) g.rest) ∙ sym (take-add (g.reads * read_room) read_room bytes) ∙ ap (λ n. take n bytes) (sym next)

      cuts_more : full_cuts g.reads bytes ++ length (take (g.reads * read_room) bytes ++ piece) ∷ [] ≡ full_cuts (suc g.reads) bytes
      cuts_more = ap (λ n. full_cuts g.reads bytes ++ n ∷ []) (ap length bytes_more ∙ length-take (suc g.reads * read_room) bytes)

      fed_as : FeedsAs P first.request (take (suc g.reads * read_room) bytes) (full_cuts (suc g.reads) bytes) new answer
      fed_as =
          let s = g.stands in
          let stood : CallStands P first.request (take (g.reads * read_room) bytes) (full_cuts g.reads bytes) mid =
          subst (λ c. CallStands P first.request (take (g.reads * read_room) bytes) (full_cuts g.reads bytes) c) (sym same) (record { wrote = s.wrote; first = s.first; finds = s.finds; counted = s.counted; counts = s.counts }) in
          subst (λ b. FeedsAs P first.request b (full_cuts (suc g.reads) bytes) new answer) bytes_more
          (subst (λ c. FeedsAs P first.request (take (g.reads * read_room) bytes ++ piece) c new answer) cuts_more
          (fed.stands first.request (take (g.reads * read_room) bytes) (full_cuts g.reads bytes) stood))

      rest_more : drop read_room left ≡ drop (suc g.reads * read_room) bytes
      rest_more =
          let next : suc g.reads * read_room ≡ g.reads * read_room + read_room = omega arith in
          ap (λ l. drop read_room l) g.rest ∙ drop-drop read_room (g.reads * read_room) bytes ∙ ap (λ n. drop n bytes) (sym next)

    module _ (free : ℕ) (mid new : CallState) (same : mid ≡ record old { free = free }) (piece : List ℕ) (is : piece ≡ take read_room left) where
      pub goes_on : CallFed P mid new piece None → Going first new (drop read_room left)
      goes_on fed = record {
        reads = suc g.reads;
        rest = rest_more free mid new same piece is None fed;
        stands = fed_as free mid new same piece is None fed;
        same = all_same free mid new same piece is None fed;
        written = fed.unwritten ∙ ap (λ (s : CallState). s.unwritten) same ∙ g.written;
      }

      pub received : BytesEndCalls P → BytesEndAnywhere → (answer : Answer) → CallFed P mid new piece (Some answer) → ReadsAll P first.asked first.function bytes new.held answer
      received end anywhere answer fed =
          let all = all_same free mid new same piece is (Some answer) fed in
          record {
            only = of_bytes answer fed.late;
            reads = suc g.reads;
            ends =
                subst (λ (asked : HeaderSeen). CallEndsAs P asked first.function (take (suc g.reads * read_room) bytes) (full_cuts (suc g.reads) bytes) new.held answer) all.asked
                (subst (λ (function : FunctionCode). CallEndsAs P new.asked function (take (suc g.reads * read_room) bytes) (full_cuts (suc g.reads) bytes) new.held answer) all.function
                (end new.asked new.function (take (suc g.reads * read_room) bytes) (full_cuts (suc g.reads) bytes) new.held answer (fed_as free mid new same piece is (Some answer) fed).0));
            ended = anywhere answer (drop (suc g.reads * read_room) bytes) fed.late;
          }
