-- What a source and a sink mean, and what a call above them says of a whole run of reads and writes.
use Rattle.std.specs.Prelude.{◌≡◌, ℕ, ◌+◌, ◌-◌, ◌^◌, ◌<◌, ◌≤◌, ◌↔◌, min, Bool, false, if◌then◌else◌, ◌==◌, List, [], ◌∷◌, ◌++◌, length, take, drop, map, IsTrue, Result, Ok, Err, IfOk}
use Rattle.modbus_link.specs.declared.outside.Cut.{Cut}

-- the cut at this total, of a read into a room of this length
abbrev pub cut_at : ℕ → ℕ → Cut
cut_at total room = record { total = total; room = room }

-- What a source means. Where it is not told, the three fields on content say nothing.
pub record Input : Type 0 where
  pub told : Bool
  -- the bytes that it will give
  pub left : List ℕ
  -- how many it gave
  pub given : ℕ
  pub cuts : List Cut
  pub faults : ℕ
  -- whether it never fails
  pub sure : Bool
  -- the references through which it is reached, which stay
  pub names : List ℕ

-- What a sink means. Where it is not told, `bytes` says nothing.
pub record Output : Type 0 where
  pub told : Bool
  -- all bytes that were appended
  pub bytes : List ℕ
  pub faults : ℕ
  -- it fails only once it holds so many bytes; 0 where it may fail at any time
  pub sure_below : ℕ
  pub names : List ℕ

-- What a source and a sink mean at one moment.
pub record Outside : Type 0 where
  pub input : Input
  pub output : Output

abbrev pub outside : Input → Output → Outside
outside input output = record { input = input; output = output }

-- the count is larger than it was, or stands at the last number of a counter
abbrev pub Rose : ℕ → ℕ → Type 0
Rose before now = min (before + 1) (2 ^ 64 - 1) ≤ now

-- the same, reached through one more reference
abbrev pub input_through : ℕ → Input → Input
input_through name input = record input { names = name ∷ input.names }

abbrev pub output_through : ℕ → Output → Output
output_through name output = record output { names = name ∷ output.names }

-- the bytes that were read between two states of a source
abbrev pub bytes_read : Input → Input → List ℕ
bytes_read old new = take (new.given - old.given) old.left

-- the cuts of the reads between two states: the total since the first state, and the room
abbrev pub cuts_made : Input → Input → List Cut
cuts_made old new = map (λ cut. cut_at (cut.total - old.given) cut.room) (drop (length old.cuts) new.cuts)

-- the same cuts, of a run that began so many bytes earlier
abbrev pub cuts_from : ℕ → List Cut → List Cut
cuts_from by cuts = map (λ cut. cut_at (by + cut.total) cut.room) cuts

-- these cuts rise from one total to another
abbrev pub RisesTo : ℕ → List Cut → ℕ → Type 0
RisesTo start [] end = start ≡ end
RisesTo start (cut ∷ cuts) end = (start < cut.total) × RisesTo cut.total cuts end

-- what a told source does from one state to a later one: it gives a front of what was left, and only adds cuts
pub record Gives (old new : Input) : Type 0 where
  pub left : old.left ≡ bytes_read old new ++ new.left
  pub given : new.given ≡ old.given + length (bytes_read old new)
  pub cuts : take (length old.cuts) new.cuts ≡ old.cuts
  pub rising : RisesTo 0 (cuts_made old new) (length (bytes_read old new))

-- a source goes from one state to a later one
pub record Advances (old new : Input) : Type 0 where
  pub told : new.told ≡ old.told
  pub later : old.faults ≤ new.faults
  pub names : new.names ≡ old.names
  pub sure : new.sure ≡ old.sure
  pub no_fault : IsTrue old.sure → new.faults ≡ old.faults
  pub content : IsTrue old.told → Gives old new

-- the bytes that were appended between two states of a sink
abbrev pub bytes_appended : Output → Output → List ℕ
bytes_appended old new = drop (length old.bytes) new.bytes

-- a sink goes from one state to a later one: where it is told, bytes are only appended
pub record Extends (old new : Output) : Type 0 where
  pub told : new.told ≡ old.told
  pub later : old.faults ≤ new.faults
  pub names : new.names ≡ old.names
  pub sure : new.sure_below ≡ old.sure_below
  pub no_fault : IsTrue old.told → length new.bytes < old.sure_below → new.faults ≡ old.faults
  pub content : IsTrue old.told → new.bytes ≡ old.bytes ++ bytes_appended old new

-- these bytes are a front of those
abbrev pub IsFront : List ℕ → List ℕ → Type 0
IsFront front whole = (rest : List ℕ) × (whole ≡ front ++ rest)

-- what a source means that tells nothing but how often it failed
abbrev pub untold_input : ℕ → Input
untold_input faults = record { told = false; left = []; given = 0; cuts = []; faults = faults; sure = false; names = [] }

-- the same for a sink
abbrev pub untold_output : ℕ → Output
untold_output faults = record { told = false; bytes = []; faults = faults; sure_below = 0; names = [] }

-- the front of these bytes that a read gave or a write took
abbrev pub front_of : {E : Type 0} → Result ℕ E → List ℕ → List ℕ
front_of (Ok n) bytes = take n bytes
front_of (Err _) bytes = []

-- the cut of one read of n bytes into a room of this length
abbrev pub one_cut : ℕ → ℕ → List Cut
one_cut n room = if n == 0 then [] else cut_at n room ∷ []

-- the same, none where the read failed
abbrev pub cut_of : {E : Type 0} → Result ℕ E → ℕ → List Cut
cut_of (Ok n) room = one_cut n room
cut_of (Err _) room = []

-- What one read of a told source does. The front of the room has the next bytes, the rest of it stays. It gives none
-- exactly where nothing is left. A read that failed gives nothing.
pub record ReadIsTold {E : Type 0} (old new : Input) (before after : List ℕ) (result : Result ℕ E) : Type 0 where
  pub bytes : bytes_read old new ≡ front_of result after
  pub cuts : cuts_made old new ≡ cut_of result (length before)
  pub rest : IfOk result (λ n. drop n after ≡ drop n before)
  pub ended : IfOk result (λ n. (n ≡ 0) ↔ (old.left ≡ []))
