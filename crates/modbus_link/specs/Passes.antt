-- What goes through a machine between a source and a sink: the pieces that it is fed, and the pieces that are written of what it
-- gives. Both are there for every source and sink; one that tells its bytes tells these.
use Rattle.std.proofs.Common.{◌≡◌, ℕ, ◌<◌, List, [], ◌∷◌, ◌++◌, length, take, drop, refl, sym, ap, ◌∙◌, subst, arith, IsTrue, append_assoc, length-append}
use Rattle.std.proofs.lemmas.List.{take-append-drop, drop_all}
use Rattle.modbus_link.specs.declared.outside.Cut.{Cut}
use Rattle.modbus_link.specs.Outside.{cut_at, Input, Output, Outside, Advances, Extends, bytes_read, bytes_appended, cuts_made, cuts_from, RisesTo}
use Rattle.modbus_link.specs.Runs.{Advances-same, Advances-both, Extends-same, Extends-both, bytes_read-none, cuts_made-none, read_more, cuts_more, appended_more, RisesTo-both}

-- the bytes that were fed, the cuts and rooms of the reads that gave them, and the bytes that were sent
pub record Passes (from to : Outside) (fed : List ℕ) (made : List Cut) (sent : List ℕ) : Type 0 where
  pub source : Advances from.input to.input
  pub sink : Extends from.output to.output
  pub read : IsTrue from.input.told → bytes_read from.input to.input ≡ fed
  pub cuts : IsTrue from.input.told → cuts_made from.input to.input ≡ made
  pub wrote : IsTrue from.output.told → bytes_appended from.output to.output ≡ sent
  pub rises : RisesTo 0 made (length fed)

-- a front of what waited was sent, and the rest waits
pub record Sends (sunk sinks : Output) (old new : List ℕ) : Type 0 where
  pub sent : List ℕ
  pub sink : Extends sunk sinks
  pub wrote : IsTrue sunk.told → bytes_appended sunk sinks ≡ sent
  pub splits : old ≡ sent ++ new

pub none_appended : (a : Output) → bytes_appended a a ≡ []
none_appended a = drop_all (length a.bytes) a.bytes (omega arith)

-- nothing is sent, or one more piece
pub sends_none : (a : Output) (waiting : List ℕ) → Sends a a waiting waiting
sends_none a waiting = record { sent = []; sink = Extends-same a; wrote = λ told. none_appended a; splits = refl }

pub sends_more : (a b c : Output) (old now new piece : List ℕ) → Sends a b old now → Extends b c → (IsTrue b.told → bytes_appended b c ≡ piece) → now ≡ piece ++ new → Sends a c old new
sends_more a b c old now new piece s more wrote e = record {
  sent = s.sent ++ piece;
  sink = Extends-both a b c s.sink more;
  wrote = λ told. appended_more a b c s.sent piece s.sink more s.wrote wrote told;
  splits = s.splits ∙ ap (λ w. s.sent ++ w) e ∙ sym (append_assoc s.sent piece new);
}

-- one write of all that waits took a front of it
pub wrote_more : (a b c : Output) (old now new piece : List ℕ) (n : ℕ) → Sends a b old now → Extends b c → (IsTrue b.told → bytes_appended b c ≡ take n piece) → piece ≡ now → new ≡ drop n now → Sends a c old new
wrote_more a b c old now new piece n s more wrote e f =
    sends_more a b c old now new (take n now) s more (λ told. wrote told ∙ ap (take n) e) (sym (take-append-drop n now) ∙ ap (λ w. take n now ++ w) (sym f))

pub rises_none : (fed : List ℕ) (made : List Cut) → fed ≡ [] → made ≡ [] → RisesTo 0 made (length fed)
rises_none fed made e f = rw (e, f) refl

pub rises_one : (fed : List ℕ) (made : List Cut) (room : ℕ) → made ≡ cut_at (length fed) room ∷ [] → 0 < length fed → RisesTo 0 made (length fed)
rises_one fed made room e some = rw e (some, refl)

-- nothing was read, and some was written
pub passes_out : (a b : Outside) (sent : List ℕ) → b.input ≡ a.input → Extends a.output b.output → (IsTrue a.output.told → bytes_appended a.output b.output ≡ sent)
    → Passes a b [] [] sent
passes_out a b sent e sink wrote = record {
  source = subst (Advances a.input) (sym e) (Advances-same a.input);
  sink = sink;
  read = λ told. bytes_read-none a.input b.input (ap (λ (i : Input). i.given) e);
  cuts = λ told. cuts_made-none a.input b.input (ap (λ (i : Input). i.cuts) e);
  wrote = wrote;
  rises = refl;
}

-- nothing was written, and some was read
pub passes_in : (a b : Outside) (fed : List ℕ) (made : List Cut) → b.output ≡ a.output → Advances a.input b.input → (IsTrue a.input.told → bytes_read a.input b.input ≡ fed)
    → (IsTrue a.input.told → cuts_made a.input b.input ≡ made) → RisesTo 0 made (length fed) → Passes a b fed made []
passes_in a b fed made e source read cuts rises = record {
  rises = rises;
  source = source;
  sink = subst (Extends a.output) (sym e) (Extends-same a.output);
  read = read;
  cuts = cuts;
  wrote = λ told. subst (λ n. bytes_appended a.output n ≡ []) (sym e) (none_appended a.output);
}

pub passes_none : (a : Outside) → Passes a a [] [] []
passes_none a = passes_out a a [] refl (Extends-same a.output) (λ told. none_appended a.output)

-- one call after another over the same source and sink
pub passes_both : (a b c : Outside) (fed fed' : List ℕ) (made made' : List Cut) (sent sent' : List ℕ)
    → Passes a b fed made sent → Passes b c fed' made' sent' → Passes a c (fed ++ fed') (made ++ cuts_from (length fed) made') (sent ++ sent')
passes_both a b c fed fed' made made' sent sent' first second = record {
  source = Advances-both a.input b.input c.input first.source second.source;
  sink = Extends-both a.output b.output c.output first.sink second.sink;
  read = λ told. read_more a.input b.input c.input fed fed' first.source second.source first.read second.read told;
  cuts = λ told. cuts_more a.input b.input c.input made made' first.source second.source first.cuts second.cuts told
      ∙ ap (λ (bytes : List ℕ). made ++ cuts_from (length bytes) made') (first.read told);
  wrote = λ told. appended_more a.output b.output c.output sent sent' first.sink second.sink first.wrote second.wrote told;
  rises = RisesTo-both (made ++ cuts_from (length fed) made') made made' (length fed) (length fed') (length (fed ++ fed')) refl (length-append fed fed') first.rises second.rises;
}
