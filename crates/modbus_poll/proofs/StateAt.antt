-- The state of a bit among those that reads gave.
use Rattle.std.proofs.Common.{◌≡◌, ℕ, zero, suc, ◌-◌, ◌<◌, Bool, true, false, List, [], ◌∷◌, length, get_or, Some, None, refl, sym, ◌∙◌, ap, arith}
use Rattle.std.specs.List.{position}
use Rattle.std.specs.Option.{is_some}
use Rattle.std.proofs.lemmas.List.Quantifiers.{position-Some}
use Rattle.modbus_poll.specs.declared.read.Read.{Read}
use Rattle.modbus_poll.specs.Spans.{one, is_within, is_read}
use Rattle.modbus_poll.specs.Words.{AreWordsOf}
use Rattle.modbus_poll.specs.States.{state_among}
use Rattle.modbus_poll.proofs.Positions.{some_place}

-- The address is one of the read at this place, and its state is that at its place in what that read gave.
pub record StateAt (reads : List Read) (found : List (List Bool)) (address place : ℕ) : Type 0 where
  pub read : place < length reads
  pub gave : place < length found
  pub within : (d : Read) → is_within (one address) (get_or reads place d) ≡ true
  pub count : (d : Read) (e : List Bool) → length (get_or found place e) ≡ (get_or reads place d).count
  pub state : (d : Read) (e : List Bool) → state_among reads found address ≡ get_or (get_or found place e) (address - (get_or reads place d).address) false

state_there : (reads : List Read) (found : List (List Bool)) (address place : ℕ) → AreWordsOf reads found → place < length reads
    → ((d : Read) → is_within (one address) (get_or reads place d) ≡ true) → ((k : ℕ) (d : Read) → k < place → is_within (one address) (get_or reads k d) ≡ false)
    → StateAt reads found address place
state_there [] found address place gave less holds before = absurd (omega arith)
state_there (r ∷ rs) [] address place gave less holds before = absurd gave
state_there (r ∷ rs) (w ∷ ws) address zero gave less holds before =
    record {
      read = omega arith;
      gave = omega arith;
      within = holds;
      count = λ d e. gave.0;
      state = λ d e. rw (holds r) refl;
    }
state_there (r ∷ rs) (w ∷ ws) address (suc place) gave less holds before =
    let rest = state_there rs ws address place gave.1 (omega arith) holds (λ k d lt. before (suc k) d (omega arith)) in
    record {
      read = less;
      gave = omega (arith, rest.gave);
      within = holds;
      count = λ d e. rest.count d e;
      state = λ d e. rw (before zero r (omega arith)) (rest.state d e);
    }

pub state_at : (reads : List Read) (found : List (List Bool)) (address place : ℕ) → AreWordsOf reads found → position (is_within (one address)) reads ≡ Some place
    → StateAt reads found address place
state_at reads found address place gave e =
    let some : Read = record { address = 0; count = 0 } in
    state_there reads found address place gave (position-Some (is_within (one address)) reads place some e).0
    (λ d. (position-Some (is_within (one address)) reads place d e).1) (λ k d less. (position-Some (is_within (one address)) reads place d e).2 k less)

-- an address of a read is one of some
pub some_read_of : (reads : List Read) (address : ℕ) → is_read reads (one address) ≡ true → position (is_within (one address)) reads ≡ None → ⊥
some_read_of reads address given none =
    let place : is_some (position (is_within (one address)) reads) ≡ true = some_place (is_within (one address)) reads ∙ given in
    let nowhere : false ≡ true = sym (ap is_some none) ∙ place in
    (cc)
