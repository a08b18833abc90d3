-- The words of an item among those that reads gave.
use Rattle.std.proofs.Common.{◌≡◌, ℕ, zero, suc, ◌<◌, true, false, List, [], ◌∷◌, length, get_or, Some, None, refl, sym, ◌∙◌, ap, arith}
use Rattle.std.specs.List.{position}
use Rattle.std.specs.Option.{is_some}
use Rattle.std.proofs.lemmas.Bool.{and_parts}
use Rattle.std.proofs.lemmas.List.Quantifiers.{position-Some}
use Rattle.modbus_poll.specs.declared.item.Item.{Item}
use Rattle.modbus_poll.specs.declared.read.Read.{Read}
use Rattle.modbus_poll.specs.Items.{width, lies_in, is_count, is_covered, gives}
use Rattle.modbus_poll.specs.Words.{AreWordsOf, words_of_read, words_of_item}
use Rattle.modbus_poll.proofs.Positions.{some_place}

-- The item lies in the read at this place, and its words are those at its place in what that read gave.
pub record WordsAt (reads : List Read) (found : List (List ℕ)) (item : Item) (place : ℕ) : Type 0 where
  pub read : place < length reads
  pub gave : place < length found
  pub lies : (d : Read) → lies_in item (get_or reads place d) ≡ true
  pub count : (d : Read) (e : List ℕ) → length (get_or found place e) ≡ (get_or reads place d).count
  pub words : (d : Read) (e : List ℕ) → words_of_item reads found item ≡ words_of_read (get_or reads place d) (get_or found place e) item

words_there : (reads : List Read) (found : List (List ℕ)) (item : Item) (place : ℕ) → AreWordsOf reads found → place < length reads
    → ((d : Read) → lies_in item (get_or reads place d) ≡ true) → ((k : ℕ) (d : Read) → k < place → lies_in item (get_or reads k d) ≡ false) → WordsAt reads found item place
words_there [] found item place gave less holds before = absurd (omega arith)
words_there (r ∷ rs) [] item place gave less holds before = absurd gave
words_there (r ∷ rs) (w ∷ ws) item zero gave less holds before =
    record {
      read = omega arith;
      gave = omega arith;
      lies = holds;
      count = λ d e. gave.0;
      words = λ d e. rw (holds r) refl;
    }
words_there (r ∷ rs) (w ∷ ws) item (suc place) gave less holds before =
    let rest = words_there rs ws item place gave.1 (omega arith) holds (λ k d lt. before (suc k) d (omega arith)) in
    record {
      read = less;
      gave = omega (arith, rest.gave);
      lies = holds;
      count = λ d e. rest.count d e;
      words = λ d e. rw (before zero r (omega arith)) (rest.words d e);
    }

pub words_at : (reads : List Read) (found : List (List ℕ)) (item : Item) (place : ℕ) → AreWordsOf reads found → position (lies_in item) reads ≡ Some place → WordsAt reads found item place
words_at reads found item place gave e =
    let some : Read = record { address = 0; count = 0 } in
    words_there reads found item place gave (position-Some (lies_in item) reads place some e).0
    (λ d. (position-Some (lies_in item) reads place d e).1) (λ k d less. (position-Some (lies_in item) reads place d e).2 k less)

-- an item that is given lies in some read
pub some_read : (reads : List Read) (item : Item) → gives reads item ≡ true → position (lies_in item) reads ≡ None → ⊥
some_read reads item given none =
    let covered : is_covered reads item ≡ true = (and_parts (is_count (width item.kind)) (is_covered reads item) given).1 in
    let place : is_some (position (lies_in item) reads) ≡ true = some_place (lies_in item) reads ∙ covered in
    let nowhere : false ≡ true = sym (ap is_some none) ∙ place in
    (cc)
