-- The words that reads give, and those of an item among them.
use Rattle.std.specs.Prelude.{◌≡◌, ℕ, ◌-◌, List, [], ◌∷◌, length, take, drop, map, if◌then◌else◌, ⊤}
use Rattle.modbus_poll.specs.declared.item.Item.{Item}
use Rattle.modbus_poll.specs.declared.read.Read.{Read}
use Rattle.modbus_poll.specs.declared.value.Value.{Value}
use Rattle.modbus_poll.specs.Items.{width, lies_in}
use Rattle.modbus_poll.specs.Values.{value}

-- each read gave as many words as it has registers, or states as it has bits
abbrev pub AreWordsOf : {A : Type 0} → List Read → List (List A) → Type 0
AreWordsOf [] [] = ⊤
AreWordsOf (read ∷ reads) (words ∷ found) = (length words ≡ read.count) × AreWordsOf reads found
AreWordsOf _ _ = ⊥

-- the words of an item that lies in a read, by those that the read gave: those at its place
abbrev pub words_of_read : Read → List ℕ → Item → List ℕ
words_of_read read words item = take (width item.kind) (drop (item.address - read.address) words)

-- the words of an item, as they stand in the read that gives it, the earliest of several
abbrev pub words_of_item : List Read → List (List ℕ) → Item → List ℕ
words_of_item (read ∷ reads) (words ∷ found) item =
    if lies_in item read then words_of_read read words item else words_of_item reads found item
words_of_item _ _ item = []

-- the value of an item by what the reads gave
abbrev pub value_among : List Read → List (List ℕ) → Item → Value
value_among reads found item = value item.kind (words_of_item reads found item)

-- the values of items, in their order
abbrev pub values_among : List Read → List (List ℕ) → List Item → List Value
values_among reads found items = map (value_among reads found) items
