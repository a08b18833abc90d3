-- The items that the words of the form `plan` name, and the text that tells a plan for them.
use Rattle.std.specs.Prelude.{◌≡◌, ℕ, ◌+◌, ◌&&◌, true, nat_le, List, [], ◌∷◌, ◌++◌, length, take, drop, codes, position, fold, ◌==◌, Option, Some, None, if◌then◌else◌, IsTrue, Result, Ok, Err, Bool}
use Rattle.std.specs.Fmt.{decimal}
use Rattle.std.specs.Option.{is_some}
use Rattle.modbus_link.specs.Outside.{Output, Rose, Extends, bytes_appended, IsFront}
use Rattle.modbus_server.specs.declared.error.ProcessError.{ProcessError}
use Rattle.modbus_server.specs.declared.error.ProcessError.TheVariants.{WriteFault, NoMemory}
use Rattle.modbus_pdu.specs.Limits.{max_read_registers}
use Rattle.modbus_ascii.specs.Limits.{colon}
use Rattle.modbus_poll.specs.declared.item.Kind.TheVariants.{Text}
use Rattle.modbus_poll.specs.declared.item.Item.{Item}
use Rattle.modbus_poll.specs.declared.read.Read.{Read}
use Rattle.modbus_poll.specs.Items.{addresses}
use Rattle.modbus_poll.specs.Plans.{IsPlan, Follow}
use Rattle.modbus_poll.specs.Notation.{number_within}

-- an item of so many registers from an address on, none of which is behind the last address
abbrev pub item_of : Option ℕ → Option ℕ → Option Item
item_of (Some address) (Some width) =
    if nat_le (address + width) addresses then Some (record { address = address; kind = Text width }) else None
item_of _ _ = None

-- the item of a word with its first colon at this place
abbrev pub item_split : List ℕ → Option ℕ → Option Item
item_split text (Some at) = item_of (number_within 5 0 65535 (take at text)) (number_within 3 1 max_read_registers (drop (at + 1) text))
item_split text None = None

-- the item that a word names: an address of one to five digits, a colon, and a width of one to three, from 1 to 125
abbrev pub item_named : List ℕ → Option Item
item_named text = item_split text (position (λ byte. byte == colon) text)

abbrev pub is_item : List ℕ → Bool
is_item text = is_some (item_named text)

-- every word names one
abbrev pub are_items : List (List ℕ) → Bool
are_items words = fold (λ all word. all && is_item word) true words

abbrev pub with_item : Option Item → List Item → List Item
with_item (Some item) items = items ++ item ∷ []
with_item None items = items

-- the items that these words name, in their order; the word `plan` itself names none
abbrev pub items_named : List (List ℕ) → List Item
items_named words = fold (λ items word. with_item (item_named word) items) [] words

-- a read on a line
abbrev pub read_line : Read → List ℕ
read_line read = codes "read " ++ decimal read.address ++ codes " " ++ decimal read.count ++ codes "\n"

-- how many reads there are, on a line
abbrev pub count_line : ℕ → List ℕ
count_line count = codes "reads " ++ decimal count ++ codes "\n"

-- the reads of a plan, each on a line, and how many they are
abbrev pub plan_text : List Read → List ℕ
plan_text reads = fold (λ text read. text ++ read_line read) [] reads ++ count_line (length reads)

-- these are the reads of the plan for these items
pub record ArePlanned (items : List Item) (reads : List Read) : Type 0 where
  pub plan : IsPlan items reads
  pub follow : Follow items [] reads

-- this is the text of the plan for these items
abbrev pub IsPlanText : List Item → List ℕ → Type 0
IsPlanText items text = (reads : List Read) × ArePlanned items reads × (text ≡ plan_text reads)

-- The text of the plan was appended, or a front of it where the sink failed; nothing was where memory was refused. There is no other ending.
abbrev pub TellsPlan : List Item → Output → Output → Result (Unit {0}) ProcessError → Type 0
TellsPlan items sunk sinks (Ok done) = (text : List ℕ) × IsPlanText items text × Extends sunk sinks × (IsTrue sunk.told → bytes_appended sunk sinks ≡ text)
TellsPlan items sunk sinks (Err WriteFault) = (text : List ℕ) × IsPlanText items text
    × Extends sunk sinks × Rose sunk.faults sinks.faults × (IsTrue sunk.told → IsFront (bytes_appended sunk sinks) text)
TellsPlan items sunk sinks (Err NoMemory) = sinks ≡ sunk
TellsPlan items sunk sinks (Err _) = ⊥
