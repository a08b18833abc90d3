-- Plans: reads that give items (Modbus Application Protocol V1.1b3, section 6.3).
use Rattle.std.specs.Prelude.{◌≡◌, ℕ, ◌+◌, ◌≤◌, false, not, Contains, List, [], ◌∷◌, ◌++◌, ⊤, position, Some}
use Rattle.std.specs.List.{AllPass}
use Rattle.modbus_pdu.specs.Limits.{max_read_registers}
use Rattle.modbus_poll.specs.declared.item.Item.{Item}
use Rattle.modbus_poll.specs.declared.read.Read.{Read}
use Rattle.modbus_poll.specs.Items.{item_end, read_end, is_count, is_readable, is_covered}

-- This is the place of the first item that no read can give.
abbrev pub IsFirstBad : List Item → ℕ → Type 0
IsFirstBad items k = position (λ item. not (is_readable item)) items ≡ Some k

-- Each read is of so many registers as one can be, and each item lies in one of them.
pub record IsPlan (items : List Item) (reads : List Read) : Type 0 where
  pub counts : AllPass (λ (read : Read). is_count read.count) reads
  pub covers : AllPass (is_covered reads) items

-- An item of these that lies in none of these reads.
pub record IsLeft (items : List Item) (reads : List Read) (item : Item) : Type 0 where
  pub among : Contains items item
  pub uncovered : is_covered reads item ≡ false

-- An item of these that one read from this address on can give.
pub record IsInReach (items : List Item) (address : ℕ) (item : Item) : Type 0 where
  pub among : Contains items item
  pub begins : address ≤ item.address
  pub ends : item_end item ≤ address + max_read_registers

-- The read after these: it starts with the lowest register that an item needs and none of them gives, and goes on as far as the items
-- need that one read from there can give.
pub record IsNextRead (items : List Item) (earlier : List Read) (read : Read) : Type 0 where
  pub begins : (item : Item) × IsLeft items earlier item × (item.address ≡ read.address)
  pub least : (item : Item) → IsLeft items earlier item → read.address ≤ item.address
  pub ends : (item : Item) × IsInReach items read.address item × (item_end item ≡ read_end read)
  pub greatest : (item : Item) → IsInReach items read.address item → item_end item ≤ read_end read

-- Each of these reads is the one after those that were made before it, of which the earlier ones are the first.
abbrev pub Follow : List Item → List Read → List Read → Type 0
Follow items earlier [] = ⊤
Follow items earlier (read ∷ later) =
    IsNextRead items earlier read × Follow items (earlier ++ read ∷ []) later
