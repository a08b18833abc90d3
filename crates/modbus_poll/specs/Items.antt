-- Items and reads, by the registers that they take (Modbus Application Protocol V1.1b3, sections 4.4 and 6.3).
use Rattle.std.specs.Prelude.{ℕ, ◌+◌, ◌^◌, Bool, ◌&&◌, nat_le, List}
use Rattle.std.specs.List.{list_any, list_all}
use Rattle.modbus_pdu.specs.Limits.{max_read_registers}
use Rattle.modbus_poll.specs.declared.item.Kind.{Kind}
use Rattle.modbus_poll.specs.declared.item.Kind.TheVariants.{U16, I16, U32, I32, U64, I64, Text}
use Rattle.modbus_poll.specs.declared.item.Item.{Item}
use Rattle.modbus_poll.specs.declared.read.Read.{Read}

-- how many registers there can be: an address has two bytes
abbrev pub addresses : ℕ
addresses = 2 ^ 16

-- how many registers it takes
abbrev pub width : Kind → ℕ
width U16 = 1
width I16 = 1
width (U32 order) = 2
width (I32 order) = 2
width (U64 order) = 4
width (I64 order) = 4
width (Text words) = words

-- the address after the last register of an item
abbrev pub item_end : Item → ℕ
item_end item = item.address + width item.kind

-- the address after the last register of a read
abbrev pub read_end : Read → ℕ
read_end read = read.address + read.count

-- so many registers as one read can give
abbrev pub is_count : ℕ → Bool
is_count count = nat_le 1 count && nat_le count max_read_registers

-- one read can give the item: it takes so many registers, and each of them has an address
abbrev pub is_readable : Item → Bool
is_readable item = is_count (width item.kind) && nat_le (item_end item) addresses

-- each register of the item is one of the read
abbrev pub lies_in : Item → Read → Bool
lies_in item read = nat_le read.address item.address && nat_le (item_end item) (read_end read)

-- it lies in one of these reads
abbrev pub is_covered : List Read → Item → Bool
is_covered reads item = list_any (lies_in item) reads

-- an item takes so many registers as one read can give, and lies in one of these
abbrev pub gives : List Read → Item → Bool
gives reads item = is_count (width item.kind) && is_covered reads item

-- each of the items does
abbrev pub covers : List Read → List Item → Bool
covers reads items = list_all (gives reads) items
