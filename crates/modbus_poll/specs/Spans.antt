-- Spans of addresses, and what one read may give (Modbus Application Protocol V1.1b3, sections 4.4 and 6.1 to 6.4).
use Rattle.std.specs.Prelude.{ℕ, ◌+◌, ◌-◌, ◌*◌, Bool, ◌&&◌, nat_le, List}
use Rattle.std.specs.List.{list_any, list_all}
use Rattle.modbus_poll.specs.declared.span.Span.{Span}
use Rattle.modbus_poll.specs.declared.span.Limits.{Limits}
use Rattle.modbus_poll.specs.declared.read.Read.{Read}
use Rattle.modbus_poll.specs.declared.item.Item.{Item}
use Rattle.modbus_poll.specs.Items.{addresses, width, read_end}

-- the span of one address
abbrev pub one : ℕ → Span
one address = record { address = address; count = 1 }

-- the address after the last one of a span
abbrev pub span_end : Span → ℕ
span_end span = span.address + span.count

-- one read can give the span: it has some address, no more than a read may have, and none past the last
abbrev pub is_allowed : Limits → Span → Bool
is_allowed limits span =
    nat_le 1 span.count && nat_le span.count limits.most && nat_le (span_end span) addresses

-- the span of an item's registers
abbrev pub span_of : Item → Span
span_of item = record { address = item.address; count = width item.kind }

-- each address of the span is one of the read
abbrev pub is_within : Span → Read → Bool
is_within span read = nat_le read.address span.address && nat_le (span_end span) (read_end read)

-- it lies in one of these reads
abbrev pub is_read : List Read → Span → Bool
is_read reads span = list_any (is_within span) reads

-- each of these addresses is one of some read
abbrev pub are_read : List Read → List ℕ → Bool
are_read reads asked = list_all (λ address. is_read reads (one address)) asked

-- the place of a span among others: those with a lower address come first, and of several with one address the longest
abbrev pub rank : Span → ℕ
rank span = span.address * addresses + (addresses - span.count)
