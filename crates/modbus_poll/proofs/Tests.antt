-- What the tests on items and reads tell.
use Rattle.std.proofs.Common.{◌≡◌, ℕ, ◌+◌, ◌<◌, ◌≤◌, true, false, arith}
use Rattle.std.proofs.lemmas.Bool.Decides.{nat_tests}
use Rattle.modbus_pdu.specs.Limits.{max_read_registers}
use Rattle.modbus_poll.specs.declared.item.Item.{Item}
use Rattle.modbus_poll.specs.declared.read.Read.{Read}
use Rattle.modbus_poll.specs.declared.span.Span.{Span}
use Rattle.modbus_poll.specs.declared.span.Limits.{Limits}
use Rattle.modbus_poll.specs.Items.{addresses, width, item_end, read_end, is_readable, lies_in}
use Rattle.modbus_poll.specs.Spans.{one, span_end, is_allowed, is_within}
use Rattle.modbus_poll.specs.RankOrder.{joins}

pub lies : (item : Item) (read : Read) → read.address ≤ item.address → item_end item ≤ read_end read → lies_in item read ≡ true
lies item read begins ends = grind (arith, nat_tests)

pub lies_between : (item : Item) (read : Read) → lies_in item read ≡ true → (read.address ≤ item.address) × (item_end item ≤ read_end read)
lies_between item read e = (grind (arith, nat_tests), grind (arith, nat_tests))

pub is_there : (span : Span) (read : Read) → read.address ≤ span.address → span_end span ≤ read_end read → is_within span read ≡ true
is_there span read begins ends = grind (arith, nat_tests)

-- the read ends too early, or begins too late
pub ends_before : (span : Span) (read : Read) → read_end read < span_end span → is_within span read ≡ false
ends_before span read less = grind (arith, nat_tests)

pub begins_after : (span : Span) (read : Read) → span.address < read.address → is_within span read ≡ false
begins_after span read less = grind (arith, nat_tests)

-- a read that ends late enough and does not include the span begins too late
pub begins_late : (span : Span) (read : Read) → span_end span ≤ read_end read → is_within span read ≡ false → span.address < read.address
begins_late span read ends e = grind (arith, nat_tests)

pub allowed_some : (limits : Limits) (span : Span) → is_allowed limits span ≡ true → 1 ≤ span.count
allowed_some limits span e = grind (arith, nat_tests)

pub allowed_most : (limits : Limits) (span : Span) → is_allowed limits span ≡ true → span.count ≤ limits.most
allowed_most limits span e = grind (arith, nat_tests)

pub allowed_end : (limits : Limits) (span : Span) → is_allowed limits span ≡ true → span_end span ≤ addresses
allowed_end limits span e = grind (arith, nat_tests)

pub joins_most : (limits : Limits) (address end : ℕ) (span : Span) → joins limits address end span ≡ true → span_end span ≤ address + limits.most
joins_most limits address end span e = grind (arith, nat_tests)

pub joins_gap : (limits : Limits) (address end : ℕ) (span : Span) → joins limits address end span ≡ true → span.address ≤ end + limits.gap
joins_gap limits address end span e = grind (arith, nat_tests)

-- a span that begins near enough and does not join ends too late
pub parts : (limits : Limits) (address end : ℕ) (span : Span) → joins limits address end span ≡ false → span.address ≤ end + limits.gap
    → address + limits.most < span_end span
parts limits address end span e near = grind (arith, nat_tests)

pub readable_width : (item : Item) → is_readable item ≡ true → (1 ≤ width item.kind) × (width item.kind ≤ max_read_registers)
readable_width item e = (grind (arith, nat_tests), grind (arith, nat_tests))

pub one_within : (address : ℕ) (read : Read) → is_within (one address) read ≡ true → (read.address ≤ address) × (address < read_end read)
one_within address read e = (grind (arith, nat_tests), grind (arith, nat_tests))
