use Rattle.std.proofs.Common.{◌≡◌, ℕ, length}
use Rattle.modbus_client.specs.LineReading.{behind, read_from, told_count}
use Rattle.modbus_client.proofs.line.drop_front.Given as goal

abbrev pub invariant-front : goal.invariant-front
invariant-front g l =
    (others : ℕ) × (read_from (g.J.Judge.verdict l.fn.asked) l.fn.asked 0 l.fn.held.items ≡ behind others (read_from (g.J.Judge.verdict l.fn.asked) l.fn.asked 0 l.held.items)) × (l.dropped ≡ told_count others)

abbrev pub decreases-front : goal.decreases-front
decreases-front g l = length l.held.items
