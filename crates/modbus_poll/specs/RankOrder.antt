-- Spans in the order of their ranks, as the planner within limits goes over them.
use Rattle.std.specs.Prelude.{ℕ, ◌+◌, ◌<◌, Bool, ◌&&◌, nat_le, List, slice_index_or}
use Rattle.std.specs.List.Sorted.{IsPermutation, IsNonDecreasingBy}
use Rattle.modbus_poll.specs.declared.span.Span.{Span}
use Rattle.modbus_poll.specs.declared.span.Limits.{Limits}
use Rattle.modbus_poll.specs.Spans.{span_end, rank}

-- no span stands before one of a lower rank
abbrev pub AreRanked : List Span → Type 0
AreRanked spans = IsNonDecreasingBy rank spans

-- the same spans in that order
abbrev pub AreInRankOrder : List Span → List Span → Type 0
AreInRankOrder spans sorted = IsPermutation spans sorted × AreRanked sorted

-- each span before this place ends before the one at it does
abbrev pub EndEarlier : List Span → ℕ → Type 0
EndEarlier spans place = (k : ℕ) (d : Span) → k < place
    → span_end (slice_index_or spans k d) < span_end (slice_index_or spans place d)

-- a read from this address, which ends there so far, goes on over a span that ends later
abbrev pub joins : Limits → ℕ → ℕ → Span → Bool
joins limits address end span =
    nat_le (span_end span) (address + limits.most) && nat_le span.address (end + limits.gap)
