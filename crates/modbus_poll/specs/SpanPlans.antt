-- Plans for spans within limits (Modbus Application Protocol V1.1b3, sections 6.1 to 6.4).
--
-- A read begins at the lowest address that is left. It goes on over the spans in reach, those that start no lower and end no more than
-- `most` from there, while the next one begins no more than `gap` behind what it has so far. A span that lies in another one is read with it.
use Rattle.std.specs.Prelude.{◌≡◌, ℕ, ◌+◌, ◌<◌, ◌≤◌, false, not, All, Contains, List, [], ◌∷◌, ◌++◌, ⊤, position, Some}
use Rattle.std.specs.List.{AllPass}
use Rattle.modbus_poll.specs.declared.span.Span.{Span}
use Rattle.modbus_poll.specs.declared.span.Limits.{Limits}
use Rattle.modbus_poll.specs.declared.read.Read.{Read}
use Rattle.modbus_poll.specs.Items.{read_end}
use Rattle.modbus_poll.specs.Spans.{span_end, is_allowed, is_read}

-- This is the place of the first span that no read within the limits can give.
abbrev pub IsFirstOver : Limits → List Span → ℕ → Type 0
IsFirstOver limits spans k = position (λ span. not (is_allowed limits span)) spans ≡ Some k

-- a read within the limits: of some addresses, and no more than they allow
pub record IsLimited (limits : Limits) (read : Read) : Type 0 where
  pub some : 1 ≤ read.count
  pub most : read.count ≤ limits.most

-- A span of these that lies in none of these reads.
pub record IsUnread (spans : List Span) (reads : List Read) (span : Span) : Type 0 where
  pub among : Contains spans span
  pub left : is_read reads span ≡ false

-- A span of these that lies in no other.
pub record IsOutermost (spans : List Span) (span : Span) : Type 0 where
  pub among : Contains spans span
  pub widest : (other : Span) → Contains spans other → other.address ≤ span.address
      → span_end span ≤ span_end other → other ≡ span

-- Such a span that one read from this address on can give.
pub record IsWithinReach (limits : Limits) (spans : List Span) (address : ℕ) (span : Span) : Type 0 where
  pub outermost : IsOutermost spans span
  pub begins : address ≤ span.address
  pub ends : span_end span ≤ address + limits.most

-- Some span of these names one of the addresses from this one on, up to a gap behind it.
pub record AreNamed (spans : List Span) (address gap : ℕ) : Type 0 where
  pub span : Span
  pub among : Contains spans span
  pub begins : span.address ≤ address + gap
  pub ends : address < span_end span

-- How far a read goes from this address on: to the end of a span in reach; it has no more than `gap` addresses in a row that no span names;
-- and of the spans in reach that begin no more than `gap` behind its end none ends later.
pub record GoesOn (limits : Limits) (spans : List Span) (address end : ℕ) : Type 0 where
  pub last : (span : Span) × IsWithinReach limits spans address span × (span_end span ≡ end)
  pub named : (from : ℕ) → address ≤ from → from + limits.gap < end → AreNamed spans from limits.gap
  pub whole : (span : Span) → IsWithinReach limits spans address span
      → span.address ≤ end + limits.gap → span_end span ≤ end

-- The read after these: it begins at the lowest address that is left, and goes on as far as the limits allow.
pub record IsNext (limits : Limits) (spans : List Span) (earlier : List Read) (read : Read) : Type 0 where
  pub begins : (span : Span) × IsUnread spans earlier span × (span.address ≡ read.address)
  pub least : (span : Span) → IsUnread spans earlier span → read.address ≤ span.address
  pub goes_on : GoesOn limits spans read.address (read_end read)

-- Each of these reads is the one after those that were made before it, of which the earlier ones are the first.
abbrev pub FollowWithin : Limits → List Span → List Read → List Read → Type 0
FollowWithin limits spans earlier [] = ⊤
FollowWithin limits spans earlier (read ∷ later) =
    IsNext limits spans earlier read × FollowWithin limits spans (earlier ++ read ∷ []) later

-- Each read is within the limits, and each span lies in one of them.
pub record IsPlanWithin (limits : Limits) (spans : List Span) (reads : List Read) : Type 0 where
  pub limited : All (IsLimited limits) reads
  pub covers : AllPass (is_read reads) spans
