-- The search of an RTU client for the reply, over all bytes that it read in a call and the cuts between its reads. A cut is the
-- total after a read that gave bytes.
--
-- The client holds what it read and did not drop, and looks at the first held offset again after each read. What stands at an
-- offset depends on how far the bytes go then: the frame of a function without a length rule is all that is held. So the search says
-- for each offset in which cut it is looked at.
use Rattle.std.specs.Prelude.{◌≡◌, ◌≢◌, ℕ, zero, suc, ◌+◌, ◌-◌, ◌<◌, ◌≤◌, List, length, take, drop, slice_index, Contains}
use Rattle.modbus_rtu.specs.Limits.{max_retries}
use Rattle.modbus_rtu.specs.declared.verdict.Verdict.{Verdict}
use Rattle.modbus_rtu.specs.declared.verdict.Verdict.TheVariants.{Open, Bad, Good}
use Rattle.modbus_rtu.specs.ResponseHead.{response_verdict}

-- what stands at an offset after the read that ends at a cut: the bytes from there on, as far as they were read by then
abbrev pub verdict_when_read : List ℕ → ℕ → ℕ → Verdict
verdict_when_read bytes offset cut = response_verdict (drop offset (take cut bytes))

-- Of the cuts from `from` on, `cut` is the first one at which the offset isn't open: there it is looked at.
pub record IsLookedAt (bytes cuts : List ℕ) (from offset cut : ℕ) : Type 0 where
  pub is_cut : Contains cuts cut
  pub counts : from ≤ cut
  pub decided : verdict_when_read bytes offset cut ≢ Open
  pub first : (earlier : ℕ) → Contains cuts earlier → from ≤ earlier → earlier < cut → verdict_when_read bytes offset earlier ≡ Open

-- The cut from which on the cuts count for an offset, by the cuts in which the offsets before it are looked at: all count for the
-- first offset, and for a later one those from the cut on in which the offset before it is looked at.
abbrev pub counts_from : List ℕ → ℕ → ℕ
counts_from looks zero = 0
counts_from looks (suc before) = slice_index looks before

-- so many offsets from one on are looked at in this cut
abbrev pub Share : List ℕ → ℕ → ℕ → ℕ → Type 0
Share looks offset count cut = (i : ℕ) → i < count → slice_index looks (offset + i) ≡ cut

-- The first offsets are looked at one after another, in these cuts, one for each. All are bad there, and no twenty in a row share a
-- cut.
pub record ArePassed (bytes cuts looks : List ℕ) : Type 0 where
  pub looked : (k : ℕ) → k < length looks → IsLookedAt bytes cuts (counts_from looks k) k (slice_index looks k)
  pub bad : (k : ℕ) → k < length looks → verdict_when_read bytes k (slice_index looks k) ≡ Bad
  pub calm : (k cut : ℕ) → k + max_retries ≤ length looks → Share looks k max_retries cut → ⊥

-- How the search stands.
pub data SearchState : Type 0 where
  -- a frame at this offset, with the length of its PDU
  reply : ℕ → ℕ → SearchState
  -- no frame at this offset and the nineteen before it, which share a cut
  crowd : ℕ → SearchState
  -- no frame yet: this offset waits for bytes
  waiting : ℕ → SearchState

-- From the cuts of the passed offsets, how the next offset stands.
abbrev pub IsFoundAfter : List ℕ → List ℕ → List ℕ → SearchState → Type 0
IsFoundAfter bytes cuts looks (reply offset pdu_len) =
    (offset ≡ length looks) × (cut : ℕ) × IsLookedAt bytes cuts (counts_from looks offset) offset cut × (verdict_when_read bytes offset cut ≡ Good pdu_len)
IsFoundAfter bytes cuts looks (crowd offset) =
    (offset ≡ length looks) × (cut : ℕ) × IsLookedAt bytes cuts (counts_from looks offset) offset cut × (verdict_when_read bytes offset cut ≡ Bad)
    × (first : ℕ) × (first + (max_retries - 1) ≡ offset) × Share looks first (max_retries - 1) cut
IsFoundAfter bytes cuts looks (waiting offset) =
    (offset ≡ length looks) × ((cut : ℕ) → Contains cuts cut → counts_from looks offset ≤ cut → verdict_when_read bytes offset cut ≡ Open)

-- the search in these bytes, read with these cuts
abbrev pub SearchFinds : List ℕ → List ℕ → SearchState → Type 0
SearchFinds bytes cuts found = (looks : List ℕ) × ArePassed bytes cuts looks × IsFoundAfter bytes cuts looks found
