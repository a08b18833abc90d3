-- What settling a line does: what still comes is read and dropped, until the line is silent.
use Rattle.std.specs.Prelude.{◌≡◌, ℕ, ◌+◌, ◌-◌, ◌^◌, ◌<◌, ◌≤◌, min, List, [], length, IsTrue, Result, Ok, Err}
use Rattle.modbus_link.specs.Outside.{Input, Rose, Advances, bytes_read}
use Rattle.modbus_reconnect.specs.declared.settling.Unsettled.{Unsettled}
use Rattle.modbus_reconnect.specs.declared.settling.Unsettled.TheVariants.{StillSending, ReadFault, Ended}

-- the count is larger by so many than it was, or stands at the last number of a counter
abbrev pub RoseBy : ℕ → ℕ → ℕ → Type 0
RoseBy many before now = min (before + many) (2 ^ 64 - 1) ≤ now

-- why a line was not settled: a read failed, or nothing is left
abbrev pub IsUnsettledBy : Input → Input → Unsettled → Type 0
IsUnsettledBy from to StillSending = ⊥
IsUnsettledBy from to ReadFault = Rose from.faults to.faults
IsUnsettledBy from to Ended = IsTrue from.told → to.left ≡ []

-- Bytes were dropped, so many; or none came, and so many silences were told instead.
abbrev pub DropsAs : ℕ → Input → Input → ℕ → ℕ → List ℕ → Result ℕ Unsettled → Type 0
DropsAs silences from to idle idle' dropped (Ok count) =
    (length dropped ≡ count) × (count ≡ 0 → RoseBy silences idle idle')
DropsAs silences from to idle idle' dropped (Err reason) = (dropped ≡ []) × IsUnsettledBy from to reason

-- What came next was dropped, or the line was silent.
pub record DropsNoise (silences most : ℕ) (from to : Input) (idle idle' : ℕ) (result : Result ℕ Unsettled) : Type 0 where
  -- the bytes that were read, where the link tells them
  pub dropped : List ℕ
  pub source : Advances from to
  pub read : IsTrue from.told → bytes_read from to ≡ dropped
  pub within : length dropped ≤ most
  pub ends : DropsAs silences from to idle idle' dropped result
  pub later : idle ≤ idle'

-- how it ended: by silence, with fewer bytes than may be dropped; with as many; or by the link
abbrev pub SettlesAs : ℕ → ℕ → Input → Input → ℕ → ℕ → List ℕ → Result ℕ Unsettled → Type 0
SettlesAs silences limit from to idle idle' dropped (Ok count) =
    (length dropped ≡ count) × (count < limit) × RoseBy silences idle idle'
SettlesAs silences limit from to idle idle' dropped (Err StillSending) = length dropped ≡ limit
SettlesAs silences limit from to idle idle' dropped (Err reason) = IsUnsettledBy from to reason

-- All that came was dropped, until the line was silent for so many silences, or for a reason why it was not. What was dropped is what was
-- read, where the link tells that.
pub record Settles (silences limit : ℕ) (from to : Input) (idle idle' : ℕ) (result : Result ℕ Unsettled) : Type 0 where
  pub dropped : List ℕ
  pub source : Advances from to
  pub read : IsTrue from.told → bytes_read from to ≡ dropped
  pub within : length dropped ≤ limit
  pub ends : SettlesAs silences limit from to idle idle' dropped result
  pub later : idle ≤ idle'
