-- What a client does before it sends: a look that finds nothing, a line that was settled, or a link that was given up.
use Rattle.std.specs.Prelude.{◌≡◌, ℕ, zero, suc, ◌+◌, ◌-◌, Bool, true, false, Result, Ok, Err}
use Rattle.modbus_link.specs.Line.{LinkMeaning}
use Rattle.modbus_link.specs.Room.{read_room}
use Rattle.modbus_reconnect.specs.declared.settling.Unsettled.{Unsettled}
use Rattle.modbus_reconnect.specs.Settles.{DropsNoise, Settles}
use Rattle.modbus_reconnect.specs.SettleState.{LineMeaning}

-- A line is settled, or is not, for so many silences: nothing is written, and all else of the link stays.
pub record SettlesLine {H I L : Type 0} (m : LineMeaning H I L) (silences limit : ℕ) (before after : L) (result : Result ℕ Unsettled) : Type 0 where
  pub settles : Settles silences limit (m.link.input before) (m.link.input after) (m.silences before) (m.silences after) result
  pub sink : m.link.output after ≡ m.link.output before
  pub line : m.link.line after ≡ m.link.line before

-- A link is looked at: what came is dropped, so many bytes, or nothing was there. Nothing is written, and all else of the link stays.
pub record LooksAtLink {L : Type 0} (M : LinkMeaning L) (looks : L → ℕ) (before after : L) (result : Result ℕ Unsettled) : Type 0 where
  pub drops : DropsNoise 1 read_room (M.input before) (M.input after) (looks before) (looks after) result
  pub sink : M.output after ≡ M.output before
  pub line : M.line after ≡ M.line before

-- the same of a line
abbrev pub LooksAt : {H I L : Type 0} → LineMeaning H I L → L → L → Result ℕ Unsettled → Type 0
LooksAt m before after result = LooksAtLink m.link m.looks before after result

-- what is told of bytes that were dropped in two steps
abbrev pub more_dropped : ℕ → Result ℕ Unsettled → Result ℕ Unsettled
more_dropped found (Ok more) = Ok (found + more)
more_dropped found (Err reason) = Err reason

-- After a look that found nothing the line is used as it is, and one that found something is settled.
abbrev pub ClearsAfter : {H I L : Type 0} → LineMeaning H I L → ℕ → ℕ → L → L → Result ℕ Unsettled → Result ℕ Unsettled → Type 0
ClearsAfter m silences limit seen after (Ok zero) result = (after ≡ seen) × (result ≡ Ok 0)
ClearsAfter m silences limit seen after (Ok (suc more)) result =
    (told : Result ℕ Unsettled) × SettlesLine m silences (limit - suc more) seen after told × (result ≡ more_dropped (suc more) told)
ClearsAfter m silences limit seen after (Err reason) result = (after ≡ seen) × (result ≡ Err reason)

-- Before a request is sent a line in doubt is settled, and any other is looked at. How many bytes were dropped, or why nothing may be sent.
abbrev pub ClearsLine : {H I L : Type 0} → LineMeaning H I L → ℕ → ℕ → Bool → L → L → Result ℕ Unsettled → Type 0
ClearsLine m silences limit true before after result = SettlesLine m silences limit before after result
ClearsLine {L = L} m silences limit false before after result =
    (seen : L) × (found : Result ℕ Unsettled) × LooksAt m before seen found × ClearsAfter m silences limit seen after found result
