-- What stands at the front of the bytes that a reader holds.
use Rattle.std.specs.Prelude.{◌≡◌, ℕ, ◌+◌, ◌<◌, ◌≤◌, List, [], ◌∷◌, ◌++◌, length, take, drop, slice_index, Result, Ok, Err}
use Rattle.modbus_pdu.specs.SlavePdu.{SlavePdu}
use Rattle.modbus_pdu.specs.Message.{message}
use Rattle.modbus_rtu.specs.declared.verdict.Verdict.{Verdict}
use Rattle.modbus_rtu.specs.declared.verdict.Verdict.TheVariants.{Open}
use Rattle.modbus_rtu.specs.declared.search.Next.TheVariants as next
use Rattle.modbus_frame.specs.declared.front.Front.{Front}
use Rattle.modbus_frame.specs.declared.front.Front.TheVariants as front
use Rattle.modbus_rtu.specs.declared.front.Crowd.{Crowd}
use Rattle.modbus_rtu.specs.Frame.{verdict, verdict_of}
use Rattle.modbus_rtu.specs.Next.{IsNextBy}
use Rattle.modbus_rtu.specs.Stands.{StandsFor, IsTakenNext, IsFirstCrowd, IsUsedUp}
use Rattle.modbus_rtu.specs.Limits.{overhead, max_frame, max_retries}

-- By what judges the bytes from an offset on: the next frame, which lies within the held bytes; or so many bad offsets before an open
-- one, with fewer bytes from there on than the longest frame has; or `max_retries` bad offsets.
abbrev pub FindsFrameBy : (List ℕ → Verdict) → ℕ → List ℕ → Result (Front ℕ) Crowd → Type 0
FindsFrameBy judge longest held (Ok (front.Message slave pdu end)) =
    (start : ℕ) × (n : ℕ) × IsNextBy judge held (next.Frame start n) × (slave ≡ slice_index held start) × (pdu.now ≡ take n (drop (start + 1) held)) × (end ≡ start + (n + overhead)) × (end ≤ length held)
FindsFrameBy judge longest held (Ok (front.Waiting dropped)) =
    IsNextBy judge held (next.Waiting dropped) × (dropped ≤ length held) × (length held < dropped + longest)
FindsFrameBy judge longest held (Err crowd) = IsNextBy judge held next.TooManyRetries × (max_retries ≤ length held)

-- the same for requests
abbrev pub FindsFrame : List ℕ → Result (Front ℕ) Crowd → Type 0
FindsFrame held result = FindsFrameBy verdict_of max_frame held result

-- what this says of the bytes that were given so far, and what the bytes behind it then stand for
abbrev pub FindsFrameIn : List ℕ → List ℕ → List SlavePdu → List ℕ → Result (Front ℕ) Crowd → Type 0
FindsFrameIn bytes cuts taken held (Ok (front.Message slave pdu end)) =
    StandsFor bytes cuts (drop end held) (taken ++ message slave pdu.now ∷ []) × IsTakenNext bytes cuts taken (message slave pdu.now)
FindsFrameIn bytes cuts taken held (Ok (front.Waiting dropped)) =
    StandsFor bytes cuts (drop dropped held) taken × IsUsedUp bytes cuts (drop dropped held) taken × (verdict (drop dropped held) 0 ≡ Open)
FindsFrameIn bytes cuts taken held (Err crowd) = (k : ℕ) × IsFirstCrowd bytes cuts taken k
