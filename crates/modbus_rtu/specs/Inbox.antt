-- What one call of an inbox does.
use Rattle.std.specs.Prelude.{◌≡◌, ℕ, ◌+◌, List, [], ◌∷◌, ◌++◌, take, drop, slice_index, Option, Some, None, Result, Ok, Err}
use Rattle.modbus_pdu.specs.SlavePdu.{SlavePdu}
use Rattle.modbus_pdu.specs.Message.{message}
use Rattle.modbus_rtu.specs.declared.verdict.Verdict.TheVariants.{Open}
use Rattle.modbus_rtu.specs.declared.search.Next.TheVariants.{Frame, Waiting, TooManyRetries}
use Rattle.modbus_rtu.specs.declared.inbox.RtuFrame.{RtuFrame}
use Rattle.modbus_rtu.specs.declared.inbox.RtuError.{RtuError}
use Rattle.modbus_rtu.specs.declared.inbox.RtuError.TheVariants as errors
use Rattle.modbus_rtu.specs.Frame.{verdict}
use Rattle.modbus_rtu.specs.Next.{IsNext}
use Rattle.modbus_rtu.specs.Stands.{StandsFor, IsFirstCrowd, IsUsedUp}
use Rattle.modbus_rtu.specs.Limits.{overhead, max_retries}

-- the slave address and the PDU of a frame
abbrev pub slave_and_pdu : RtuFrame → SlavePdu
slave_and_pdu frame = message frame.slave frame.pdu.items

-- From the bytes held before, what is answered, and the bytes held after: a frame is taken off with all bytes before it; where the
-- search waits, the bad offsets before the open one are dropped; `max_retries` bad offsets are dropped too.
abbrev pub TakesFrame : List ℕ → Result (Option RtuFrame) RtuError → List ℕ → Type 0
TakesFrame old (Ok (Some frame)) new =
    (start : ℕ) × (n : ℕ) × IsNext old (Frame start n) × (slave_and_pdu frame ≡ message (slice_index old start) (take n (drop (start + 1) old))) × (new ≡ drop (start + (n + overhead)) old)
TakesFrame old (Ok None) new = (dropped : ℕ) × IsNext old (Waiting dropped) × (new ≡ drop dropped old)
TakesFrame old (Err errors.TooManyRetries) new = IsNext old TooManyRetries × (new ≡ drop max_retries old)
TakesFrame old (Err (errors.Invalid reason)) new = ⊥
TakesFrame old (Err errors.NoMemory) new = ⊥

-- what the answer says of the bytes that were given so far, and what the inbox then stands for
abbrev pub StandsAfter : List ℕ → List ℕ → List SlavePdu → Result (Option RtuFrame) RtuError → List ℕ → Type 0
StandsAfter bytes cuts taken (Ok (Some frame)) held = StandsFor bytes cuts held (taken ++ slave_and_pdu frame ∷ [])
StandsAfter bytes cuts taken (Ok None) held = StandsFor bytes cuts held taken × (verdict held 0 ≡ Open) × IsUsedUp bytes cuts held taken
StandsAfter bytes cuts taken (Err errors.TooManyRetries) held = (k : ℕ) × IsFirstCrowd bytes cuts taken k
StandsAfter bytes cuts taken (Err (errors.Invalid reason)) held = ⊥
StandsAfter bytes cuts taken (Err errors.NoMemory) held = ⊥
