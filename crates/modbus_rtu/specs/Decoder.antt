-- What the decoders take out of a buffer, and what then stands in it and in the record of dropped bytes.
use Rattle.std.specs.Prelude.{◌≡◌, ◌≢◌, ℕ, ◌+◌, ◌*◌, ◌<◌, ◌≤◌, if◌then◌else◌, nat_lt, List, [], ◌∷◌, ◌++◌, fold, length, take, drop, slice_index, Option, Some, None, Result, Ok, Err, IsOkAnd}
use Rattle.modbus_pdu.specs.SlavePdu.{SlavePdu}
use Rattle.modbus_pdu.specs.Message.{message}
use Rattle.modbus_frame.specs.declared.fault.Reason.{Reason}
use Rattle.modbus_frame.specs.declared.fault.PduError.{PduError}
use Rattle.modbus_frame.specs.declared.fault.PduError.TheVariants as pdu_errors
use Rattle.modbus_rtu.specs.declared.decoder.FrameFault.{FrameFault}
use Rattle.modbus_rtu.specs.declared.decoder.FrameFault.TheVariants as fault
use Rattle.modbus_rtu.specs.declared.verdict.Verdict.{Verdict}
use Rattle.modbus_rtu.specs.declared.search.Next.TheVariants.{Frame, Waiting, TooManyRetries}
use Rattle.modbus_rtu.specs.declared.inbox.RtuError.{RtuError}
use Rattle.modbus_rtu.specs.declared.inbox.RtuError.TheVariants as errors
use Rattle.modbus_rtu.specs.Checksum.{crc}
use Rattle.modbus_rtu.specs.Next.{IsNextBy}
use Rattle.modbus_rtu.specs.Limits.{overhead, max_retries, max_dropped}

-- The record after a byte is dropped. It has at most `max_dropped` bytes: a full one is emptied first.
abbrev pub with_dropped : List ℕ → ℕ → List ℕ
with_dropped dropped byte = if nat_lt (length dropped) max_dropped then dropped ++ byte ∷ [] else byte ∷ []

-- the record after these bytes are dropped one after another
abbrev pub with_all_dropped : List ℕ → List ℕ → List ℕ
with_all_dropped dropped bytes = fold with_dropped dropped bytes

-- Bytes that begin with a frame whose PDU has n bytes: its slave address and its PDU, the checksum of these, and the checksum that
-- stands in the frame, the low byte first (MODBUS over Serial Line V1.02, section 2.5.1).
abbrev pub frame_with : ℕ → List ℕ → SlavePdu
frame_with n bytes = message (slice_index bytes 0) (take n (drop 1 bytes))

abbrev pub sum_made : ℕ → List ℕ → ℕ
sum_made n bytes = crc (take (n + 1) bytes)

abbrev pub sum_sent : ℕ → List ℕ → ℕ
sum_sent n bytes = slice_index bytes (n + 1) + 256 * slice_index bytes (n + 2)

-- From the buffer and the record before, what a decoder answers that is told the length n of the PDU, and the buffer and the record
-- after. A frame that is there with a right checksum is given; it leaves the buffer, and the record is emptied. Else nothing
-- changes: where the frame isn't whole, where its checksum is wrong, and where memory is wanting for it.
abbrev pub DecodesFrame : ℕ → List ℕ → List ℕ → Result (Option (ℕ × List ℕ)) FrameFault → List ℕ → List ℕ → Type 0
DecodesFrame n old before (Ok (Some frame)) new after =
    (n + overhead ≤ length old) × (sum_made n old ≡ sum_sent n old) × (message frame.0 frame.1 ≡ frame_with n old) × (new ≡ drop (n + overhead) old) × (after ≡ [])
DecodesFrame n old before (Ok None) new after = (length old < n + overhead) × (new ≡ old) × (after ≡ before)
DecodesFrame n old before (Err (fault.Crc mismatch)) new after =
    (n + overhead ≤ length old) × (sum_made n old ≢ sum_sent n old) × (mismatch.expected ≡ sum_sent n old) × (mismatch.actual ≡ sum_made n old) × (new ≡ old) × (after ≡ before)
DecodesFrame n old before (Err fault.NoMemory) new after =
    (n + overhead ≤ length old) × (sum_made n old ≡ sum_sent n old) × (new ≡ old) × (after ≡ before)

-- The same of a decoder that looks for the next frame, by what judges the bytes from an offset on. The frame is given with all
-- bytes before it; where the search waits, the bad offsets before the open one are dropped; `max_retries` bad offsets are dropped
-- too. Where memory is wanting for a frame, the bad offsets before it are dropped, and it stays.
abbrev pub DecodesBy : (List ℕ → Verdict) → List ℕ → List ℕ → Result (Option (ℕ × List ℕ)) RtuError → List ℕ → List ℕ → Type 0
DecodesBy judge old before (Ok (Some frame)) new after =
    (start : ℕ) × (n : ℕ) × IsNextBy judge old (Frame start n) × (message frame.0 frame.1 ≡ message (slice_index old start) (take n (drop (start + 1) old))) × (new ≡ drop (start + (n + overhead)) old) × (after ≡ [])
DecodesBy judge old before (Ok None) new after =
    (bad : ℕ) × IsNextBy judge old (Waiting bad) × (new ≡ drop bad old) × (after ≡ with_all_dropped before (take bad old))
DecodesBy judge old before (Err errors.TooManyRetries) new after =
    IsNextBy judge old TooManyRetries × (new ≡ drop max_retries old) × (after ≡ with_all_dropped before (take max_retries old))
DecodesBy judge old before (Err (errors.Invalid reason)) new after = ⊥
DecodesBy judge old before (Err errors.NoMemory) new after =
    (start : ℕ) × (n : ℕ) × IsNextBy judge old (Frame start n) × (new ≡ drop start old) × (after ≡ with_all_dropped before (take start old))

-- why a codec gives no message, of a frame whose PDU is not read
abbrev pub error_of : PduError → RtuError
error_of (pdu_errors.Refused reason) = errors.Invalid reason
error_of pdu_errors.NoMemory = errors.NoMemory

-- The same of a codec, which reads the PDU of the next frame where it lies: `slave` and `meaning` are what its answer tells of the
-- frame. Where the PDU is refused the frame is gone. Memory is wanting only for a PDU that stands for something that carries memory;
-- nothing is gone then.
abbrev pub ReadsBy : {A M : Type 0} → (List ℕ → Verdict) → (List ℕ → Result M Reason) → (M → Type 0) → (A → ℕ) → (A → M) → List ℕ → Result (Option A) RtuError → List ℕ → Type 0
ReadsBy judge read carries slave meaning old (Ok (Some adu)) new =
    (start : ℕ) × (n : ℕ) × IsNextBy judge old (Frame start n) × (slave adu ≡ slice_index old start) × (read (take n (drop (start + 1) old)) ≡ Ok (meaning adu)) × (new ≡ drop (start + (n + overhead)) old)
ReadsBy judge read carries slave meaning old (Ok None) new =
    (bad : ℕ) × IsNextBy judge old (Waiting bad) × (new ≡ drop bad old)
ReadsBy judge read carries slave meaning old (Err errors.TooManyRetries) new =
    IsNextBy judge old TooManyRetries × (new ≡ drop max_retries old)
ReadsBy judge read carries slave meaning old (Err (errors.Invalid reason)) new =
    (start : ℕ) × (n : ℕ) × IsNextBy judge old (Frame start n) × (read (take n (drop (start + 1) old)) ≡ Err reason) × (new ≡ drop (start + (n + overhead)) old)
ReadsBy judge read carries slave meaning old (Err errors.NoMemory) new =
    (start : ℕ) × (n : ℕ) × IsNextBy judge old (Frame start n) × IsOkAnd (read (take n (drop (start + 1) old))) carries × (new ≡ old)
