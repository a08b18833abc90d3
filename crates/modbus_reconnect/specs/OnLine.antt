-- What each call of a client of a line does: nothing is owed on the line that it is made on.
use Rattle.std.specs.Prelude.{◌≡◌, ℕ, ◌<◌, Bool, true, false, not, if◌then◌else◌, List, Option, None, Some, Result, Ok, Err, IsTrue}
use Rattle.std.specs.declared.time.Duration.{Duration}
use Rattle.modbus_frame.specs.Meaning.{Asked}
use Rattle.modbus_frame.specs.declared.fault.Error.TheVariants.{Transport}
use Rattle.modbus_frame.specs.declared.fault.TransportError.TheVariants.{NotConnected}
use Rattle.modbus_client.specs.Matches.{Answer}
use Rattle.modbus_client.specs.Raw.{raw_result_of}
use Rattle.modbus_reconnect.specs.declared.settling.Unsettled.{Unsettled}
use Rattle.modbus_reconnect.specs.Owes.{leaves_nothing}
use Rattle.modbus_reconnect.specs.Replies.{fitted}
use Rattle.modbus_reconnect.specs.Looks.{SettlesLine, LooksAt, ClearsLine}
use Rattle.modbus_reconnect.specs.Silences.{silences_for}
use Rattle.modbus_reconnect.specs.SettleState.{SettlingState, LineMeaning}
use Rattle.modbus_reconnect.specs.Waits.{LineQuestion, question_of, EndsWait}

-- the same line, where the PDU of a reply is given as it came
abbrev pub read_raw : {H I L : Type 0} → LineMeaning H I L → LineMeaning H I L
read_raw m = record m {
  protocol = record m.protocol { means = raw_result_of };
  silent = record m.silent { means = raw_result_of };
}

-- a line with which nothing was done: what its parts mean stays
pub record IsSameLine {H I L : Type 0} (m : LineMeaning H I L) (before line : L) : Type 0 where
  pub source : m.link.input line ≡ m.link.input before
  pub sink : m.link.output line ≡ m.link.output before
  pub state : m.link.line line ≡ m.link.line before
  pub silences : m.silences line ≡ m.silences before
  pub looks : m.looks line ≡ m.looks before

-- Nothing is owed on a line: it was settled, and each call since was answered by its own reply, with no byte left over, or sent nothing, and
-- each look since found nothing. It may have been told that a call begins.
pub data OwesNothing {H I L : Type 0} (m : LineMeaning H I L) : L → Type 0 where
  settled : (before line : L) (silences limit dropped : ℕ)
      → 0 < silences → SettlesLine m silences limit before line (Ok dropped) → OwesNothing m line
  looked : (before line : L) → OwesNothing m before → LooksAt m before line (Ok 0) → OwesNothing m line
  begun : (before line : L) → OwesNothing m before → IsSameLine m before line → OwesNothing m line
  called : (before line : L) (q : LineQuestion H) (held : List ℕ) (answer : Answer)
      → OwesNothing m before → EndsWait m q before line held answer → IsTrue (leaves_nothing q.asked answer held) → OwesNothing m line
  called_raw : (before line : L) (q : LineQuestion H) (held : List ℕ) (answer : Answer)
      → OwesNothing m before → EndsWait (read_raw m) q before line held answer → IsTrue (leaves_nothing q.asked answer held) → OwesNothing m line

-- the time that was told, or else another one
abbrev pub time_or : Option Duration → Duration → Duration
time_or None other = other
time_or (Some time) other = time

-- For how long the line of a client has to be silent before it is used: after a request that no slave replies to for the turnaround delay
-- (MODBUS over Serial Line V1.02, section 2.4.1), and else for the whole quiet time.
abbrev pub quiet_time : {I L : Type 0} → SettlingState I L → Duration
quiet_time client = if client.is_turning then time_or client.settings.turnaround client.settings.quiet else client.settings.quiet

-- how many silences settle the line of a client, and for how many it waits for a reply
abbrev pub quiet_silences : {I L : Type 0} → SettlingState I L → ℕ
quiet_silences client = silences_for (Some (quiet_time client)) client.settings.silence

abbrev pub reply_silences : {I L : Type 0} → SettlingState I L → ℕ
reply_silences client = silences_for client.settings.timeout client.settings.silence

-- the line of a client is cleared
abbrev pub Clears : {H I L : Type 0} → LineMeaning H I L → SettlingState I L → L → Result ℕ Unsettled → Type 0
Clears m old line result = ClearsLine m (quiet_silences old) old.settings.limit old.in_doubt old.link line result

-- the line was not cleared, for this reason
abbrev pub IsNotCleared : {H I L : Type 0} → LineMeaning H I L → SettlingState I L → L → Option Unsettled → Type 0
IsNotCleared m old line None = ⊥
IsNotCleared m old line (Some reason) = Clears m old line (Err reason)

-- The line was cleared, and what was dropped for it is counted; or it was not, and is in doubt.
abbrev pub ClearsIf : {H I L : Type 0} → Bool → LineMeaning H I L → SettlingState I L → SettlingState I L → Type 0
ClearsIf true m old new = Clears m old new.link (Ok new.dropped) × (new ≡ record old { link = new.link; in_doubt = false; is_turning = false; unsettled = None; dropped = new.dropped })
ClearsIf false m old new = IsNotCleared m old new.link new.unsettled × (new ≡ record old { link = new.link; in_doubt = true; is_turning = false; unsettled = new.unsettled; dropped = 0 })

-- what a client asks, under the header that comes next, with so many reads that may give bytes
abbrev pub next_question : {H I L : Type 0} → LineMeaning H I L → SettlingState I L → Asked → ℕ → LineQuestion H
next_question m client asked turns =
    question_of (m.heading.header client.ids client.settings.slave) asked turns (reply_silences client)

-- A request is sent, and its reply waited for. After that the line is in doubt, unless what was found leaves nothing owed. A response that
-- can't be the reply is told as that.
pub record AsksOn {H I L : Type 0} (m : LineMeaning H I L) (old : SettlingState I L) (asked : Asked) (turns : ℕ) (answer : Answer) (new : SettlingState I L) : Type 0 where
  -- the bytes that the call read and did not use
  pub held : List ℕ
  pub found : Answer
  pub ends : EndsWait m (next_question m old asked turns) old.link new.link held found
  pub told : answer ≡ fitted asked found
  pub line : m.link.line new.link ≡ m.link.line old.link
  pub rest : new ≡ record old { link = new.link; in_doubt = not (leaves_nothing asked found held); is_turning = false; ids = m.heading.next old.ids }

-- nothing is owed on the line of a client that is not in doubt
abbrev pub IsStanding : {H I L : Type 0} → LineMeaning H I L → SettlingState I L → Type 0
IsStanding m client = client.in_doubt ≡ false → OwesNothing m client.link

-- One call of a client of a line, whose reply is read as `n` says.
pub data CallsOnLine {H I L : Type 0} (m n : LineMeaning H I L) (old : SettlingState I L) (asked : Asked) (answer : Answer) (new : SettlingState I L) : Type 0 where
  -- a disconnected client does nothing
  unconnected : old.is_connected ≡ false → answer ≡ Err (Transport NotConnected) → new ≡ old → CallsOnLine m n old asked answer new
  -- on a line that does not settle nothing is sent
  unsettled : IsTrue old.is_connected → answer ≡ Err (Transport NotConnected) → ClearsIf false m old new → CallsOnLine m n old asked answer new
  -- the line was settled, or a look found nothing, right before the request; and nothing is owed on it
  asks : IsTrue old.is_connected → (clear : SettlingState I L) → ClearsIf true m old clear → (IsStanding m old → OwesNothing m clear.link)
      → AsksOn n clear asked clear.settings.turns answer new → CallsOnLine m n old asked answer new

-- The same, and what stands before a call stands after it. It stands of a new client, which is in doubt, and no setting changes it; so it
-- stands before and after each call.
pub record CallsReading {H I L : Type 0} (m n : LineMeaning H I L) (old : SettlingState I L) (asked : Asked) (answer : Answer) (new : SettlingState I L) : Type 0 where
  pub calls : CallsOnLine m n old asked answer new
  pub stands : IsStanding m old → IsStanding m new

-- a call whose reply is read as a response; and one whose reply is given as it came
abbrev pub CallsStanding : {H I L : Type 0} → LineMeaning H I L → SettlingState I L → Asked → Answer → SettlingState I L → Type 0
CallsStanding m = CallsReading m m

abbrev pub CallsRaw : {H I L : Type 0} → LineMeaning H I L → SettlingState I L → Asked → Answer → SettlingState I L → Type 0
CallsRaw m = CallsReading m (read_raw m)

-- A call, or a request that is only sent, by a client whose line is told first that it begins. What stands before it stands after it.
pub record BeginsCall {A : Type 0} {H I L : Type 0} (m : LineMeaning H I L) (begins : L → L → Type 0) (Does : SettlingState I L → Asked → A → SettlingState I L → Type 0)
    (old : SettlingState I L) (asked : Asked) (answer : A) (new : SettlingState I L) : Type 0 where
  pub begun : SettlingState I L
  pub begins_line : begins old.link begun.link
  pub rest : begun ≡ record old { link = begun.link }
  pub does : Does begun asked answer new
  pub stands : IsStanding m old → IsStanding m new
