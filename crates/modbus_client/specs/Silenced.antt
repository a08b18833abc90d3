-- What a call does at a silence of its line: no more comes of what it holds (MODBUS over Serial Line V1.02, section 2.5.1.1).
use Rattle.std.specs.Prelude.{◌≡◌, ℕ, ◌-◌, List, [], Option, Some, None}
use Rattle.modbus_frame.specs.declared.fault.HeaderSeen.{HeaderSeen}
use Rattle.modbus_client.specs.Protocol.{Protocol, waiting}
use Rattle.modbus_client.specs.Matches.{Answer}
use Rattle.modbus_client.specs.Call.{CallState, CallStands, IsAnswered, IsOfBytesIfSome}

-- no reply stands in these bytes, read by what stands in the bytes before a silence
abbrev pub HasNoReply : {H : Type 0} → Protocol H → HeaderSeen → List ℕ → List ℕ → Type 0
HasNoReply S asked bytes cuts = (held : List ℕ) × S.Finds asked bytes cuts (waiting held)

-- how many reads it may make from then on
abbrev pub turns_after : CallState → Option Answer → ℕ
turns_after call None = call.turns - call.reads
turns_after call (Some answer) = call.turns

-- What it then stands for: where no reply stands before the silence, that is noise, and the search begins anew behind it; else it has its
-- answer.
abbrev pub SilencedAs : {H : Type 0} → Protocol H → Protocol H → List ℕ → List ℕ → List ℕ → CallState → CallState → Option Answer → Type 0
SilencedAs P S written bytes cuts old new None = HasNoReply S old.asked bytes cuts × CallStands P written [] [] new × (new.held ≡ [])
SilencedAs P S written bytes cuts old new (Some answer) = IsAnswered S old.asked old.function bytes cuts new.held answer

-- A call that waits is told a silence. `P` says how the reply stands in bytes that more may follow, `S` in those before a silence.
pub record CallSilenced {H : Type 0} (P S : Protocol H) (old new : CallState) (answer : Option Answer) : Type 0 where
  pub asked : new.asked ≡ old.asked
  pub function : new.function ≡ old.function
  pub request : new.request ≡ old.request
  pub unwritten : new.unwritten ≡ old.unwritten
  pub turns : new.turns ≡ turns_after old answer
  pub late : IsOfBytesIfSome answer
  pub stands : (written bytes cuts : List ℕ) → CallStands P written bytes cuts old → SilencedAs P S written bytes cuts old new answer
