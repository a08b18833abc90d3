-- A run of reads and writes over an adapter that gives back what is sent (MODBUS over Serial Line V1.02, section 3.3.2).
use Rattle.std.specs.Prelude.{◌≡◌, ◌≢◌, ℕ, List, [], ◌∷◌, ◌++◌, length, IsTrue, Result}
use Rattle.std.specs.List.{flat_map}
use Rattle.modbus_link.specs.declared.outside.Failed.{Failed}
use Rattle.modbus_link.specs.declared.polled.Polled.{Polled}
use Rattle.modbus_link.specs.Outside.{Input, bytes_read, front_of}
use Rattle.modbus_link.specs.Polled.{at_once}
use Rattle.modbus_adapter.specs.Echo.{EchoedState, IsFull, ReadsBehindEcho, WritesWithEcho}

-- what a write took, or what a read dropped as echo and what it gave
pub data Step : Type 0 where
  wrote : List ℕ → Step
  heard : List ℕ → List ℕ → Step

abbrev pub written : Step → List ℕ
written (wrote taken) = taken
written (heard dropped given) = []

abbrev pub dropped : Step → List ℕ
dropped (wrote taken) = []
dropped (heard echo given) = echo

-- A write that could be expected back. It took this.
pub record Writes {L : Type 0} (old new : EchoedState L) (taken : List ℕ) : Type 0 where
  pub piece : List ℕ
  pub before : ℕ
  pub after : ℕ
  pub result : Result (Polled ℕ) Failed
  pub writes : WritesWithEcho old new piece before after result
  pub room : IsFull old → length piece ≡ 0
  pub took : taken ≡ front_of (at_once result) piece

-- A read at which no other bytes came in place of the echo. It dropped and gave this.
pub record Hears {L : Type 0} (input : L → Input) (old new : EchoedState L) (echo given : List ℕ) : Type 0 where
  pub room : List ℕ
  pub result : Result (Polled ℕ) Failed
  pub reads : ReadsBehindEcho input old new room result
  pub echo_is : echo ≡ reads.gives.dropped
  pub gave : given ≡ front_of (at_once result) room
  pub no_collision : new.collision ≡ []

abbrev pub Steps : {L : Type 0} → (L → Input) → EchoedState L → Step → EchoedState L → Type 0
Steps input old (wrote taken) new = Writes old new taken
Steps input old (heard echo given) new = Hears input old new echo given

-- a run of such steps
abbrev pub EchoRun : {L : Type 0} → (L → Input) → EchoedState L → List Step → EchoedState L → Type 0
EchoRun input start [] last = last ≡ start
EchoRun {L = L} input start (step ∷ steps) last = (next : EchoedState L) × Steps input start step next × EchoRun input next steps last

-- A run with the echo on, which began with none owed: what its reads dropped, and what is still owed, is what its writes took, in order.
abbrev pub DropsWhatWasWritten : {L : Type 0} → (L → Input) → Type 0
DropsWhatWasWritten {L} input =
    (start last : EchoedState L) (steps : List Step) → EchoRun input start steps last → IsTrue start.is_on → start.owed ≡ []
    → flat_map written steps ≡ flat_map dropped steps ++ last.owed

-- A read behind such a run gives what came behind the echo, and gives a byte only where all that was written had come back before it, and
-- was dropped.
abbrev pub GivesWhatIsLeft : {L : Type 0} → (L → Input) → Type 0
GivesWhatIsLeft {L} input =
    (start at last : EchoedState L) (steps : List Step) (echo given : List ℕ)
    → EchoRun input start steps at → IsTrue start.is_on → start.owed ≡ [] → Hears input at last echo given
    → (IsTrue (input at.link).told → bytes_read (input at.link) (input last.link) ≡ echo ++ given)
    × (given ≢ [] → flat_map written steps ≡ flat_map dropped steps ++ echo)
