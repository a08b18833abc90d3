-- What links that tell silence keep, and what a read or a write of them does.
use Rattle.std.specs.Prelude.{◌≡◌, ◌↔◌, ℕ, ◌+◌, List, [], ◌∷◌, drop, Result, Ok, Err}
use Rattle.modbus_link.specs.declared.polled.Polled.{Polled}
use Rattle.modbus_link.specs.declared.polled.Polled.TheVariants.{Ready, Pending}
use Rattle.modbus_link.specs.Memory.{faults_after}
use Rattle.modbus_link.specs.Line.{LinkState}
use Rattle.modbus_link.specs.Polled.{at_once, waits_after, DoesUnlessPending, LinkReads, LinkWrites}
use Rattle.modbus_link.specs.Tcp.{TcpState}

-- a link in memory that tells silence
pub record TimedState : Type 0 where
  pub link : LinkState
  -- the totals of the input at which those silences lie that were not told yet
  pub silences : List ℕ
  -- how many were told
  pub told : ℕ

-- one that has told none
abbrev pub silent_at_start : LinkState → List ℕ → TimedState
silent_at_start link silences = record { link = link; silences = silences; told = 0 }

-- the next silence lies where the source stands
abbrev pub LiesAt : ℕ → List ℕ → Type 0
LiesAt given [] = ⊥
LiesAt given (total ∷ totals) = total ≡ given

abbrev pub IsSilentNow : TimedState → Type 0
IsSilentNow timed = LiesAt timed.link.source.given timed.silences

-- the silences that are left after a poll with this result, and how many were told: each is told once
abbrev pub silences_after : {E : Type 0} → Result (Polled ℕ) E → List ℕ → List ℕ
silences_after (Ok (Ready count)) silences = silences
silences_after (Ok Pending) silences = drop 1 silences
silences_after (Err error) silences = silences

abbrev pub told_after : {E : Type 0} → Result (Polled ℕ) E → ℕ → ℕ
told_after (Ok (Ready count)) told = told
told_after (Ok Pending) told = told + 1
told_after (Err error) told = told

-- One read of it: it tells silence exactly where one lies, and then the link is as it was; else it does what the link does.
pub record SilenceReads {E : Type 0} (room : ℕ) (old new : TimedState) (result : Result (Polled ℕ) E) : Type 0 where
  pub tells : (result ≡ Ok Pending) ↔ IsSilentNow old
  pub does : DoesUnlessPending (LinkReads room) result old.link new.link
  pub silences : new.silences ≡ silences_after result old.silences
  pub told : new.told ≡ told_after result old.told

-- the link was ready, or it failed
abbrev pub IsAtOnce : {T E : Type 0} → Result (Polled T) E → Type 0
IsAtOnce (Ok (Ready value)) = Unit {0}
IsAtOnce (Ok Pending) = ⊥
IsAtOnce (Err error) = Unit {0}

-- one write of it
pub record SilenceWrites {E : Type 0} (size : ℕ) (old new : TimedState) (result : Result (Polled ℕ) E) : Type 0 where
  pub does : LinkWrites size (at_once result) old.link new.link
  pub silences : new.silences ≡ old.silences
  pub told : new.told ≡ old.told

-- a link over a terminal
pub record TerminalState : Type 0 where
  -- how many of its reads failed, how many of its writes, and how many silences it told; they stay at the last number of a counter
  pub read_faults : ℕ
  pub write_faults : ℕ
  pub silences : ℕ

abbrev pub TerminalReads : {E : Type 0} → TerminalState → TerminalState → Result (Polled ℕ) E → Type 0
TerminalReads old new result =
    new ≡ record old { read_faults = faults_after result old.read_faults; silences = waits_after result old.silences }

abbrev pub TerminalWrites : {E : Type 0} → TerminalState → TerminalState → Result (Polled ℕ) E → Type 0
TerminalWrites old new result = new ≡ record old { write_faults = faults_after result old.write_faults }

-- a TCP link that tells silence
pub record TimedTcpState : Type 0 where
  pub link : TcpState
  -- how many silences it told; it stays at the last number of a counter
  pub silences : ℕ

abbrev pub TcpReads : {E : Type 0} → TimedTcpState → TimedTcpState → Result (Polled ℕ) E → Type 0
TcpReads old new result = new ≡ record {
  link = record old.link { read_faults = faults_after result old.link.read_faults };
  silences = waits_after result old.silences;
}

abbrev pub TcpWrites : {E : Type 0} → TimedTcpState → TimedTcpState → Result (Polled ℕ) E → Type 0
TcpWrites old new result = new ≡ record old { link = record old.link { write_faults = faults_after result old.link.write_faults } }
