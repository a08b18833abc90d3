-- What an acceptor does that goes on after faults, and turns away the peers that are not admitted.
use Rattle.std.specs.Prelude.{◌≡◌, ◌⊎◌, ℕ, zero, suc, ◌+◌, ◌-◌, ◌^◌, Bool, true, false, Result, Ok, Err}
use Rattle.std.specs.declared.net.SocketAddr.{SocketAddr}
use Rattle.modbus_link.specs.declared.outside.Failed.{Failed}
use Rattle.modbus_link.specs.Listens.{Tally, tally_after}

-- an acceptor and what keeps it going, at one time
pub record Pair (A G : Type 0) : Type 0 where
  pub acceptor : A
  pub keeper : G

-- what an accept, a question whether a peer is admitted and a wait may lead to
pub record Patience (A G K : Type 0) : Type 1 where
  pub accepts : A → Result (K × SocketAddr) Failed → A → Type 0
  pub admits : G → SocketAddr → Bool → G → Type 0
  pub waits : G → G → Type 0

-- one accept that gives the caller nothing: its peer was turned away, and all retries are left again; or it failed
-- and was followed by a wait, and one retry fewer is left
abbrev pub AcceptsNone : {A G K : Type 0} → Patience A G K → ℕ → Pair A G → ℕ → Pair A G → ℕ → Type 0
AcceptsNone {K = K} by retries old left new now =
    ((accepted : K × SocketAddr) × by.accepts old.acceptor (Ok accepted) new.acceptor × by.admits old.keeper accepted.1 false new.keeper × (now ≡ retries))
    ⊎ ((failed : Failed) × by.accepts old.acceptor (Err failed) new.acceptor × by.waits old.keeper new.keeper × (left ≡ now + 1))

-- so many of these, one after another, and how many retries are left then
abbrev pub GoesOnFor : {A G K : Type 0} → Patience A G K → ℕ → ℕ → Pair A G → Pair A G → ℕ → Type 0
GoesOnFor by retries zero old new now = (new ≡ old) × (now ≡ retries)
GoesOnFor {A} {G} by retries (suc count) old new now = (last : Pair A G) × (left : ℕ) × GoesOnFor by retries count old last left × AcceptsNone by retries last left new now

-- A link is given whose peer was admitted. A fault is told once it came again after as many waits as there are retries, with no link
-- between, or after as many accepts as a counter of 64 bits counts.
abbrev pub AcceptsPatiently : {A G K : Type 0} → Patience A G K → ℕ → Pair A G → Result (K × SocketAddr) Failed → Pair A G → Type 0
AcceptsPatiently {A} {G} by retries old (Ok accepted) new = (count : ℕ) × (last : Pair A G) × (left : ℕ) × GoesOnFor by retries count old last left
    × by.accepts last.acceptor (Ok accepted) new.acceptor × by.admits last.keeper accepted.1 true new.keeper
AcceptsPatiently {A} {G} by retries old (Err failed) new = (count : ℕ) × (last : Pair A G) × (left : ℕ) × GoesOnFor by retries count old last left
    × (((left ≡ 0) × by.accepts last.acceptor (Err failed) new.acceptor × (new.keeper ≡ last.keeper)) ⊎ ((count ≡ 2 ^ 64 - 1) × (new ≡ last)))

-- such an acceptor: the pair, how many retries it has, and what it counts
pub record PatientState (A G : Type 0) : Type 0 where
  pub pair : Pair A G
  pub retries : ℕ
  pub tally : Tally

-- what its accept leads to
abbrev pub IsPatient : {A G K : Type 0} → Patience A G K → PatientState A G → Result (K × SocketAddr) Failed → PatientState A G → Type 0
IsPatient by old result new = AcceptsPatiently by old.retries old.pair result new.pair × (new.retries ≡ old.retries) × (new.tally ≡ tally_after result old.tally)
