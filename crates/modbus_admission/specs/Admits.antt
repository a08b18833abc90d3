-- What an acceptor does that turns away the peers that may not come.
use Rattle.std.specs.Prelude.{◌≡◌, ◌⊎◌, ℕ, zero, suc, true, false, Result, Ok, Err}
use Rattle.modbus_link.specs.declared.outside.Failed.{Failed}
use Rattle.modbus_link.specs.declared.polled.Polled.{Polled}
use Rattle.modbus_link.specs.declared.polled.Polled.TheVariants.{Ready, Pending}
use Rattle.modbus_link.specs.Listens.{Tally}
use Rattle.modbus_peers.specs.Peers.{PeersState, may_come_by}
use Rattle.modbus_ready.specs.Accepts.{tally_by}
use Rattle.modbus_ready.specs.declared.peered.PeerAddress.{PeerAddress}

-- what a poll of an acceptor leads to
abbrev pub Accepting : Type 0 → Type 0 → Type 1
Accepting A L = A → Result (Polled L) Failed → A → Type 0

-- so many polls, one after another, each of which gave the link of a peer that may not come, and which was dropped
abbrev pub TurnsAway : {A L : Type 0} → Accepting A L → (L → PeerAddress) → PeersState → ℕ → A → A → Type 0
TurnsAway accepts peer peers zero old new = new ≡ old
TurnsAway {A} {L} accepts peer peers (suc count) old new = (last : A) × (link : L) × TurnsAway accepts peer peers count old last
    × accepts last (Ok (Ready link)) new × (may_come_by peers (peer link).bits ≡ false)

-- The link that is given after these is that of a peer which may come. None waits where the acceptor says so. It fails where the acceptor
-- fails, or 64 were turned away.
abbrev pub EndsWith : {A L : Type 0} → Accepting A L → (L → PeerAddress) → PeersState → ℕ → A → Result (Polled L) Failed → A → Type 0
EndsWith accepts peer peers count last (Ok (Ready link)) new = accepts last (Ok (Ready link)) new × (may_come_by peers (peer link).bits ≡ true)
EndsWith accepts peer peers count last (Ok Pending) new = accepts last (Ok Pending) new
EndsWith accepts peer peers count last (Err failed) new = accepts last (Err failed) new ⊎ ((count ≡ 64) × (new ≡ last))

abbrev pub PollsFor : {A L : Type 0} → Accepting A L → (L → PeerAddress) → PeersState → A → Result (Polled L) Failed → A → Type 0
PollsFor {A} accepts peer peers old result new = (count : ℕ) × (last : A) × TurnsAway accepts peer peers count old last
    × EndsWith accepts peer peers count last result new

-- such an acceptor: the one below, which peers may come, and what it counts
pub record AdmittingState (A : Type 0) : Type 0 where
  pub acceptor : A
  pub peers : PeersState
  pub tally : Tally

-- what its poll leads to
abbrev pub Admits : {A L : Type 0} → Accepting A L → (L → PeerAddress) → Accepting (AdmittingState A) L
Admits accepts peer old result new = PollsFor accepts peer old.peers old.acceptor result new.acceptor × (new.peers ≡ old.peers)
    × (new.tally ≡ tally_by result old.tally)

-- each link that it gives is that of a peer which may come, however many polls went before, and which peers may come stays
abbrev pub GivesAdmitted : {A L : Type 0} → Accepting A L → (L → PeerAddress) → Type 0
GivesAdmitted {A} {L} accepts peer = (old new : AdmittingState A) (link : L) → Admits accepts peer old (Ok (Ready link)) new
    → (may_come_by old.peers (peer link).bits ≡ true) × (new.peers ≡ old.peers)
