-- A port admits the peers alone that are served.
use Rattle.std.proofs.Common.{◌≡◌, ◌∙◌, ℕ, zero, suc, true, refl, ap, subst, inl, inr, ◌⊎◌}
use Rattle.modbus_link.specs.Listens.{Tally}
use Rattle.modbus_link.specs.Tcp.{TcpState}
use Rattle.modbus_port.specs.Patient.{Pair, Patience, AcceptsNone, GoesOnFor}
use Rattle.modbus_peers.specs.Peers.{PeersState, is_served}
use Rattle.modbus_port.specs.Port.{AdmitsServed, GivesServed}
use Rattle.modbus_port.specs.Watches.{AcceptsWatched}

abbrev watching : Patience Tally PeersState TcpState
watching = record { accepts = AcceptsWatched; admits = AdmitsServed; waits = λ old new. new ≡ old }

stays_once : (retries : ℕ) (old : Pair Tally PeersState) (left : ℕ) (new : Pair Tally PeersState) (now : ℕ)
    → AcceptsNone watching retries old left new now → new.keeper ≡ old.keeper
stays_once retries old left new now (inl (accepted, accepts, admits, again)) = admits.stays
stays_once retries old left new now (inr (failed, accepts, waits, fewer)) = waits

stays : (retries count : ℕ) (old new : Pair Tally PeersState) (now : ℕ) → GoesOnFor watching retries count old new now → new.keeper ≡ old.keeper
stays retries zero old new now (same, left) = ap (λ (it : Pair Tally PeersState). it.keeper) same
stays retries (suc count) old new now (last, left, goes, none) = stays_once retries last left new now none ∙ stays retries count old last left goes

pub gives_served : GivesServed
gives_served old new link peer ((count, last, left, goes, accepts, admits), retries, tally) =
    let same = stays old.retries count old.pair last left goes in
    (subst (λ (peers : PeersState). is_served peers peer ≡ true) same (admits.served refl), admits.stays ∙ same)
