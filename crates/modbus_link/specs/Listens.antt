-- What acceptors and spawners count, and what those in memory keep.
use Rattle.std.specs.Prelude.{◌≡◌, ◌↔◌, ℕ, Bool, IsTrue, List, [], ◌∷◌, Result, Ok, Err}
use Rattle.std.specs.declared.net.SocketAddr.{SocketAddr}
use Rattle.modbus_link.specs.declared.outside.Failed.{Failed}
use Rattle.modbus_link.specs.Memory.{next_count, faults_after}

-- the count of what succeeded after a call with this result: one that succeeds raises it by one
abbrev pub given_after : {T E : Type 0} → Result T E → ℕ → ℕ
given_after (Ok _) given = next_count given
given_after (Err _) given = given

-- how often an object of the outside succeeded, and how often it failed; both stay at the last number of a counter
pub record Tally : Type 0 where
  pub given : ℕ
  pub faults : ℕ

-- an object that was not called yet
abbrev pub tally_at_start : Tally
tally_at_start = record { given = 0; faults = 0 }

-- after a call with this result
abbrev pub tally_after : {T E : Type 0} → Result T E → Tally → Tally
tally_after result tally = record { given = given_after result tally.given; faults = faults_after result tally.faults }

-- an acceptor in memory of links of this type
pub record AcceptorState (L : Type 0) : Type 0 where
  -- the links that it will give, with their addresses
  pub links : List (L × SocketAddr)
  pub tally : Tally

-- It gives the links in order, and fails exactly where none is left.
abbrev pub AcceptsInOrder : {L : Type 0} → AcceptorState L → Result (L × SocketAddr) Failed → AcceptorState L → Type 0
AcceptsInOrder old (Ok link) new = (old.links ≡ link ∷ new.links) × (new.tally ≡ tally_after {E = Failed} (Ok link) old.tally)
AcceptsInOrder {L} old (Err failed) new = (old.links ≡ []) × (new ≡ record old { tally = tally_after {T = L} (Err failed) old.tally })

-- a spawner that starts workers by a closure
pub record SpawnerState (F : Type 0) : Type 0 where
  pub begin : F
  pub tally : Tally

-- It calls its closure once, with the worker, and succeeds exactly where the closure answers true.
abbrev pub StartsBy : {F W : Type 0} → (F → W → Bool → F → Type 0) → SpawnerState F → W → Result (Unit {0}) Failed → SpawnerState F → Type 0
StartsBy step old worker result new =
    (answer : Bool) × step old.begin worker answer new.begin × (IsTrue answer ↔ (result ≡ Ok tt)) × (new.tally ≡ tally_after result old.tally)
