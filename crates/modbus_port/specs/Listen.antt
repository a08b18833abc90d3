-- What a program that listens does.
use Rattle.std.specs.Prelude.{◌≡◌, ◌≢◌, ℕ, ◌-◌, List, Option, Some, None, Result, Ok, Err}
use Rattle.std.specs.declared.net.SocketAddr.{SocketAddr}
use Rattle.modbus_link.specs.declared.outside.Failed.{Failed}
use Rattle.modbus_link.specs.Outside.{Output, Rose}
use Rattle.modbus_server.specs.declared.error.ServeError.{ServeError}
use Rattle.modbus_server.specs.declared.error.ServeError.TheVariants.{AcceptFault, Connect, SpawnFault}
use Rattle.modbus_server.specs.Listener.{WorkerState, Parts, Listener, Counts, Serves, Accepts, Exact, Balances, unsignalled, unspawned, without_spawner}
use Rattle.modbus_server.specs.Signal.{never_set}
use Rattle.modbus_port.specs.Port.{Accepting}
use Rattle.modbus_port.specs.Reports.{Reports}

-- One call of the hook of a listener: a service was opened for the link, which is taken as it is; or there is none. It never rejects a
-- connection.
abbrev pub OpensFor : {C V K X : Type 0} → (C → Result V X → C → Type 0) → C → K → Result (Option (V × K)) X → C → Type 0
OpensFor opens old link (Ok (Some taken)) new = (taken.1 ≡ link) × opens old (Ok taken.0) new
OpensFor opens old link (Ok None) new = ⊥
OpensFor opens old link (Err refusal) new = opens old (Err refusal) new

-- the hook of a listener, by how it opens services
abbrev pub hook_with : {C V K X : Type 0} → (C → Result V X → C → Type 0) → C → K → SocketAddr → Result (Option (V × K)) X → C → Type 0
hook_with opens old link address answer new = OpensFor opens old link answer new

-- what takes part in listening: an acceptor, the hook, whose state is that of what opens the services, and a spawner of their workers
abbrev pub parts_with : {A C P K V X H : Type 0} → (C → Result V X → C → Type 0) → (A → Result (K × SocketAddr) Failed → A → Type 0)
    → (P → WorkerState K V H ℕ → Result (Unit {0}) Failed → P → Type 0) → Parts A C P K K V X H
parts_with opens accepts starts = record { accepts = accepts; connects = hook_with opens; starts = starts }

-- the hook refused a connection with this, and stands then so
abbrev pub Refuses : {A C P K V X H : Type 0} → Parts A C P K K V X H → X → C → Type 0
Refuses {C = C} {K = K} parts refusal new = (before : C) × (link : K) × (address : SocketAddr) × parts.connects before link address (Err refusal) new

-- Links were served until this error, as a listener promises that is never stopped (`listener`). Where the hook refused a connection, that was
-- its last call (`refused`). As it rejects none, each link that was given has a worker, or else the last one (`balance`).
pub record ServesLinks {A C P K V X H : Type 0} (parts : Parts A C P K K V X H) (counts : Counts A P) (on_error : H) (old new : Listener A C P) (error : ServeError X) : Type 0 where
  pub listener : Serves parts counts unsignalled on_error (old, tt) (new, tt) (Err error)
  pub refused : (refusal : X) → error ≡ Connect refusal → Refuses parts refusal new.hook
  pub balance : Exact (counts.given new.acceptor) → Exact (counts.started new.spawner)
      → Balances {T = Unit {0}} (Err error) (counts.given new.acceptor - counts.given old.acceptor) (counts.started new.spawner - counts.started old.spawner)

-- how a program tells that a listener does not go on: the status and the line
pub record Endings (X : Type 0) : Type 0 where
  pub status_of : ServeError X → ℕ
  pub line_of : ServeError X → List ℕ

-- A listener ended with this status, and told its line. All that is said speaks of one and the same error.
pub record Listened {A C P K V X H : Type 0} (parts : Parts A C P K K V X H) (counts : Counts A P) (by : Endings X) (on_error : H)
    (old new : Listener A C P) (tells : Output × Output) (status : ℕ) : Type 0 where
  pub error : ServeError X
  pub is : status ≡ by.status_of error
  pub serves : ServesLinks parts counts on_error old new error
  pub reports : Reports tells.0 tells.1 (by.line_of error)

-- such an acceptor and such a hook, with nothing said of what starts workers
abbrev pub parts_over : {A C K V X H : Type 0} → (C → Result V X → C → Type 0) → Accepting A K → Parts A C (Unit {0}) K K V X H
parts_over opens acceptor = unspawned acceptor.accepts (hook_with opens)

abbrev pub without : {A C : Type 0} → A × C → Listener A C (Unit {0})
without it = without_spawner it.0 it.1

-- The same, over a spawner that never fails and of which nothing is said: the acceptor and what opens services are told before and after.
pub record ListenedOver {A C K V X H : Type 0} (opens : C → Result V X → C → Type 0) (acceptor : Accepting A K) (by : Endings X) (on_error : H)
    (old new : A × C) (tells : Output × Output) (status : ℕ) : Type 0 where
  pub error : ServeError X
  pub is : status ≡ by.status_of error
  pub reports : Reports tells.0 tells.1 (by.line_of error)
  pub accepts : Accepts (parts_over {H = H} opens acceptor) never_set on_error (without old) tt (without new) tt (Err error)
  pub accept_fault : error ≡ AcceptFault → Rose (acceptor.faults old.0) (acceptor.faults new.0)
  pub spawns : error ≢ SpawnFault
  pub refused : (refusal : X) → error ≡ Connect refusal → Refuses (parts_over {H = H} opens acceptor) refusal new.1
