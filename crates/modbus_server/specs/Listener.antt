-- What a listener does with the links that it is given.
use Rattle.std.specs.Prelude.{◌≡◌, ◌≢◌, ◌⊎◌, ℕ, zero, suc, ◌+◌, ◌-◌, ◌^◌, ◌<◌, ◌≤◌, Bool, true, false, Option, Some, None, Result, Ok, Err}
use Rattle.std.specs.declared.net.SocketAddr.{SocketAddr}
use Rattle.modbus_frame.specs.declared.server.Terminated.{Terminated}
use Rattle.modbus_frame.specs.declared.server.Terminated.TheVariants.{Finished, Aborted}
use Rattle.modbus_link.specs.declared.outside.Failed.{Failed}
use Rattle.modbus_link.specs.Outside.{Rose}
use Rattle.modbus_server.specs.declared.error.ProcessError.{ProcessError}
use Rattle.modbus_server.specs.declared.error.ServeError.{ServeError}
use Rattle.modbus_server.specs.declared.error.ServeError.TheVariants.{AcceptFault, Connect, SpawnFault, NoMemory}
use Rattle.modbus_server.specs.Signal.{never_set}

-- what a worker of one connection has
pub record WorkerState (Link Service OnError Watch : Type 0) : Type 0 where
  pub link : Link
  pub service : Service
  pub on_process_error : OnError
  pub signal : Watch

-- by what a hook may answer: it was called with the error of a call, where there is one
abbrev pub IsTold : (ProcessError → Unit {0} → Type 0) → Result Terminated ProcessError → Type 0
IsTold answers (Ok terminated) = Unit {0}
IsTold answers (Err error) = answers error tt

-- Of what the work of a worker may come to, and of what its hook may answer: the work came to this, once, and its own error was told.
abbrev pub WorksOnce : {Worker : Type 0} → (Worker → Result Terminated ProcessError → Type 0) → (ProcessError → Unit {0} → Type 0) → Type 0
WorksOnce {Worker} works answers = (after : Worker) × (result : Result Terminated ProcessError) × works after result × IsTold answers result

-- What takes part in an accept loop, each by the relation that it states: an acceptor of links, a hook that makes of each a
-- link and a service or rejects it, and a spawner of workers. The signal of a worker counts its stops.
pub record Parts (Acceptor Hook Spawner Accepted Link Service Error OnError : Type 0) : Type 1 where
  pub accepts : Acceptor → Result (Accepted × SocketAddr) Failed → Acceptor → Type 0
  pub connects : Hook → Accepted → SocketAddr → Result (Option (Service × Link)) Error → Hook → Type 0
  pub starts : Spawner → WorkerState Link Service OnError ℕ → Result (Unit {0}) Failed → Spawner → Type 0

-- the acceptor, the hook and the spawner, as they are at one time
pub record Listener (Acceptor Hook Spawner : Type 0) : Type 0 where
  pub acceptor : Acceptor
  pub hook : Hook
  pub spawner : Spawner

-- the worker of a connection that the hook took, with a signal that has said nothing yet
abbrev pub worker_of : {Link Service OnError : Type 0} → Service × Link → OnError → WorkerState Link Service OnError ℕ
worker_of taken on_process_error = record { link = taken.1; service = taken.0; on_process_error = on_process_error; signal = 0 }

-- the acceptor gave a link, and the hook was called once, with this link and its address, and answered so
pub record ConnectsByHook {Acceptor Hook Spawner Accepted Link Service Error OnError : Type 0}
    (parts : Parts Acceptor Hook Spawner Accepted Link Service Error OnError) (old new : Listener Acceptor Hook Spawner)
    (answer : Result (Option (Service × Link)) Error) : Type 0 where
  pub link : Accepted
  pub address : SocketAddr
  pub accepted : parts.accepts old.acceptor (Ok (link, address)) new.acceptor
  pub answered : parts.connects old.hook link address answer new.hook

-- a worker was started for a connection that the hook took, and none for one that it rejected
abbrev pub StartedFor : {Acceptor Hook Spawner Accepted Link Service Error OnError : Type 0}
    → Parts Acceptor Hook Spawner Accepted Link Service Error OnError → OnError → Option (Service × Link) → Spawner → Spawner → Type 0
StartedFor parts on_error None old new = new ≡ old
StartedFor parts on_error (Some taken) old new = parts.starts old (worker_of taken on_error) (Ok tt) new

-- one accept, and what followed it, by its answer
abbrev pub AcceptsOne : {Acceptor Hook Spawner Accepted Link Service Error OnError : Type 0}
    → Parts Acceptor Hook Spawner Accepted Link Service Error OnError → OnError → Listener Acceptor Hook Spawner
    → Listener Acceptor Hook Spawner → Result (Unit {0}) (ServeError Error) → Type 0
AcceptsOne {Link = Link} {Service = Service} parts on_error old new (Ok done) = (answer : Option (Service × Link))
    × ConnectsByHook parts old new (Ok answer) × StartedFor parts on_error answer old.spawner new.spawner
AcceptsOne parts on_error old new (Err AcceptFault) =
    (failed : Failed) × parts.accepts old.acceptor (Err failed) new.acceptor × (new.hook ≡ old.hook) × (new.spawner ≡ old.spawner)
AcceptsOne parts on_error old new (Err (Connect error)) = ConnectsByHook parts old new (Err error) × (new.spawner ≡ old.spawner)
AcceptsOne {Link = Link} {Service = Service} parts on_error old new (Err SpawnFault) = (taken : Service × Link)
    × ConnectsByHook parts old new (Ok (Some taken))
    × ((failed : Failed) × parts.starts old.spawner (worker_of taken on_error) (Err failed) new.spawner)
AcceptsOne {Link = Link} {Service = Service} parts on_error old new (Err NoMemory) = (taken : Service × Link)
    × ConnectsByHook parts old new (Ok (Some taken)) × (new.spawner ≡ old.spawner)

-- so many accepts that went well, one after another, each after a look at the signal, which said that it is not set
abbrev pub AcceptsMany : {Acceptor Hook Spawner Watch Accepted Link Service Error OnError : Type 0}
    → Parts Acceptor Hook Spawner Accepted Link Service Error OnError → (Watch → Bool → Watch → Type 0) → OnError → ℕ
    → Listener Acceptor Hook Spawner → Watch → Listener Acceptor Hook Spawner → Watch → Type 0
AcceptsMany parts looks on_error zero old start new now = (new ≡ old) × (now ≡ start)
AcceptsMany {Acceptor} {Hook} {Spawner} {Watch} parts looks on_error (suc count) old start new now = (last : Listener Acceptor Hook Spawner) × (before : Watch)
    × AcceptsMany parts looks on_error count old start last before × looks before false now × AcceptsOne parts on_error last new (Ok tt)

-- how an accept loop ended, by its answer: a look said that the signal is set, or an accept did not go well
abbrev pub AcceptsLast : {Acceptor Hook Spawner Watch Accepted Link Service Error OnError : Type 0}
    → Parts Acceptor Hook Spawner Accepted Link Service Error OnError → (Watch → Bool → Watch → Type 0) → OnError
    → Listener Acceptor Hook Spawner → Watch → Listener Acceptor Hook Spawner → Watch → Result Terminated (ServeError Error) → Type 0
AcceptsLast parts looks on_error old before new now (Ok Finished) = ⊥
AcceptsLast parts looks on_error old before new now (Ok Aborted) = looks before true now × (new ≡ old)
AcceptsLast parts looks on_error old before new now (Err error) = looks before false now × AcceptsOne parts on_error old new (Err error)

-- What an accept loop did: accepts that went well, and then the end. Without memory for the flag of its workers it did nothing.
abbrev pub Accepts : {Acceptor Hook Spawner Watch Accepted Link Service Error OnError : Type 0}
    → Parts Acceptor Hook Spawner Accepted Link Service Error OnError → (Watch → Bool → Watch → Type 0) → OnError
    → Listener Acceptor Hook Spawner → Watch → Listener Acceptor Hook Spawner → Watch → Result Terminated (ServeError Error) → Type 0
Accepts {Acceptor} {Hook} {Spawner} {Watch} parts looks on_error old start new end result =
    ((count : ℕ) × (last : Listener Acceptor Hook Spawner) × (before : Watch) × AcceptsMany parts looks on_error count old start last before × AcceptsLast parts looks on_error last before new end result)
    ⊎ ((result ≡ Err NoMemory) × (new ≡ old) × (end ≡ start))

-- an acceptor and a hook, where nothing is said of what starts workers: it has no state then
abbrev pub unspawned : {Acceptor Hook Accepted Link Service Error OnError : Type 0}
    → (Acceptor → Result (Accepted × SocketAddr) Failed → Acceptor → Type 0)
    → (Hook → Accepted → SocketAddr → Result (Option (Service × Link)) Error → Hook → Type 0)
    → Parts Acceptor Hook (Unit {0}) Accepted Link Service Error OnError
unspawned accepts connects = record { accepts = accepts; connects = connects; starts = λ _ _ _ _. Unit {0} }

abbrev pub without_spawner : {Acceptor Hook : Type 0} → Acceptor → Hook → Listener Acceptor Hook (Unit {0})
without_spawner acceptor hook = record { acceptor = acceptor; hook = hook; spawner = tt }

-- a count that has not come to its last number
abbrev pub Exact : ℕ → Type 0
Exact count = count < 2 ^ 64 - 1

-- how many workers were started, by the answer and the number of links that were given
abbrev pub Balances : {T Error : Type 0} → Result T (ServeError Error) → ℕ → ℕ → Type 0
Balances (Ok _) given started = given ≡ started
Balances (Err AcceptFault) given started = given ≡ started
Balances (Err (Connect _)) given started = given ≡ started + 1
Balances (Err SpawnFault) given started = given ≡ started + 1
Balances (Err NoMemory) given started = (given ≡ started) ⊎ (given ≡ started + 1)

-- a hook, by its calls, that never rejects a connection
abbrev pub NeverRejects : {Hook Accepted Link Service Error : Type 0}
    → (Hook → Accepted → SocketAddr → Result (Option (Service × Link)) Error → Hook → Type 0) → Type 0
NeverRejects {Hook} {Accepted} connects = (state after : Hook) (link : Accepted) (address : SocketAddr)
    → connects state link address (Ok None) after → ⊥

-- what an acceptor and a spawner count: the links that it gave, the workers that it started, and how often each failed
pub record Counts (Acceptor Spawner : Type 0) : Type 0 where
  pub given : Acceptor → ℕ
  pub accept_faults : Acceptor → ℕ
  pub started : Spawner → ℕ
  pub spawn_faults : Spawner → ℕ

-- What was counted in one accept, or in accepts one after another, by the answer: a fault comes only where its count rose, and where the
-- hook rejects no connection, each link that was given has a worker, or else the last one.
pub record CountsPeers {Acceptor Hook Spawner Accepted Link Service Error OnError T : Type 0}
    (parts : Parts Acceptor Hook Spawner Accepted Link Service Error OnError) (counts : Counts Acceptor Spawner)
    (old new : Listener Acceptor Hook Spawner) (result : Result T (ServeError Error)) : Type 0 where
  pub given : counts.given old.acceptor ≤ counts.given new.acceptor
  pub started : counts.started old.spawner ≤ counts.started new.spawner
  pub accept_faults : counts.accept_faults old.acceptor ≤ counts.accept_faults new.acceptor
  pub spawn_faults : counts.spawn_faults old.spawner ≤ counts.spawn_faults new.spawner
  pub accept_fault : result ≡ Err AcceptFault → Rose (counts.accept_faults old.acceptor) (counts.accept_faults new.acceptor)
  pub spawn_fault : result ≡ Err SpawnFault → Rose (counts.spawn_faults old.spawner) (counts.spawn_faults new.spawner)
  pub balance : NeverRejects parts.connects → Exact (counts.given new.acceptor) → Exact (counts.started new.spawner)
      → Balances result (counts.given new.acceptor - counts.given old.acceptor) (counts.started new.spawner - counts.started old.spawner)

-- a signal to stop: how often it said that it is set, and what a look at it says
pub record Signal (Watch : Type 0) : Type 1 where
  pub stops : Watch → ℕ
  pub looks : Watch → Bool → Watch → Type 0

-- a signal that is never set
abbrev pub unsignalled : Signal (Unit {0})
unsignalled = record { stops = λ it. 0; looks = never_set }

-- What a listener promises that serves until a signal is set. What it was and the signal are told before and after.
pub record Serves {Acceptor Hook Spawner Watch Accepted Link Service Error OnError : Type 0}
    (parts : Parts Acceptor Hook Spawner Accepted Link Service Error OnError) (counts : Counts Acceptor Spawner) (signal : Signal Watch)
    (on_error : OnError)
    (before after : Listener Acceptor Hook Spawner × Watch) (result : Result Terminated (ServeError Error)) : Type 0 where
  pub finished : result ≢ Ok Finished
  pub aborted : result ≡ Ok Aborted → Rose (signal.stops before.1) (signal.stops after.1)
  pub counted : CountsPeers parts counts before.0 after.0 result
  pub accepts : Accepts parts signal.looks on_error before.0 before.1 after.0 after.1 result

-- an answer of a call that is not stopped, as one of a call that may be
abbrev pub as_stopped : {Error : Type 0} → Result (Unit {0}) (ServeError Error) → Result Terminated (ServeError Error)
as_stopped (Ok done) = Ok Finished
as_stopped (Err error) = Err error

-- a service that a maker answered, with the link that it is for
abbrev pub connection_for : {Service Link Error : Type 0} → Link → Result (Option Service) Error → Result (Option (Service × Link)) Error
connection_for link (Ok None) = Ok None
connection_for link (Ok (Some service)) = Ok (Some (service, link))
connection_for link (Err error) = Err error
