-- What a listener did, with nothing said of what starts its workers.
use Rattle.std.proofs.Common.{◌≡◌, arith, ℕ, zero, suc, Option, Some, None, Result, Ok, Err, refl, ap, inl, inr}
use Rattle.std.specs.declared.net.SocketAddr.{SocketAddr}
use Rattle.modbus_link.specs.declared.outside.Failed.{Failed}
use Rattle.modbus_link.specs.Outside.{Output, Rose}
use Rattle.modbus_server.specs.declared.error.ServeError.{ServeError}
use Rattle.modbus_server.specs.declared.error.ServeError.TheVariants.{AcceptFault, Connect, SpawnFault, NoMemory}
use Rattle.modbus_server.specs.Listener.{Parts, Listener, ConnectsByHook, StartedFor, AcceptsOne, AcceptsMany, Accepts, Counts, WorkerState, unspawned, without_spawner}
use Rattle.modbus_server.specs.Signal.{never_set}
use Rattle.modbus_port.specs.declared.listen.Framing.{Framing}
use Rattle.modbus_port.specs.declared.listen.Framing.TheVariants.{Rtu, Tcp}
use Rattle.modbus_port.specs.Listen.{parts_with, hook_with, Endings, Listened, ListenedOver}

module _ {A C P K V X H : Type 0} (opens : C → Result V X → C → Type 0) (accepted : A → Result (K × SocketAddr) Failed → A → Type 0)
    (starts : P → WorkerState K V H ℕ → Result (Unit {0}) Failed → P → Type 0) (on_error : H) where
  abbrev parts : Parts A C P K K V X H
  parts = parts_with opens accepted starts

  abbrev told : Parts A C (Unit {0}) K K V X H
  told = unspawned accepted (hook_with opens)

  abbrev front : Listener A C P → Listener A C (Unit {0})
  front it = without_spawner it.acceptor it.hook

  connected : (old new : Listener A C P) (answer : Result (Option (V × K)) X) → ConnectsByHook parts old new answer → ConnectsByHook told (front old) (front new) answer
  connected old new answer c = record { link = c.link; address = c.address; accepted = c.accepted; answered = c.answered }

  started : (answer : Option (V × K)) (old new : P) → StartedFor parts on_error answer old new → StartedFor told on_error answer tt tt
  started None old new s = refl
  started (Some taken) old new s = tt

  one : (old new : Listener A C P) (result : Result (Unit {0}) (ServeError X)) → AcceptsOne parts on_error old new result → AcceptsOne told on_error (front old) (front new) result
  one old new (Ok done) (answer, c, s) = (answer, connected old new (Ok answer) c, started answer old.spawner new.spawner s)
  one old new (Err AcceptFault) (failed, accepts, hook, spawner) = (failed, accepts, hook, refl)
  one old new (Err (Connect error)) (c, spawner) = (connected old new (Err error) c, refl)
  one old new (Err SpawnFault) (taken, c, s) = (taken, connected old new (Ok (Some taken)) c, (s.0, tt))
  one old new (Err NoMemory) (taken, c, spawner) = (taken, connected old new (Ok (Some taken)) c, refl)

  many : (count : ℕ) (old new : Listener A C P) (start now : Unit {0}) → AcceptsMany parts never_set on_error count old start new now
      → AcceptsMany told never_set on_error count (front old) start (front new) now
  many zero old new start now (same, signal) = (ap front same, signal)
  many (suc count) old new start now (last, before, m, looked, o) = (front last, before, many count old last start before m, looked, one last new (Ok tt) o)

  heard : (old new : Listener A C P) (error : ServeError X) → Accepts parts never_set on_error old tt new tt (Err error)
      → Accepts told never_set on_error (front old) tt (front new) tt (Err error)
  heard old new error (inl (count, last, before, m, (looked, o))) = inl (count, front last, before, many count old last tt before m, (looked, one last new (Err error) o))
  heard old new error (inr (failed, same, signal)) = inr (failed, ap front same, signal)

  pub listened : (counts : Counts A P) (by : Endings X) (old new : Listener A C P) (tells : Output × Output) (status : ℕ) → Listened parts counts by on_error old new tells status
      → (Rose (counts.spawn_faults old.spawner) (counts.spawn_faults new.spawner) → ⊥)
      → ListenedOver opens (record { accepts = accepted; faults = counts.accept_faults }) by on_error (old.acceptor, old.hook) (new.acceptor, new.hook) tells status
  listened counts by old new tells status l never = record {
    error = l.error;
    is = l.is;
    reports = l.reports;
    accepts = heard old new l.error l.serves.listener.accepts;
    accept_fault = λ e. l.serves.listener.counted.accept_fault (ap Err e);
    spawns = λ e. never (l.serves.listener.counted.spawn_fault (ap Err e));
    refused = l.serves.refused;
  }

-- what holds for either framing holds
pub in_either : {T : Type 0} (framing : Framing) → (framing ≡ Rtu → T) → (framing ≡ Tcp → T) → T
in_either Rtu rtu tcp = rtu refl
in_either Tcp rtu tcp = tcp refl

-- a count that is always 0 never rises
pub stays : Rose 0 0 → ⊥
stays rose = omega arith
