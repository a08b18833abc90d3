-- What an accept loop did, with nothing said of what starts its workers.
use Rattle.std.proofs.Common.{ℕ, zero, suc, Bool, Option, Some, None, Result, Ok, Err, refl, ap, inl, inr}
use Rattle.modbus_frame.specs.declared.server.Terminated.{Terminated}
use Rattle.modbus_frame.specs.declared.server.Terminated.TheVariants.{Finished, Aborted}
use Rattle.modbus_server.specs.declared.error.ServeError.{ServeError}
use Rattle.modbus_server.specs.declared.error.ServeError.TheVariants.{AcceptFault, Connect, SpawnFault, NoMemory}
use Rattle.modbus_server.specs.Listener.{Parts, Listener, ConnectsByHook, StartedFor, AcceptsOne, AcceptsMany, AcceptsLast, Accepts, unspawned, without_spawner}

module _ {A C P X K L V E H : Type 0} (parts : Parts A C P K L V E H) (looks : X → Bool → X → Type 0) (on_error : H) where
  abbrev told : Parts A C (Unit {0}) K L V E H
  told = unspawned parts.accepts parts.connects

  abbrev front : Listener A C P → Listener A C (Unit {0})
  front it = without_spawner it.acceptor it.hook

  connected : (old new : Listener A C P) (answer : Result (Option (V × L)) E) → ConnectsByHook parts old new answer → ConnectsByHook told (front old) (front new) answer
  connected old new answer c = record { link = c.link; address = c.address; accepted = c.accepted; answered = c.answered }

  started : (answer : Option (V × L)) (old new : P) → StartedFor parts on_error answer old new → StartedFor told on_error answer tt tt
  started None old new s = refl
  started (Some taken) old new s = tt

  one : (old new : Listener A C P) (result : Result (Unit {0}) (ServeError E)) → AcceptsOne parts on_error old new result → AcceptsOne told on_error (front old) (front new) result
  one old new (Ok done) (answer, c, s) = (answer, connected old new (Ok answer) c, started answer old.spawner new.spawner s)
  one old new (Err AcceptFault) (failed, accepts, hook, spawner) = (failed, accepts, hook, refl)
  one old new (Err (Connect error)) (c, spawner) = (connected old new (Err error) c, refl)
  one old new (Err SpawnFault) (taken, c, s) = (taken, connected old new (Ok (Some taken)) c, (s.0, tt))
  one old new (Err NoMemory) (taken, c, spawner) = (taken, connected old new (Ok (Some taken)) c, refl)

  many : (count : ℕ) (old : Listener A C P) (start : X) (new : Listener A C P) (now : X) → AcceptsMany parts looks on_error count old start new now
      → AcceptsMany told looks on_error count (front old) start (front new) now
  many zero old start new now (same, signal) = (ap front same, signal)
  many (suc count) old start new now (last, before, m, looked, o) = (front last, before, many count old start last before m, looked, one last new (Ok tt) o)

  last_one : (old : Listener A C P) (before : X) (new : Listener A C P) (now : X) (result : Result Terminated (ServeError E)) → AcceptsLast parts looks on_error old before new now result
      → AcceptsLast told looks on_error (front old) before (front new) now result
  last_one old before new now (Ok Finished) never = never
  last_one old before new now (Ok Aborted) (looked, same) = (looked, ap front same)
  last_one old before new now (Err error) (looked, o) = (looked, one old new (Err error) o)

  pub heard : (old : Listener A C P) (start : X) (new : Listener A C P) (end : X) (result : Result Terminated (ServeError E)) → Accepts parts looks on_error old start new end result
      → Accepts told looks on_error (front old) start (front new) end result
  heard old start new end result (inl (count, last, before, m, l)) = inl (count, front last, before, many count old start last before m, last_one last before new end result l)
  heard old start new end result (inr (failed, same, signal)) = inr (failed, ap front same, signal)
