-- What a listener did with the pass that its services are split off.
use Rattle.std.proofs.Common.{◌≡◌, ℕ, zero, suc, Option, Some, None, Result, Ok, Err, refl, ap, subst, sym, ◌∙◌, inl, inr}
use Rattle.modbus_link.specs.Outside.{Output}
use Rattle.modbus_server.specs.declared.error.ServeError.{ServeError}
use Rattle.modbus_server.specs.declared.error.ServeError.TheVariants.{AcceptFault, Connect, SpawnFault, NoMemory}
use Rattle.modbus_server.specs.Listener.{Parts, Listener, ConnectsByHook, AcceptsOne, AcceptsMany, Accepts}
use Rattle.modbus_server.specs.Signal.{never_set}
use Rattle.modbus_store.specs.declared.table.PassesOut.{PassesOut}
use Rattle.modbus_store.specs.Passes.{Pass}
use Rattle.modbus_port.specs.Listen.{OpensFor, parts_over, without}
use Rattle.modbus_port.specs.Listen.{ListenedOver as Ended}
use Rattle.modbus_port.specs.Port.{Accepting}
use Rattle.modbus_app.specs.Listen.{OpensPass, ListenedOver}
use Rattle.modbus_app.specs.Status.{listener_status_of, listener_line_of}

-- a pass of which others were split off
abbrev pub IsSplit : Pass → Pass → Type 0
IsSplit old new = new ≡ record old { drawn = new.drawn }

-- the pass of such a hook is only split
module _ {A K V H : Type 0} (pass_of : V → Pass) (by : Accepting A K) (on_error : H) where
  abbrev parts : Parts A Pass (Unit {0}) K K V PassesOut H
  parts = parts_over (OpensPass pass_of) by

  splits : (old new : Pass) (link : K) (answer : Result (Option (V × K)) PassesOut) → OpensFor (OpensPass pass_of) old link answer new → IsSplit old new
  splits old new link (Ok (Some taken)) (same, opened) = opened.1
  splits old new link (Ok None) none = absurd none
  splits old new link (Err none_left) refused = refused.1

  both : (a b c : Pass) → IsSplit a b → IsSplit b c → IsSplit a c
  both a b c e f = f ∙ ap (λ (p : Pass). record p { drawn = c.drawn }) e

  split_once : (old new : Listener A Pass (Unit {0})) (answer : Result (Option (V × K)) PassesOut) → ConnectsByHook parts old new answer → IsSplit old.hook new.hook
  split_once old new answer c = splits old.hook new.hook c.link answer c.answered

  split_one : (old new : Listener A Pass (Unit {0})) (result : Result (Unit {0}) (ServeError PassesOut)) → AcceptsOne parts on_error old new result → IsSplit old.hook new.hook
  split_one old new (Ok done) (answer, c, s) = split_once old new (Ok answer) c
  split_one old new (Err AcceptFault) (failed, accepts, hook, spawner) = subst (λ (p : Pass). IsSplit old.hook p) (sym hook) refl
  split_one old new (Err (Connect error)) (c, spawner) = split_once old new (Err error) c
  split_one old new (Err SpawnFault) (taken, c, s) = split_once old new (Ok (Some taken)) c
  split_one old new (Err NoMemory) (taken, c, spawner) = split_once old new (Ok (Some taken)) c

  split_many : (count : ℕ) (old new : Listener A Pass (Unit {0})) (start now : Unit {0}) → AcceptsMany parts never_set on_error count old start new now → IsSplit old.hook new.hook
  split_many zero old new start now (same, signal) = subst (λ (it : Listener A Pass (Unit {0})). IsSplit old.hook it.hook) (sym same) refl
  split_many (suc count) old new start now (last, before, m, looked, o) = both old.hook last.hook new.hook (split_many count old last start before m) (split_one last new (Ok tt) o)

  pub is_split : (old new : Listener A Pass (Unit {0})) (error : ServeError PassesOut) → Accepts parts never_set on_error old tt new tt (Err error) → IsSplit old.hook new.hook
  is_split old new error (inl (count, last, before, m, (looked, o))) = both old.hook last.hook new.hook (split_many count old last tt before m) (split_one last new (Err error) o)
  is_split old new error (inr (e, same, signal)) = subst (λ (it : Listener A Pass (Unit {0})). IsSplit old.hook it.hook) (sym same) refl

  -- so a listener over a shared store ended as it may
  pub listened : (old new : A × Pass) (said told : Output) (status : ℕ)
      → Ended (OpensPass pass_of) by (record { status_of = listener_status_of; line_of = listener_line_of }) on_error old new (said, told) status
      → ListenedOver pass_of by on_error old new said told status
  listened old new said told status l = record {
    error = l.error;
    is = l.is;
    tells = l.reports;
    accepts = l.accepts;
    accept_fault = l.accept_fault;
    spawns = l.spawns;
    pass = is_split (without old) (without new) l.error l.accepts;
    passes_out = λ out is. (l.refused out is).3.0;
  }
