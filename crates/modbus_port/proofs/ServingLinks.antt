-- What an accept loop did, seen by the state of what opens services for its hook.
use Rattle.std.proofs.Common.{◌≡◌, ℕ, zero, suc, Option, Some, None, Result, Ok, Err, ap, subst, ◌∙◌, inl, inr}
use Rattle.std.specs.declared.net.SocketAddr.{SocketAddr}
use Rattle.modbus_frame.specs.declared.server.Terminated.{Terminated}
use Rattle.modbus_server.specs.declared.error.ServeError.{ServeError}
use Rattle.modbus_server.specs.declared.error.ServeError.TheVariants.{AcceptFault, Connect, SpawnFault, NoMemory}
use Rattle.modbus_server.specs.Listener.{Parts, Listener, ConnectsByHook, StartedFor, AcceptsOne, AcceptsMany, Accepts, Counts, Serves, NeverRejects, unsignalled}
use Rattle.modbus_server.specs.Signal.{never_set}
use Rattle.modbus_port.specs.Listen.{OpensFor, parts_with, Refuses, ServesLinks}

-- a hook with states of its own, in which it has a pass
module _ {A C D P K V X H : Type 0} (parts : Parts A C P K K V X H) (opens : D → Result V X → D → Type 0) (state : C → D)
    (opened : (old new : C) (link : K) (address : SocketAddr) (answer : Result (Option (V × K)) X) → parts.connects old link address answer new → OpensFor opens (state old) link answer (state new))
    (on_error : H) where
  abbrev seen : Parts A D P K K V X H
  seen = parts_with opens parts.accepts parts.starts

  abbrev by_state : Listener A C P → Listener A D P
  by_state it = record { acceptor = it.acceptor; hook = state it.hook; spawner = it.spawner }

  connected : (old new : Listener A C P) (answer : Result (Option (V × K)) X) → ConnectsByHook parts old new answer → ConnectsByHook seen (by_state old) (by_state new) answer
  connected old new answer c = record {
    link = c.link;
    address = c.address;
    accepted = c.accepted;
    answered = opened old.hook new.hook c.link c.address answer c.answered;
  }

  started : (answer : Option (V × K)) (old new : P) → StartedFor parts on_error answer old new → StartedFor seen on_error answer old new
  started None old new s = s
  started (Some taken) old new s = s

  one : (old new : Listener A C P) (result : Result (Unit {0}) (ServeError X)) → AcceptsOne parts on_error old new result → AcceptsOne seen on_error (by_state old) (by_state new) result
  one old new (Ok done) (answer, c, s) = (answer, connected old new (Ok answer) c, started answer old.spawner new.spawner s)
  one old new (Err AcceptFault) (failed, accepts, hook, spawner) = (failed, accepts, ap state hook, spawner)
  one old new (Err (Connect error)) (c, spawner) = (connected old new (Err error) c, spawner)
  one old new (Err SpawnFault) (taken, c, s) = (taken, connected old new (Ok (Some taken)) c, s)
  one old new (Err NoMemory) (taken, c, spawner) = (taken, connected old new (Ok (Some taken)) c, spawner)

  many : (count : ℕ) (old new : Listener A C P) (start now : Unit {0}) → AcceptsMany parts never_set on_error count old start new now
      → AcceptsMany seen never_set on_error count (by_state old) start (by_state new) now
  many zero old new start now (same, signal) = (ap by_state same, signal)
  many (suc count) old new start now (last, before, m, looked, o) = (by_state last, before, many count old last start before m, looked, one last new (Ok tt) o)

  pub accepts : (old new : Listener A C P) (error : ServeError X) → Accepts parts never_set on_error old tt new tt (Err error)
      → Accepts seen never_set on_error (by_state old) tt (by_state new) tt (Err error)
  accepts old new error (inl (count, last, before, m, (looked, o))) = inl (count, by_state last, before, many count old last tt before m, (looked, one last new (Err error) o))
  accepts old new error (inr (e, same, signal)) = inr (e, ap by_state same, signal)

-- a hook's error is no refused memory
abbrev IsRefusal : {X : Type 0} → Result Terminated (ServeError X) → Type 0
IsRefusal (Ok done) = ⊥
IsRefusal (Err AcceptFault) = ⊥
IsRefusal (Err (Connect out)) = Unit {0}
IsRefusal (Err SpawnFault) = ⊥
IsRefusal (Err NoMemory) = ⊥

abbrev refusal_of : {X : Type 0} → X → Result Terminated (ServeError X)
refusal_of out = Err (Connect out)

not_wanting : {X : Type 0} (out : X) → refusal_of out ≡ Err NoMemory → ⊥
not_wanting out e = subst IsRefusal e tt

-- where the hook said so, that was its last call
refused_by : {A C P K V X H : Type 0} (parts : Parts A C P K K V X H) (on_error : H) (old new : Listener A C P) (error : ServeError X) (out : X)
    → Accepts parts never_set on_error old tt new tt (Err error) → error ≡ Connect out → Refuses parts out new.hook
refused_by {A} {C} {P} {K} {V} {X} {H} parts on_error old new error out a e = told (subst (λ (f : ServeError X). Accepts parts never_set on_error old tt new tt (Err f)) e a)
  where
    told : Accepts parts never_set on_error old tt new tt (Err (Connect out)) → Refuses parts out new.hook
    told (inl (count, last, before, m, (looked, (c, spawner)))) = (last.hook, c.link, c.address, c.answered)
    told (inr (other, same, signal)) = absurd (not_wanting out other)

-- what each call of the hook leaves as it was, the accept loop leaves as it was
module _ {A C P K V X H : Type 0} (parts : Parts A C P K K V X H) (name : C → ℕ)
    (stays : (old new : C) (link : K) (address : SocketAddr) (answer : Result (Option (V × K)) X) → parts.connects old link address answer new → name new ≡ name old) (on_error : H) where
  stays_once : (old new : Listener A C P) (answer : Result (Option (V × K)) X) → ConnectsByHook parts old new answer → name new.hook ≡ name old.hook
  stays_once old new answer c = stays old.hook new.hook c.link c.address answer c.answered

  stays_one : (old new : Listener A C P) (result : Result (Unit {0}) (ServeError X)) → AcceptsOne parts on_error old new result → name new.hook ≡ name old.hook
  stays_one old new (Ok done) (answer, c, s) = stays_once old new (Ok answer) c
  stays_one old new (Err AcceptFault) (failed, accepts, hook, spawner) = ap name hook
  stays_one old new (Err (Connect error)) (c, spawner) = stays_once old new (Err error) c
  stays_one old new (Err SpawnFault) (taken, c, s) = stays_once old new (Ok (Some taken)) c
  stays_one old new (Err NoMemory) (taken, c, spawner) = stays_once old new (Ok (Some taken)) c

  stays_many : (count : ℕ) (old new : Listener A C P) (start now : Unit {0}) → AcceptsMany parts never_set on_error count old start new now → name new.hook ≡ name old.hook
  stays_many zero old new start now (same, signal) = ap (λ (it : Listener A C P). name it.hook) same
  stays_many (suc count) old new start now (last, before, m, looked, o) = stays_one last new (Ok tt) o ∙ stays_many count old last start before m

  pub same_name : (old new : Listener A C P) (error : ServeError X) → Accepts parts never_set on_error old tt new tt (Err error) → name new.hook ≡ name old.hook
  same_name old new error (inl (count, last, before, m, (looked, o))) = stays_one last new (Err error) o ∙ stays_many count old last tt before m
  same_name old new error (inr (e, same, signal)) = ap (λ (it : Listener A C P). name it.hook) same

-- so the listener is served, as its record says of its own hook
module _ {A C D P K V X H : Type 0} (parts : Parts A C P K K V X H) (opens : D → Result V X → D → Type 0) (state : C → D)
    (opened : (old new : C) (link : K) (address : SocketAddr) (answer : Result (Option (V × K)) X) → parts.connects old link address answer new → OpensFor opens (state old) link answer (state new))
    (on_error : H) (counts : Counts A P) where
  abbrev shown : (a : A) (d : D) (s : P) → Listener A D P
  shown a d s = record { acceptor = a; hook = d; spawner = s }

  abbrev Links : (a a' : A) (d d' : D) (s s' : P) → ServeError X → Type 0
  Links a a' d d' s s' error = ServesLinks (parts_with opens parts.accepts parts.starts) counts on_error (shown a d s) (shown a' d' s') error

  pub serves : (old new : Listener A C P) (error : ServeError X) (d d' : D) → Serves parts counts unsignalled on_error (old, tt) (new, tt) (Err error)
      → state old.hook ≡ d → state new.hook ≡ d' → Links old.acceptor new.acceptor d d' old.spawner new.spawner error
  serves old new error d d' all ed ed' =
      subst (λ (x : D). Links old.acceptor new.acceptor x d' old.spawner new.spawner error) ed
      (subst (λ (x : D). Links old.acceptor new.acceptor (state old.hook) x old.spawner new.spawner error) ed' here)
    where
      rejects_none : NeverRejects parts.connects
      rejects_none before after link address by = opened before after link address (Ok None) by

      seen_all : Accepts (parts_with opens parts.accepts parts.starts) never_set on_error (shown old.acceptor (state old.hook) old.spawner) tt
          (shown new.acceptor (state new.hook) new.spawner) tt (Err error)
      seen_all = accepts parts opens state opened on_error old new error all.accepts

      listener : Serves (parts_with opens parts.accepts parts.starts) counts unsignalled on_error (shown old.acceptor (state old.hook) old.spawner, tt)
          (shown new.acceptor (state new.hook) new.spawner, tt) (Err error)
      listener = record {
        finished = all.finished;
        aborted = all.aborted;
        counted = record {
          given = all.counted.given;
          started = all.counted.started;
          accept_faults = all.counted.accept_faults;
          spawn_faults = all.counted.spawn_faults;
          accept_fault = all.counted.accept_fault;
          spawn_fault = all.counted.spawn_fault;
          balance = λ never given started. all.counted.balance rejects_none given started;
        };
        accepts = seen_all;
      }

      here : Links old.acceptor new.acceptor (state old.hook) (state new.hook) old.spawner new.spawner error
      here = record {
        listener = listener;
        refused = λ out is. refused_by _ on_error _ _ error out seen_all is;
        balance = λ given started. all.counted.balance rejects_none given started;
      }
