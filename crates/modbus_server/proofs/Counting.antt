-- What is counted in accepts one after another.
use Rattle.std.proofs.Common.{◌≡◌, ◌≤◌, ◌-◌, ℕ, Result, Ok, Err, arith, inl, inr}
use Rattle.modbus_server.specs.declared.error.ServeError.{ServeError}
use Rattle.modbus_server.specs.declared.error.ServeError.TheVariants.{AcceptFault, Connect, SpawnFault, NoMemory}
use Rattle.modbus_frame.specs.declared.server.Terminated.{Terminated}
use Rattle.modbus_server.specs.Listener.{Parts, Listener, Counts, CountsPeers, Balances}

balance_both : {E T : Type 0} (result : Result T (ServeError E)) (a b c d e f : ℕ) → a ≤ b → b ≤ c → d ≤ e → e ≤ f → b - a ≡ e - d
    → Balances result (c - b) (f - e) → Balances result (c - a) (f - d)
balance_both (Ok done) a b c d e f ab bc de ef before one = omega arith
balance_both (Err AcceptFault) a b c d e f ab bc de ef before one = omega arith
balance_both (Err (Connect error)) a b c d e f ab bc de ef before one = omega arith
balance_both (Err SpawnFault) a b c d e f ab bc de ef before one = omega arith
balance_both (Err NoMemory) a b c d e f ab bc de ef before (inl one) = inl (omega arith)
balance_both (Err NoMemory) a b c d e f ab bc de ef before (inr one) = inr (omega arith)

module _ {A C P K L V E H : Type 0} (parts : Parts A C P K L V E H) (counts : Counts A P) where
  -- so many accepts that went well
  abbrev pub Well : Listener A C P → Listener A C P → Type 0
  Well old new = CountsPeers {T = Unit {0}} parts counts old new (Ok tt)

  pub none_counted : (it : Listener A C P) → Well it it
  none_counted it = record {
    given = omega arith;
    started = omega arith;
    accept_faults = omega arith;
    spawn_faults = omega arith;
    accept_fault = λ e. cc;
    spawn_fault = λ e. cc;
    balance = λ never given started. omega arith;
  }

  -- no memory for the flag of the workers
  pub counted_nothing : (it : Listener A C P) → CountsPeers {T = Terminated} parts counts it it (Err NoMemory)
  counted_nothing it = record {
    given = omega arith;
    started = omega arith;
    accept_faults = omega arith;
    spawn_faults = omega arith;
    accept_fault = λ e. cc;
    spawn_fault = λ e. cc;
    balance = λ never given started. inl (omega arith);
  }

  pub counted_well : (old new : Listener A C P) (terminated : Terminated) → Well old new → CountsPeers parts counts old new (Ok terminated)
  counted_well old new terminated all = record {
    given = all.given;
    started = all.started;
    accept_faults = all.accept_faults;
    spawn_faults = all.spawn_faults;
    accept_fault = λ e. cc;
    spawn_fault = λ e. cc;
    balance = all.balance;
  }

  -- one more accept
  pub counted_more : (old mid new : Listener A C P) → Well old mid → Well mid new → Well old new
  counted_more old mid new first last = record {
    given = omega (arith, first.given, last.given);
    started = omega (arith, first.started, last.started);
    accept_faults = omega (arith, first.accept_faults, last.accept_faults);
    spawn_faults = omega (arith, first.spawn_faults, last.spawn_faults);
    accept_fault = λ e. cc;
    spawn_fault = λ e. cc;
    balance = λ never given started.
        let one = last.balance never given started in
        let before = first.balance never (omega (arith, given, last.given)) (omega (arith, started, last.started)) in
        omega (arith, one, before, first.given, last.given, first.started, last.started);
  }

  -- the last accept, which did not go well
  pub counted_last : (old mid new : Listener A C P) (error : ServeError E) → Well old mid → CountsPeers {T = Unit {0}} parts counts mid new (Err error)
      → CountsPeers {T = Terminated} parts counts old new (Err error)
  counted_last old mid new error first last = record {
    given = omega (arith, first.given, last.given);
    started = omega (arith, first.started, last.started);
    accept_faults = omega (arith, first.accept_faults, last.accept_faults);
    spawn_faults = omega (arith, first.spawn_faults, last.spawn_faults);
    accept_fault = λ e.
        let is : error ≡ AcceptFault = cc in
        let rose = last.accept_fault (cc is) in omega (arith, rose, first.accept_faults);
    spawn_fault = λ e.
        let is : error ≡ SpawnFault = cc in
        let rose = last.spawn_fault (cc is) in omega (arith, rose, first.spawn_faults);
    balance = λ never given started.
        let before = first.balance never (omega (arith, given, last.given)) (omega (arith, started, last.started)) in
        ended error _ _ (balance_both {T = Unit {0}} (Err error) _ _ _ _ _ _ first.given last.given first.started last.started before (last.balance never given started));
  }
    where
      ended : (error : ServeError E) (given started : ℕ) → Balances {T = Unit {0}} (Err error) given started → Balances {T = Terminated} (Err error) given started
      ended AcceptFault given started b = b
      ended (Connect x) given started b = b
      ended SpawnFault given started b = b
      ended NoMemory given started b = b
