-- What a program that listens does over a shared store.
use Rattle.std.specs.Prelude.{◌≡◌, ◌≢◌, ℕ, ◌^◌, Result, Ok, Err}
use Rattle.modbus_link.specs.Outside.{Output, Rose}
use Rattle.modbus_server.specs.declared.error.ServeError.{ServeError}
use Rattle.modbus_server.specs.declared.error.ServeError.TheVariants.{AcceptFault, Connect, SpawnFault}
use Rattle.modbus_server.specs.Listener.{Accepts}
use Rattle.modbus_server.specs.Signal.{never_set}
use Rattle.modbus_store.specs.declared.table.PassesOut.{PassesOut}
use Rattle.modbus_store.specs.Passes.{Pass, SplitsOff}
use Rattle.modbus_port.specs.Listen.{parts_over, without}
use Rattle.modbus_port.specs.Port.{Accepting}
use Rattle.modbus_port.specs.Reports.{Reports}
use Rattle.modbus_app.specs.Status.{listener_status_of, listener_line_of}

-- The service of a connection has a pass that was split off; or no number is left for another pass.
abbrev pub OpensPass : {V : Type 0} → (V → Pass) → Pass → Result V PassesOut → Pass → Type 0
OpensPass pass_of old (Ok service) new = SplitsOff old new.drawn (pass_of service) × (new ≡ record old { drawn = new.drawn })
OpensPass pass_of old (Err none_left) new = (new.drawn ≡ 2 ^ 32) × (new ≡ record old { drawn = new.drawn })

-- the services of a shared store are told by their passes
abbrev pub own_pass : Pass → Pass
own_pass pass = pass

-- A listener over a shared store ended with this status, and told its line, over a spawner that never fails and of which nothing is said: the
-- acceptor and the pass are told before and after. Of the pass others were split, and nothing else (`pass`); where a connection was refused
-- no number was left (`passes_out`).
pub record ListenedOver {A K V H : Type 0} (pass_of : V → Pass) (by : Accepting A K) (on_error : H)
    (old new : A × Pass) (said told : Output) (status : ℕ) : Type 0 where
  pub error : ServeError PassesOut
  pub is : status ≡ listener_status_of error
  pub tells : Reports said told (listener_line_of error)
  pub accepts : Accepts (parts_over {H = H} (OpensPass pass_of) by) never_set on_error (without old) tt (without new) tt (Err error)
  pub accept_fault : error ≡ AcceptFault → Rose (by.faults old.0) (by.faults new.0)
  pub spawns : error ≢ SpawnFault
  pub pass : new.1 ≡ record old.1 { drawn = new.1.drawn }
  pub passes_out : (none_left : PassesOut) → error ≡ Connect none_left → new.1.drawn ≡ 2 ^ 32
