-- A client of one of four types: what it does is what the client in it does, and it stays of its type.
use Rattle.std.specs.Prelude.{ℕ, Option, Result}
use Rattle.std.specs.declared.time.Duration.{Duration}
use Rattle.modbus_frame.specs.Meaning.{Asked}
use Rattle.modbus_frame.specs.declared.fault.ShutdownFault.{ShutdownFault}
use Rattle.modbus_client.specs.Matches.{Answer}
use Rattle.modbus_plant.specs.declared.linked_client.LinkedClient.{LinkedClient}
use Rattle.modbus_plant.specs.declared.linked_client.LinkedClient.TheVariants.{Tcp, RtuOverTcp, Serial, Echoed}

-- what is told of a client of each type
pub record Told (T R S E A : Type 0) : Type 0 where
  pub by_tcp : T → A
  pub by_rtu : R → A
  pub by_serial : S → A
  pub by_echoed : E → A

-- what is told of the client in it
abbrev pub told_of : {T R S E A : Type 0} → Told T R S E A → LinkedClient T R S E → A
told_of told (Tcp client) = told.by_tcp client
told_of told (RtuOverTcp client) = told.by_rtu client
told_of told (Serial client) = told.by_serial client
told_of told (Echoed client) = told.by_echoed client

-- how two clients of each type are related
pub record Relations (T R S E : Type 0) : Type 1 where
  pub by_tcp : T → T → Type 0
  pub by_rtu : R → R → Type 0
  pub by_serial : S → S → Type 0
  pub by_echoed : E → E → Type 0

-- Two clients of the same type are related as clients of that type are. Clients of two types are not.
abbrev pub Related : {T R S E : Type 0} → Relations T R S E → LinkedClient T R S E → LinkedClient T R S E → Type 0
Related relations (Tcp old) (Tcp new) = relations.by_tcp old new
Related relations (RtuOverTcp old) (RtuOverTcp new) = relations.by_rtu old new
Related relations (Serial old) (Serial new) = relations.by_serial old new
Related relations (Echoed old) (Echoed new) = relations.by_echoed old new
Related relations _ _ = ⊥

-- what a call may lead to
abbrev pub Calling : Type 0 → Type 1
Calling C = C → Asked → Answer → C → Type 0

abbrev pub calls_as : {T R S E : Type 0} → Calling T → Calling R → Calling S → Calling E → Calling (LinkedClient T R S E)
calls_as tcp rtu serial echoed old asked answer new = Related (record {
  by_tcp = λ a b. tcp a asked answer b;
  by_rtu = λ a b. rtu a asked answer b;
  by_serial = λ a b. serial a asked answer b;
  by_echoed = λ a b. echoed a asked answer b;
}) old new

-- what a disconnection may lead to
abbrev pub Disconnecting : Type 0 → Type 1
Disconnecting C = C → Result (Unit {0}) ShutdownFault → C → Type 0

abbrev pub disconnects_as : {T R S E : Type 0} → Disconnecting T → Disconnecting R → Disconnecting S → Disconnecting E → Disconnecting (LinkedClient T R S E)
disconnects_as tcp rtu serial echoed old result new = Related (record {
  by_tcp = λ a b. tcp a result b;
  by_rtu = λ a b. rtu a result b;
  by_serial = λ a b. serial a result b;
  by_echoed = λ a b. echoed a result b;
}) old new

-- the timeout that was set last
abbrev pub Limited : Type 0 → Type 0
Limited C = C → Option Duration

abbrev pub limit_of : {T R S E : Type 0} → Limited T → Limited R → Limited S → Limited E → Limited (LinkedClient T R S E)
limit_of tcp rtu serial echoed = told_of (record { by_tcp = tcp; by_rtu = rtu; by_serial = serial; by_echoed = echoed })

-- what setting a timeout may lead to
abbrev pub Limiting : Type 0 → Type 1
Limiting C = C → Option Duration → C → Type 0

abbrev pub limits_as : {T R S E : Type 0} → Limiting T → Limiting R → Limiting S → Limiting E → Limiting (LinkedClient T R S E)
limits_as tcp rtu serial echoed old timeout new = Related (record {
  by_tcp = λ a b. tcp a timeout b;
  by_rtu = λ a b. rtu a timeout b;
  by_serial = λ a b. serial a timeout b;
  by_echoed = λ a b. echoed a timeout b;
}) old new

-- the slave that requests go to
abbrev pub Selected : Type 0 → Type 0
Selected C = C → ℕ

abbrev pub selects_of : {T R S E : Type 0} → Selected T → Selected R → Selected S → Selected E → Selected (LinkedClient T R S E)
selects_of tcp rtu serial echoed = told_of (record { by_tcp = tcp; by_rtu = rtu; by_serial = serial; by_echoed = echoed })

-- what selecting one may lead to
abbrev pub Selecting : Type 0 → Type 1
Selecting C = C → ℕ → C → Type 0

abbrev pub sets_slave : {T R S E : Type 0} → Selecting T → Selecting R → Selecting S → Selecting E → Selecting (LinkedClient T R S E)
sets_slave tcp rtu serial echoed old slave new = Related (record {
  by_tcp = λ a b. tcp a slave b;
  by_rtu = λ a b. rtu a slave b;
  by_serial = λ a b. serial a slave b;
  by_echoed = λ a b. echoed a slave b;
}) old new
