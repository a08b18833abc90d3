-- Reads of the tables of a device, until they stop.
use Rattle.std.proofs.Common.{◌≡◌, List, Result, Ok, Err, refl, sym, subst}
use Rattle.std.specs.Result.{IfErr, IsErrAnd}
use Rattle.modbus_poll.specs.declared.read.Read.{Read}
use Rattle.modbus_map.specs.declared.kind.Table.{Table}
use Rattle.modbus_map.specs.declared.tables.Tables.{Tables}
use Rattle.modbus_map.specs.declared.gathering.TableError.{TableError}
use Rattle.modbus_map.specs.Asking.{AsksTable, Stops}
use Rattle.modbus_map.specs.Gathering.{of_table, Answering, ReadsBefore, StopsBehind, StopsIn}

module _ {S : Type 0} (answers : Answering S) (old before new : S) (plans : Tables (List Read)) (table : Table) where
  stop_in : (stop : TableError) → stop.table ≡ table → ReadsBefore answers table old plans before → Stops (AsksTable answers table) before (of_table plans table) stop.error new
      → StopsIn answers old plans stop new
  stop_in stop is earlier stopped =
      subst (λ (table : Table). StopsBehind answers old plans table stop.error new) (sym is) (record { before = before; earlier = earlier; stopped = stopped })

  -- what stands after a result that tells this stop
  pub stops_with : {B : Type 0} (stop : TableError) (result : Result B TableError) → IsErrAnd result (λ told. told ≡ stop) → stop.table ≡ table
      → ReadsBefore answers table old plans before → Stops (AsksTable answers table) before (of_table plans table) stop.error new
      → IfErr result (λ told. StopsIn answers old plans told new)
  stops_with stop (Ok x) told is earlier stopped = tt
  stops_with stop (Err e) told is earlier stopped = subst (λ (e : TableError). StopsIn answers old plans e new) (sym told) (stop_in stop is earlier stopped)
