use Rattle.modbus_store.specs.Passes.{IsPassOf}
use Rattle.modbus_tests.proofs.store.open_jobs.Given as goal

abbrev pub invariant-loop : goal.invariant-loop
invariant-loop g l = IsPassOf l.table l.first
