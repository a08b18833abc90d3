use Rattle.std.proofs.Common.{◌≡◌, ◌+◌, take}
use Rattle.modbus_diagnostics.specs.IdentityAnswers.{objects_size, most_objects}
use Rattle.modbus_diagnostics.proofs.identity.stream.count_fitting.Given as goal

abbrev pub invariant-loop-place : goal.invariant-loop-place
invariant-loop-place l = objects_size (take l.place l.objects) + l.room ≡ most_objects
