use Rattle.std.proofs.Common.{inr, refl}
use Rattle.modbus_server.proofs.Counting.{counted_nothing}
use Rattle.modbus_server.proofs.listener.accept_until.Goals as goal

pub returns-in_default-clause-serves : goal.returns-in_default-clause-serves
returns-in_default-clause-serves g c = record { finished = λ e. cc; aborted = λ e. cc; counted = counted_nothing _ _ _; accepts = inr (refl, refl, refl) }
