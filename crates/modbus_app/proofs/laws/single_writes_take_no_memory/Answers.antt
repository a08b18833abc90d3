use Rattle.std.proofs.lemmas.List.Elements.{All-weaker}
use Rattle.modbus_rtu.specs.Stands.{frame_at}
use Rattle.modbus_server.specs.Memory.{TakesNone}
use Rattle.modbus_server.specs.Rtu.{rtu}
use Rattle.modbus_store.specs.Step.{device}
use Rattle.modbus_app.specs.Memory.{IsSingleWrite}
use Rattle.modbus_app.proofs.SingleWrites.{takes_none}
use Rattle.modbus_app.proofs.laws.single_writes_take_no_memory.Goals as goal

pub returns : goal.returns
returns c = λ turns before after ran frames stop reading writes.
    c.memory_at_the_opening.ensures turns before after ran frames stop reading
    (All-weaker (λ f. IsSingleWrite (frame_at ran.fed f)) (λ f. TakesNone rtu device (frame_at ran.fed f)) (λ f. takes_none (frame_at ran.fed f)) frames writes)
