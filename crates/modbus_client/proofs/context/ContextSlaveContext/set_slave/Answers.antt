use Rattle.modbus_client.proofs.Boxing.{put_back}
use Rattle.modbus_client.proofs.context.ContextSlaveContext.set_slave.Goals as goal

pub returns-clause-gives : goal.returns-clause-gives
returns-clause-gives g c =
    put_back c.args.self.now (λ object next. (goal.Client-dyn g object).SlaveContext.set_slave_gives object.1 c.args.slave.0 next) c.as_mut.result.now c.set_slave.new.self c.as_mut.ensures.value.1 c.set_slave.ensures.1
