use Rattle.modbus_client.proofs.Boxing.{put_back}
use Rattle.modbus_client.proofs.context.ContextClient.set_timeout.Goals as goal

pub returns-clause-limits : goal.returns-clause-limits
returns-clause-limits g c =
    put_back c.args.self.now (λ object next. (goal.Client-dyn g object).Client.limits object.1 c.args.duration next) c.as_mut.result.now c.set_timeout.new.self c.as_mut.ensures.value.1 c.set_timeout.ensures.1
