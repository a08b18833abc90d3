use Rattle.modbus_client.proofs.Boxing.{put_back}
use Rattle.modbus_client.proofs.context.ContextClient.disconnect.Goals as goal

pub returns : goal.returns
returns g c =
    put_back c.args.self.now (λ object next. (goal.Client-dyn g object).Client.disconnects object.1 c.disconnect.result next) c.as_mut.result.now c.disconnect.new.self c.as_mut.ensures.value.1 c.disconnect.ensures
