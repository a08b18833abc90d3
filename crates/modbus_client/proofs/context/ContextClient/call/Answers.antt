use Rattle.modbus_frame.specs.Meaning.{meaning}
use Rattle.modbus_client.proofs.Boxing.{put_back}
use Rattle.modbus_client.proofs.context.ContextClient.call.Goals as goal

pub returns : goal.returns
returns g c =
    put_back c.args.self.now (λ object next. (goal.Client-dyn g object).Client.answers object.1 (meaning c.args.request) c.call.result next) c.as_mut.result.now c.call.new.self c.as_mut.ensures.value.1 c.call.ensures
