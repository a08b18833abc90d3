use Rattle.std.proofs.Common.{◌≡◌, subst}
use Rattle.modbus_client.proofs.context.ContextClient.timeout.Goals as goal

pub returns : goal.returns
returns g c = subst (λ object. c.timeout.result ≡ (goal.Client-dyn g object).Client.time_limit object.1) c.as_ref.ensures.1 c.timeout.ensures
