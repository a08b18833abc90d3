use Rattle.modbus_port.proofs.Unspawned.{in_either, listened, stays}
use Rattle.modbus_port.proofs.serving.listen_in_scope.Goals as goal

pub returns : goal.returns
returns g c = in_either c.args.framing
    (λ e. listened _ _ _ _ _ _ _ _ _ _ (c.run_listen.ensures.rtu e) stays)
    (λ e. listened _ _ _ _ _ _ _ _ _ _ (c.run_listen.ensures.tcp e) stays)
