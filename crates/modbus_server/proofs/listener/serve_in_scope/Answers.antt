use Rattle.modbus_server.specs.Listener.{as_stopped}
use Rattle.modbus_server.specs.Signal.{never_set}
use Rattle.modbus_server.proofs.Unspawned.{heard}
use Rattle.modbus_server.proofs.listener.serve_in_scope.Goals as goal

pub returns-clause-accepts : goal.returns-clause-accepts
returns-clause-accepts g c =
    heard (record { accepts = g.A.Acceptor.accepts; connects = goal.C-step g; starts = _ }) never_set c.args.on_process_error
    (record { acceptor = c.args.server.now; hook = c.args.on_connected.now; spawner = c.new-spawner.result }) tt
    (record { acceptor = c.serve.new.self; hook = c.serve.new.on_connected; spawner = c.serve.new.spawner }) tt (as_stopped c.serve.result)
    c.serve.ensures.serves.accepts
