use Rattle.std.proofs.Common.{rules}
use Rattle.modbus_port.proofs.ServingLinks.{same_name, serves}
use Rattle.modbus_port.proofs.listen.serve_links.Goals as goal

pub returns-clause-serves : goal.returns-clause-serves
returns-clause-serves g c =
    let kept = same_name _ (λ (h : _). h.0.ghost_name) (λ old new link address answer by. search rules) c.args.on_process_error _ _ c.in-Err.error c.in-Err.ensures.serves.accepts in
    serves _ g.S.Services.opens (λ (h : _). h.0.now) (λ old new link address answer by. search rules) c.args.on_process_error
    (record { given = g.A.Acceptor.given; accept_faults = g.A.Acceptor.faults; started = g.P.Spawner.started; spawn_faults = g.P.Spawner.faults })
    _ _ c.in-Err.error _ _ c.in-Err.ensures.serves (search rules) (search (rules, kept))
