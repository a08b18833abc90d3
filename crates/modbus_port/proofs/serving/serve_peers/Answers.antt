use Rattle.std.proofs.Common.{subst}
use Rattle.modbus_port.specs.Listen.{ListenedOver}
use Rattle.modbus_port.specs.Port.{Port, port_accepting}
use Rattle.modbus_port.proofs.serving.serve_peers.Goals as goal

-- the acceptor that served is that of these peers
pub returns : goal.returns
returns g c =
    let ended = c.serve_in_threads-listening.result in (
      ended.0.acceptor,
      subst (λ (port : Port). ListenedOver g.S.Services.opens port_accepting (record { status_of = g.S.Services.status_of; line_of = g.S.Services.line_of }) c.args.on_process_error
          (port, c.args.services) (ended.0.acceptor, ended.0.services) (g.E.Ends.output c.args.errors, g.E.Ends.output ended.0.errors) ended.1)
          c.accept_port.ensures c.serve_in_threads-listening.ensures,
    )
