use Rattle.std.proofs.Common.{inr, subst, rules}
use Rattle.modbus_app.specs.Listen.{OpensPass, own_pass}
use Rattle.modbus_app.specs.Status.{listener_status_of, listener_line_of}
use Rattle.modbus_port.specs.Listen.{ListenedOver}
use Rattle.modbus_port.specs.Port.{port_accepting, port_at_start}
use Rattle.modbus_app.proofs.Splitting.{listened}
use Rattle.modbus_app.proofs.port.serve_bound.Goals as goal

pub returns : goal.returns
returns g c =
    let ended = c.serve_listener-services.ensures in
    inr (record {
      store = c.in-Ok.table;
      opens = search rules;
      after = (ended.0, c.serve_listener-services.result.0);
      listened = listened own_pass port_accepting c.args.on_process_error _ _ _ _ _
          (subst (λ pass. ListenedOver (OpensPass own_pass) port_accepting (record { status_of = listener_status_of; line_of = listener_line_of }) c.args.on_process_error
          (port_at_start, pass) (ended.0, c.serve_listener-services.result.0) (g.E.Ends.output c.args.errors, g.E.Ends.output c.serve_listener-services.result.1) c.serve_listener-services.result.2)
          (search rules) ended.1);
    })
