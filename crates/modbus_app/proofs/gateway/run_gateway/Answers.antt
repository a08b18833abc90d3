use Rattle.std.proofs.Common.{subst, ◌-◌, ◌^◌, refl}
use Rattle.modbus_link.specs.Line.{meaning_of}
use Rattle.modbus_server.specs.Moment.{moment}
use Rattle.modbus_gateway.specs.Forwarded.{Forwarded}
use Rattle.modbus_app.specs.Ends.{EndsBy}
use Rattle.modbus_app.specs.Gateway.{lent_link}
use Rattle.modbus_app.proofs.gateway.run_gateway.Goals as goal

pub returns-clause-ends : goal.returns-clause-ends
returns-clause-ends g c =
    let M = lent_link (meaning_of g.L.Ends.input g.L.Ends.output g.L.Ends.line) in
    let from = g.S.Ends.input c.args.source.now in
    let to = g.S.Ends.input c.forward_client.new.source in
    let sunk = g.K.Ends.output c.args.sink.now in
    let sinks = g.K.Ends.output c.forward_client.new.sink in
    let said = g.E.Ends.output c.args.errors.now in
    let told = g.E.Ends.output c.forward_client.new.errors in (
      _,
      c.forward_client.new.line,
      subst (λ start. EndsBy (Forwarded M (2 ^ 64 - 1) (moment start from sunk) (moment c.forward_client.new.line to sinks)) said told c.forward_client.result)
          c.attach-line.ensures c.forward_client.ensures.ends,
      refl,
    )
