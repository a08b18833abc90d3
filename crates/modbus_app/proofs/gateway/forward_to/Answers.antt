use Rattle.std.proofs.Common.{subst, ◌-◌, ◌^◌, None, Ok}
use Rattle.modbus_link.specs.Line.{meaning_of}
use Rattle.modbus_gateway.specs.Forwarded.{Forwarded}
use Rattle.modbus_app.specs.Ends.{EndsBy}
use Rattle.modbus_app.proofs.gateway.forward_to.Goals as goal
use Rattle.modbus_server.specs.Moment.{moment}

-- src/gateway.rt:61:1
pub returns-in-Ok : goal.returns-in-Ok
returns-in-Ok g c =
    let M = meaning_of g.C.Link.Ends.input g.C.Link.Ends.output g.C.Link.Ends.line in
    let from = g.S.Ends.input c.args.source.now in
    let to = g.S.Ends.input c.forward_client.new.source in
    let sunk = g.K.Ends.output c.args.sink.now in
    let sinks = g.K.Ends.output c.forward_client.new.sink in
    let said = g.E.Ends.output c.args.errors.now in
    let told = g.E.Ends.output c.forward_client.new.errors in (
      Ok c.in-Ok.link,
      subst (λ given. g.C.Connector.connects c.args.connector.now c.args.line None given c.connect.new.self) c.in-Ok.is c.connect.ensures.connects,
      (
        c.forward_client.new.line,
        subst (λ start. EndsBy (Forwarded M (2 ^ 64 - 1) (moment start from sunk) (moment c.forward_client.new.line to sinks)) said told c.forward_client.result)
            c.attach-client.ensures c.forward_client.ensures.ends,
      ),
    )
