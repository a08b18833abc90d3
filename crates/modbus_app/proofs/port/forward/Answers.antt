use Rattle.std.proofs.Common.{ap, ◌∙◌}
use Rattle.modbus_link.specs.Memory.{faults_after}
use Rattle.modbus_app.proofs.port.forward.Goals as goal

-- src/port.rt:414:1
pub returns : goal.returns
returns g c =
    let made = c.forward_to.ensures in (
      c.loopback.result,
      c.loopback.ensures,
      c.forward_to.new.connector,
      (made.0, (made.1.0, made.1.1 ∙ ap (λ before. faults_after made.0 before) c.new-connector.ensures), made.2),
    )
