use Rattle.std.proofs.Common.{◌++◌, ◌∙◌, ap, subst}
use Rattle.modbus_lines.specs.Readings.{IsTextOfFound}
use Rattle.modbus_supervisor.proofs.watched.push_value.Goals as goal

pub returns-clause-line : goal.returns-clause-line
returns-clause-line c = (
  c.in_ok-line.line.items,
  record {
    reading = c.in_ok-reading.reading;
    of_point = c.in_ok-reading.ensures.point;
    of_found = c.in_ok-reading.ensures.found;
    text = subst (λ f. IsTextOfFound f c.args.found c.in_ok-reading.reading.text) c.format.ensures c.in_ok-reading.ensures.text;
    is = c.in_ok-line.ensures;
  },
  c.in_ok-extend_from_slice.ensures.items ∙ ap (λ l. c.args.lines.now.items ++ l) c.as_slice.ensures.value,
)
