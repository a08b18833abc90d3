use Rattle.std.proofs.Common.{◌≤◌, ◌++◌, length, take, drop, arith, sym, ◌∙◌, length-append}
use Rattle.std.proofs.lemmas.List.{take-append-le}
use Rattle.modbus_adapter.proofs.Echoes.{drops_none, drops_stray, ended_at, some_of}
use Rattle.modbus_adapter.proofs.echo.next_echo.Goals as goal

pub returns-in-Ok-Pending-clause-brings : goal.returns-in-Ok-Pending-clause-brings
returns-in-Ok-Pending-clause-brings g c =
    let found = rw c.in-Ok-Pending.field-0-is at c.in-Ok-Pending.ensures in
    record { drops = drops_none _ _ _ found.source (λ told. (found.told told).bytes); why = tt }

pub returns-in-Ok-Ready-eq0-clause-brings : goal.returns-in-Ok-Ready-eq0-clause-brings
returns-in-Ok-Ready-eq0-clause-brings g c =
    let one = rw c.in-Ok-Ready-eq0.field-0-is at c.in-Ok-Ready-eq0.ensures in
    let found = rw c.in-Ok-Ready-eq0.field-0-0-test at one in
    record { drops = drops_none _ _ _ found.source (λ told. (found.told told).bytes); why = ended_at _ _ _ _ found.source found.told }

pub returns-else-take_off-clause-brings : goal.returns-else-take_off-clause-brings
returns-else-take_off-clause-brings g c =
    let found = rw c.in-Ok-Ready.field-0-is at c.in-Ok-Ready.ensures in
    let count = c.in-Ok-Ready.count in
    let piece = c.poll_counted.new.room in
    let rest = drop c.cut-end.result c.args.room.now in
    let within : count ≤ length piece = found.bound.0 in
    let whole : count ≤ length (piece ++ rest) = omega (arith, within, length-append piece rest) in
    let some = some_of count (piece ++ rest) whole (λ none. c.in-Ok-Ready.count-test.1 none) in
    record {
      drops = drops_stray _ _ _ _ (take count (piece ++ rest)) found.source (λ told. (found.told told).bytes ∙ sym (take-append-le count piece rest within))
          (c.take_off.ensures.differs c.if-take_off.false) (c.take_off.ensures.forgotten c.if-take_off.false) some;
      why = (whole, some);
    }
