use Rattle.std.proofs.Common.{[], sym}
use Rattle.modbus_ascii.proofs.Scanning.{colon-open, colon-quiet, nothing-open, nothing-quiet}
use Rattle.modbus_ascii.proofs.scan.Scan.begin.Goals as goal

pub returns-then-within-clause-seen : goal.returns-then-within-clause-seen
returns-then-within-clause-seen c =
    rw c.if-within.true
    (record { decodes = c.take.ensures.reads [] c.new.ensures; «open» = sym colon-open; found = colon-quiet; closed = λ e. cc e })

pub returns-else-within-clause-seen : goal.returns-else-within-clause-seen
returns-else-within-clause-seen c =
    rw c.if-within.false (record { decodes = c.new.ensures; «open» = sym nothing-open; found = nothing-quiet; closed = λ e. cc e })
