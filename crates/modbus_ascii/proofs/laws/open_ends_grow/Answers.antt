use Rattle.modbus_ascii.specs.Limits.{colon}
use Rattle.modbus_ascii.proofs.Ends.{open_end-more}
use Rattle.modbus_ascii.proofs.Scanning.{open-more, frame-closes}
use Rattle.modbus_ascii.proofs.laws.open_ends_grow.Goals as goal

pub returns-clause-begins : goal.returns-clause-begins
returns-clause-begins c = λ bytes. open_end-more bytes colon

pub returns-clause-joins : goal.returns-clause-joins
returns-clause-joins c = open-more

pub returns-clause-closes : goal.returns-clause-closes
returns-clause-closes c = frame-closes
