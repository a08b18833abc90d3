use Rattle.modbus_rtu.proofs.Verdicts.{verdict-drop, verdict-past, good_within}
use Rattle.modbus_rtu.proofs.laws.verdicts_by_offset.Goals as goal

pub returns-clause-from : goal.returns-clause-from
returns-clause-from c = verdict-drop

pub returns-clause-end : goal.returns-clause-end
returns-clause-end c = verdict-past

pub returns-clause-whole : goal.returns-clause-whole
returns-clause-whole c = good_within
