use Rattle.modbus_example.proofs.Bytes.{unbroken, next}
use Rattle.modbus_example.proofs.single.SinglesFraming.laws.Goals as goal

pub returns-clause-calm : goal.returns-clause-calm
returns-clause-calm c = unbroken

pub returns-clause-next : goal.returns-clause-next
returns-clause-next c = next
