use Rattle.std.proofs.Common.{rules, ◌<◌, length}
use Rattle.modbus_example.proofs.Bytes.{takes_first}
use Rattle.modbus_example.proofs.single.SinglesFraming.front.Goals as goal

pub returns-clause-finds : goal.returns-clause-finds
returns-clause-finds c = λ bytes cuts taken s.
    let some : 0 < length c.args.self.now.bytes.items = search rules in
    rw c.as_slice-held.ensures (takes_first bytes cuts c.args.self.now.bytes.items taken some s)
