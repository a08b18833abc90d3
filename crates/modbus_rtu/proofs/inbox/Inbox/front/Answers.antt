use Rattle.std.proofs.Common.{rules}
use Rattle.modbus_rtu.specs.Front.{FindsFrame}
use Rattle.modbus_rtu.proofs.Finding.{finds_in}
use Rattle.modbus_rtu.proofs.inbox.Inbox.front.Goals as goal

pub returns-clause-stands : goal.returns-clause-stands
returns-clause-stands c =
    let finds : FindsFrame c.args.self.now c.find_in_two.result = search rules in
    finds_in c.args.self.now c.find_in_two.result finds
