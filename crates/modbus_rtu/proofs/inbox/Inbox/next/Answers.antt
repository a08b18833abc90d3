use Rattle.modbus_rtu.proofs.Carrying.{stands_after, gives_no_more, gives_open, gives_next, gives_cause}
use Rattle.modbus_rtu.proofs.inbox.Inbox.next.Goals as goal

pub returns-clause-causes : goal.returns-clause-causes
returns-clause-causes c = gives_cause c.args.self.now c.take_next.result c.take_next.new.self c.take_next.ensures.gives

pub returns-clause-shrinks : goal.returns-clause-shrinks
returns-clause-shrinks c = gives_no_more c.args.self.now c.take_next.result c.take_next.new.self c.take_next.ensures.gives

pub returns-clause-open : goal.returns-clause-open
returns-clause-open c = gives_open c.args.self.now c.take_next.result c.take_next.new.self c.take_next.ensures.gives

pub returns-clause-taken : goal.returns-clause-taken
returns-clause-taken c = gives_next c.args.self.now c.take_next.result c.take_next.new.self c.take_next.ensures.gives

pub returns-clause-stands : goal.returns-clause-stands
returns-clause-stands c = stands_after c.args.self.now c.take_next.result c.take_next.new.self c.take_next.ensures.gives
