use Rattle.modbus_echo.proofs.Within.{moved_front}
use Rattle.modbus_echo.proofs.bytes.drop_front.Goals as goal

pub returns-clause-moved : goal.returns-clause-moved
returns-clause-moved c = moved_front c.args.room.now c.copy_within.new.self c.args.front c.args.count c.requires.front c.requires.count c.copy_within.ensures.after
