use Rattle.std.proofs.Common.{refl}
use Rattle.modbus_ascii_client.proofs.Scanning.{opens-nothing, no-others, none-yet}
use Rattle.modbus_ascii_client.proofs.search.Scan.new.Goals as goal

pub returns : goal.returns
returns c = record { decodes = c.new.ensures; fed = refl; opens = opens-nothing; others = no-others c.args.slave; counts = none-yet }
