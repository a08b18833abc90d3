use Rattle.modbus_rtu.proofs.Table.{entry}
use Rattle.modbus_rtu.proofs.crc_table.shift_byte.Goals as goal

pub returns : goal.returns
returns c = entry _ _ c.requires c.from.ensures
