use Rattle.modbus_rtu.proofs.Table.{entry_of_four}
use Rattle.modbus_rtu.proofs.crc_table.shift_four_bytes.Goals as goal

pub returns : goal.returns
returns c = entry_of_four _ _ c.requires c.from.ensures
