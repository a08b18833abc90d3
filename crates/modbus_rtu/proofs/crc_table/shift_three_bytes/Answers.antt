use Rattle.modbus_rtu.proofs.Table.{entry_of_three}
use Rattle.modbus_rtu.proofs.crc_table.shift_three_bytes.Goals as goal

pub returns : goal.returns
returns c = entry_of_three _ _ c.requires c.from.ensures
