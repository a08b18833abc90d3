use Rattle.modbus_rtu.proofs.Table.{entry_of_two}
use Rattle.modbus_rtu.proofs.crc_table.shift_two_bytes.Goals as goal

pub returns : goal.returns
returns c = entry_of_two _ _ c.requires c.from.ensures
