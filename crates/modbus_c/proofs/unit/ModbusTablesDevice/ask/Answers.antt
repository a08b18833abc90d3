use Rattle.modbus_frame.specs.Meaning.{meaning}
use Rattle.modbus_c.specs.Units.{tables_in}
use Rattle.modbus_c.proofs.Answering.{told_fits}
use Rattle.modbus_c.proofs.unit.ModbusTablesDevice.ask.Goals as goal

pub returns-clause-fits : goal.returns-clause-fits
returns-clause-fits c = told_fits c.answers_fit.ensures c.args.slave (meaning c.args.request) c.ask_tables.result (tables_in c.args.self.now) (tables_in c.ask_tables.new.tables)
    c.ask_tables.ensures.tells.1
