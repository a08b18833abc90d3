use Rattle.modbus_map.specs.Asking.{AsksTable}
use Rattle.modbus_map.proofs.TableReads.{reads_one}
use Rattle.modbus_map.proofs.given.read_one.Goals as goal

pub returns-in-Ok : goal.returns-in-Ok
returns-in-Ok g c =
    reads_one (AsksTable g.R.Client.answers c.args.table) c.args.reader.now c.ask.new.reader c.args.place c.args.read.now c.in-Ok.answer c.given_by.result
    c.in-Ok.ensures.asked c.given_by.ensures
