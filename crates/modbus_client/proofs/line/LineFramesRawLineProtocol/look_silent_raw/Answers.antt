use Rattle.modbus_client.specs.Raw.{raw_result_of}
use Rattle.modbus_client.proofs.LineLooks.{silent_looks}
use Rattle.modbus_client.proofs.line.LineFramesRawLineProtocol.look_silent_raw.Goals as goal

pub returns-clause-looks : goal.returns-clause-looks
returns-clause-looks c = λ bytes cuts s.
    silent_looks raw_result_of c.args.asked bytes cuts c.args.held.now.items s c.look_by.new.held.items c.self.inside.others c.look_by.new.others c.look_by.result c.look_by.ensures.looks
