use Rattle.modbus_pdu.specs.ResponseOf.{response_result_of}
use Rattle.std.proofs.Common.{[], ◌∷◌, ◌++◌, length, ◌∙◌}
use Rattle.modbus_client.specs.LineReading.{stream_verdict}
use Rattle.modbus_client.proofs.StreamVerdict.{stream_passed, stream_within}
use Rattle.modbus_client.proofs.LineLooks.{more_looks, more_counts}
use Rattle.modbus_client.proofs.stream.StreamFramesProtocol.look.Goals as goal

pub returns-clause-looks : goal.returns-clause-looks
returns-clause-looks c = λ bytes cuts earlier more s is some.
    more_looks stream_verdict c.args.asked (stream_passed c.args.asked.slave_id) (stream_within c.args.asked.slave_id) response_result_of bytes cuts earlier more c.args.held.now.items s is (cuts ++ length (bytes ++ more) ∷ []) c.look_by.new.held.items c.self.inside.others c.look_by.new.others c.look_by.result c.look_by.ensures.looks

pub returns-clause-counts : goal.returns-clause-counts
returns-clause-counts c = λ bytes cuts earlier more s is some counts.
    more_counts stream_verdict c.args.asked (stream_passed c.args.asked.slave_id) (stream_within c.args.asked.slave_id) response_result_of bytes cuts earlier more c.args.held.now.items s is c.look_by.new.held.items c.self.inside.others c.look_by.new.others c.look_by.result c.look_by.ensures.looks (c.self.view_is ∙ counts)
