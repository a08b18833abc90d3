use Rattle.modbus_client.specs.Raw.{raw_result_of}
use Rattle.std.proofs.Common.{[], ◌∷◌, ◌++◌, length, ◌∙◌}
use Rattle.modbus_client.specs.LineReading.{line_verdict}
use Rattle.modbus_client.proofs.LineVerdict.{line_decided, line_within}
use Rattle.modbus_client.proofs.LineReads.{passes_decided}
use Rattle.modbus_client.proofs.LineLooks.{more_looks, more_counts}
use Rattle.modbus_client.proofs.line.LineFramesRawProtocol.look_raw.Goals as goal

pub returns-clause-looks : goal.returns-clause-looks
returns-clause-looks c = λ bytes cuts earlier more s is some.
    more_looks (λ asked. line_verdict) c.args.asked (λ adu more p. line_decided adu more (passes_decided p)) line_within raw_result_of bytes cuts earlier more c.args.held.now.items s is (cuts ++ length (bytes ++ more) ∷ []) c.look_by.new.held.items c.self.inside.others c.look_by.new.others c.look_by.result c.look_by.ensures.looks

pub returns-clause-counts : goal.returns-clause-counts
returns-clause-counts c = λ bytes cuts earlier more s is some counts.
    more_counts (λ asked. line_verdict) c.args.asked (λ adu more p. line_decided adu more (passes_decided p)) line_within raw_result_of bytes cuts earlier more c.args.held.now.items s is c.look_by.new.held.items c.self.inside.others c.look_by.new.others c.look_by.result c.look_by.ensures.looks (c.self.view_is ∙ counts)
