use Rattle.std.proofs.Common.{[], ◌∷◌, ◌++◌, ◌∙◌, ap, length}
use Rattle.modbus_pdu.specs.ResponseOf.{response_result_of}
use Rattle.modbus_ascii.specs.Frames.{frames}
use Rattle.modbus_ascii_client.specs.Frames.{others_before, counted}
use Rattle.modbus_ascii_client.proofs.Finding.{looks-on, count-on}
use Rattle.modbus_ascii_client.proofs.client.FramesProtocol.look.Goals as goal

pub returns-clause-looks : goal.returns-clause-looks
returns-clause-looks c = λ bytes cuts earlier more s is some.
    looks-on c.open_frames_go_on.ensures.delivers c.open_frames_go_on.ensures.left response_result_of c.args.asked bytes (cuts ++ length (bytes ++ more) ∷ []) earlier more c.args.held.now.items c.look_by.new.held.items c.look_by.result s is c.look_by.ensures.looks

pub returns-clause-counts : goal.returns-clause-counts
returns-clause-counts c = λ bytes cuts earlier more s is some counts.
    count-on c.open_frames_go_on.ensures.delivers c.args.asked.slave_id bytes earlier more s c.self.inside.dropped (counted (others_before c.args.asked.slave_id (frames c.args.held.now.items))) c.look_by.new.dropped
    (c.self.view_is ∙ counts) (ap (λ x. counted (others_before c.args.asked.slave_id (frames x))) is) c.look_by.ensures.counts
