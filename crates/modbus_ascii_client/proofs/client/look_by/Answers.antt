use Rattle.std.proofs.Common.{◌≡◌, [], sym, ap, ◌∙◌}
use Rattle.modbus_client.specs.Protocol.{reply}
use Rattle.modbus_client.specs.Rtu.{slave_seen}
use Rattle.modbus_ascii_client.specs.Frames.{reply_of}
use Rattle.modbus_ascii_client.specs.Search.{told_by}
use Rattle.modbus_ascii_client.proofs.Finding.{looks-read}
use Rattle.modbus_ascii_client.proofs.client.look_by.Goals as goal

pub returns-in-Some-clause-looks : goal.returns-in-Some-clause-looks
returns-in-Some-clause-looks g c =
    let frame = c.in-Some.frame in
    let found = c.first_reply-found in
    let told = found.ensures.told ∙ ap (reply_of c.args.asked.slave_id) c.as_slice.ensures in
    let at : reply [] (slave_seen frame.slave) frame.pdu.items ≡ reply_of c.args.asked.slave_id c.args.held.now.items =
    sym (ap (told_by c.as_slice.result.now found.result.start) c.in-Some.is) ∙ told in
    looks-read g.R.Reading.means c.args.asked c.args.held.now.items frame.slave frame.pdu.items c.clear.new.self.items c.read_reply.result at c.clear.ensures.items c.read_reply.ensures
