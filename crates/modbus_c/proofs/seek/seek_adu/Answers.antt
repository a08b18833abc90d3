use Rattle.std.proofs.Common.{◌+◌, ◌-◌, length, take, drop, refl}
use Rattle.modbus_c.proofs.Dropping.{rest_of, own_adu, foreign_behind}
use Rattle.modbus_c.proofs.seek.seek_adu.Goals as goal

pub returns-in-Ok-Message-clause-finds : goal.returns-in-Ok-Message-clause-finds
returns-in-Ok-Message-clause-finds c =
    let bytes = c.args.bytes.now in let start = c.end_of_others-start.result in let (adus, drops) = c.end_of_others-start.ensures.dropped in
    let found = rw c.in-Ok-Message.field-0-is at c.in-Ok-Message.ensures.finds in
    own_adu c.args.asked bytes (take (length bytes - start) (drop start bytes)) _ start c.in-Ok-Message.end (start + c.in-Ok-Message.end) c.in-Ok-Message.header c.seen_of.result adus
    (rest_of bytes start) drops c.end_of_others-start.ensures.all found.0 refl c.seen_of.ensures

pub returns-in-Err-InvalidProtocol-clause-finds : goal.returns-in-Err-InvalidProtocol-clause-finds
returns-in-Err-InvalidProtocol-clause-finds c =
    let bytes = c.args.bytes.now in let start = c.end_of_others-start.result in let (adus, drops) = c.end_of_others-start.ensures.dropped in
    foreign_behind c.args.asked bytes (take (length bytes - start) (drop start bytes)) start (start + 7) _ adus
    (rest_of bytes start) drops (rw c.in-Err-InvalidProtocol.field-0-is at c.in-Err-InvalidProtocol.ensures.finds) refl
