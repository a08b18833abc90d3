use Rattle.std.proofs.Common.{◌+◌, ◌∙◌, ap, take, drop, refl}
use Rattle.std.specs.Prelude.{slice_index}
use Rattle.modbus_client.specs.Rtu.{slave_seen}
use Rattle.modbus_client.proofs.Looking.{looks_on, looks_reply, looks_crowd}
use Rattle.modbus_client.proofs.rtu.FramesRawProtocol.look_raw.Goals as goal

pub returns-in-Ok-None-clause-looks : goal.returns-in-Ok-None-clause-looks
returns-in-Ok-None-clause-looks c = λ bytes cuts earlier more s is some.
    let reads = (rw c.in-Ok-None.field-0-is at c.in-Ok-None.ensures).reads in
    looks_on c.responses_by_front.ensures.end bytes cuts earlier s more c.args.held.now.items is some reads.0 c.take_raw_frame.new.held.items reads.1 reads.2

pub returns-in-Ok-Some-clause-looks : goal.returns-in-Ok-Some-clause-looks
returns-in-Ok-Some-clause-looks c = λ bytes cuts earlier more s is some.
    let (start, n, next, from, means, rest) = (rw c.in-Ok-Some.field-0-is at c.in-Ok-Some.ensures).reads in
    (take n (drop (start + 1) c.args.held.now.items), looks_reply c.responses_by_front.ensures.end bytes cuts earlier s more c.args.held.now.items is some start n c.seen.result c.take_raw_frame.new.held.items next (c.seen.ensures ∙ ap slave_seen from) rest, means)

pub returns-in-Err-TooManyRetries-clause-looks : goal.returns-in-Err-TooManyRetries-clause-looks
returns-in-Err-TooManyRetries-clause-looks c = λ bytes cuts earlier more s is some.
    let reads = (rw c.in-Err-TooManyRetries.field-0-is at c.in-Err-TooManyRetries.ensures).reads in
    looks_crowd c.responses_by_front.ensures.end bytes cuts earlier s more c.args.held.now.items is some c.take_raw_frame.new.held.items reads.0 reads.1

pub returns-in-Err-Invalid-clause-looks : goal.returns-in-Err-Invalid-clause-looks
returns-in-Err-Invalid-clause-looks c = λ bytes cuts earlier more s is some.
    let (start, n, next, means, rest) = (rw c.in-Err-Invalid.field-0-is at c.in-Err-Invalid.ensures).reads in (
      slave_seen (slice_index c.args.held.now.items start),
      take n (drop (start + 1) c.args.held.now.items),
      looks_reply c.responses_by_front.ensures.end bytes cuts earlier s more c.args.held.now.items is some start n (slave_seen (slice_index c.args.held.now.items start)) c.take_raw_frame.new.held.items next refl rest,
      means,
    )

pub returns-in-Err-NoMemory-clause-looks : goal.returns-in-Err-NoMemory-clause-looks
returns-in-Err-NoMemory-clause-looks c = λ bytes cuts earlier more s is some.
    let (start, n, next, carries, stays) = (rw c.in-Err-NoMemory.field-0-is at c.in-Err-NoMemory.ensures).reads in (
      drop (start + (n + 3)) c.args.held.now.items,
      slave_seen (slice_index c.args.held.now.items start),
      take n (drop (start + 1) c.args.held.now.items),
      looks_reply c.responses_by_front.ensures.end bytes cuts earlier s more c.args.held.now.items is some start n (slave_seen (slice_index c.args.held.now.items start)) (drop (start + (n + 3)) c.args.held.now.items) next refl refl,
      carries,
    )
