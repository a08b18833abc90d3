use Rattle.std.proofs.Common.{◌∙◌, arith, sym, drop, length-append, length-take}
use Rattle.modbus_reconnect.proofs.Dropping.{hushed_more, drops_bytes, drops_none, ended_at}
use Rattle.modbus_reconnect.proofs.settling.drop_next.Goals as goal

pub returns-in-Ok-Ready-eq0-clause-drops : goal.returns-in-Ok-Ready-eq0-clause-drops
returns-in-Ok-Ready-eq0-clause-drops g c =
    let one = rw c.in-Ok-Ready-eq0.field-0-is at c.in-Ok-Ready-eq0.ensures in
    let found = rw c.in-Ok-Ready-eq0.field-0-0-test at one in
    let h = c.silences.invariant.hushed in
    drops_none c.args.silences c.silences._told c.args.most _ _ _ _ _ _ _ h found.source
    (λ told. (found.told told).bytes)
    (ended_at _ _ _ _ _ h.source found.source found.told)
    found.later

pub returns-in-Ok-Ready-clause-drops : goal.returns-in-Ok-Ready-clause-drops
returns-in-Ok-Ready-clause-drops g c =
    let found = rw c.in-Ok-Ready.field-0-is at c.in-Ok-Ready.ensures in
    drops_bytes c.args.silences c.silences._told c.args.most c.in-Ok-Ready.count _ _ _ _ _ _ _ c.silences.invariant.hushed found.source
    (λ told. (found.told told).bytes)
    (sym found.bound.1) (let few = found.bound.0 in let size = c.poll_read.auto.room in let least = c.min-len.ensures in let front = length-take c.min-len.result c.silences.room in omega (arith, few, size, least, front)) (λ none. c.in-Ok-Ready.count-test.1 none) found.later

pub returns-in-Err-clause-drops : goal.returns-in-Err-clause-drops
returns-in-Err-clause-drops g c =
    let found = c.in-Err.ensures in
    let h = c.silences.invariant.hushed in
    drops_none c.args.silences c.silences._told c.args.most _ _ _ _ _ _ _ h found.source
    (λ told. (found.told told).bytes)
    (let l = h.source.later in let r = found.cause in omega (arith, l, r))
    found.later

pub silences-preserved : goal.silences-preserved
silences-preserved g c =
    let found = rw c.in-Ok-Pending.field-0-is at c.in-Ok-Pending.ensures in
    record {
      hushed = hushed_more c.silences._told _ _ _ _ _ _ c.silences.invariant.hushed found.source (λ told. (found.told told).bytes) found.waited found.later;
      sink = found.sink ∙ c.silences.invariant.sink;
      line = found.line ∙ c.silences.invariant.line;
      room = let n = length-append c.poll_read.new.room (drop c.min-len.result c.silences.room) in let size = c.poll_read.auto.room in let front = length-take c.min-len.result c.silences.room in let room = c.silences.invariant.room in omega (arith, n, size, front, room);
    }
