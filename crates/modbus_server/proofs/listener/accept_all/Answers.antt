use Rattle.std.proofs.Common.{zero, suc, inl, refl, rules}
use Rattle.modbus_server.proofs.Counting.{none_counted, counted_well, counted_more, counted_last}
use Rattle.modbus_server.proofs.listener.accept_all.Goals as goal

pub accepts-init : goal.accepts-init
accepts-init g c = record {
  hook = search rules;
  can = search rules;
  stops = search rules;
  counted = none_counted _ _ _;
  many = (zero, (refl, refl));
}

pub returns-then-is_set-clause-serves : goal.returns-then-is_set-clause-serves
returns-then-is_set-clause-serves g c =
    let many = c.accepts.invariant.many in
    record {
      finished = λ e. cc;
      aborted = λ e. search rules;
      counted = counted_well _ _ _ _ _ c.accepts.invariant.counted;
      accepts = inl (many.0, _, c.accepts.abort_signal, many.1, (rw c.if-is_set.true at c.is_set.ensures.looks, refl));
    }

pub returns-in-Err-clause-serves : goal.returns-in-Err-clause-serves
returns-in-Err-clause-serves g c =
    let many = c.accepts.invariant.many in
    record {
      finished = λ e. cc;
      aborted = λ e. cc;
      counted = counted_last _ _ _ _ _ _ c.accepts.invariant.counted c.in-Err.ensures.counted;
      accepts = inl (many.0, _, c.accepts.abort_signal, many.1, (rw c.if-is_set.false at c.is_set.ensures.looks, c.in-Err.ensures.accepts_one));
    }

pub accepts-preserved : goal.accepts-preserved
accepts-preserved g c =
    let many = c.accepts.invariant.many in
    record {
      hook = search rules;
      can = search rules;
      stops = search rules;
      counted = counted_more _ _ _ _ _ c.accepts.invariant.counted c.in-Ok.ensures.counted;
      many = (suc many.0, (_, c.accepts.abort_signal, many.1, rw c.if-is_set.false at c.is_set.ensures.looks, c.in-Ok.ensures.accepts_one));
    }
