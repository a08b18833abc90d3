use Rattle.std.proofs.Common.{◌∙◌, sym, ap, arith}
use Rattle.modbus_ascii.specs.Decoder.{ended}
use Rattle.modbus_ascii.proofs.Pairs.{open-pair, pair-quiet}
use Rattle.modbus_ascii.proofs.scan.Scan.take_pair.Goals as goal

pub returns-clause-seen : goal.returns-clause-seen
returns-clause-seen c = λ taken seen s.
    let told = c.take_pair.ensures in
    let follows = told.follows c.if-not-take_pair.false seen s.decodes in
    let none = c.requires.found in
    record {
      decodes = told.reads c.if-not-take_pair.false seen s.decodes;
      «open» = omega (arith, open-pair seen c.args.high c.args.low follows, c.min.ensures, s.«open»);
      found = pair-quiet seen c.args.high c.args.low follows.digits.0 follows.digits.1 ∙ s.found
          ∙ ap (λ found. ended found c.args.self.now.decoder) none ∙ sym (ap (λ found. ended found c.take_pair.new.self) none);
      closed = λ e. cc (sym none ∙ e);
    }
