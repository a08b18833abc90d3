use Rattle.modbus_ascii.proofs.Scanning.{found-more, closed-more}
use Rattle.modbus_ascii.proofs.scan.Scan.take.Goals as goal

pub returns-clause-seen : goal.returns-clause-seen
returns-clause-seen c = λ seen s.
    let more = c.take-self.ensures.gives seen s.decodes in
    let read = c.take-self.ensures.reads seen s.decodes in
    record {
      decodes = read;
      «open» = c.count-self.ensures seen s.«open» read;
      found = found-more seen c.args.byte c.take-self.result c.args.self.now.found c.args.self.now.decoder c.take-self.new.self c.requires.found s.found more;
      closed = closed-more seen c.args.byte c.take-self.result c.take-self.new.self more;
    }
