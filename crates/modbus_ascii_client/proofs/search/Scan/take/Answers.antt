use Rattle.std.proofs.Common.{[], ◌∷◌, ◌++◌, arith, length-append}
use Rattle.modbus_ascii_client.proofs.Scanning.{other-frame, other-counted}
use Rattle.modbus_ascii_client.proofs.search.Scan.take.Goals as goal

pub returns-else-frame-slave : goal.returns-else-frame-slave
returns-else-frame-slave c = λ seen s.
    let b = c.args.byte in
    let now = seen ++ b ∷ [] in
    let frame = c.in-Some.frame in
    let gives = c.in-Some.ensures.gives seen s.decodes in
    let reads = c.feed-ended.ensures.reads seen s.decodes in
    record {
      decodes = reads;
      fed = omega (arith, s.fed, length-append seen (b ∷ []));
      opens = c.start_after-self.ensures seen s.fed s.opens reads;
      others = other-frame c.args.slave frame.slave frame.pdu.items seen now c.if-frame-slave.false gives s.others;
      counts = other-counted frame.slave frame.pdu.items seen now _ _ gives s.counts c.saturating_add-self.ensures;
    }
