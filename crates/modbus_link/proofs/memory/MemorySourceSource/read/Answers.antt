use Rattle.std.proofs.Common.{rules, ◌-◌, refl, ◌∙◌, ◌≡◌, arith, ◌≤◌, ◌+◌, length, ◌==◌}
use Rattle.std.proofs.lemmas.Grind.{common_steps}
use Rattle.modbus_link.proofs.OneRead.{read-gives, read-bytes, read-cuts, read-not_ended}
use Rattle.modbus_link.proofs.memory.MemorySourceSource.read.Goals as goal

pub returns-clause-source : goal.returns-clause-source
returns-clause-source c = rw (← c.self.view_is) (
    let within : c.next_end-end.result ≤ length c.self.inside.input.items =
    grind (arith, common_steps, c.next_end-end.ensures.at_most, c.self.invariant.within, c.self.inside.input.ok.0) in
    record {
      told = refl;
      later = omega arith;
      names = refl;
      sure = refl;
      no_fault = λ sure. refl;
      content = λ told. read-gives _ _ _ _ _ (length c.args.room.now) c.self.inside.faults (length c.self.inside.fails.items == 0) c.next_end-end.ensures.above within c.push_reserved.ensures.items;
    })

pub returns-clause-told : goal.returns-clause-told
returns-clause-told c = rw (← c.self.view_is) (λ told.
    let within : c.next_end-end.result ≤ length c.self.inside.input.items =
    grind (arith, common_steps, c.next_end-end.ensures.at_most, c.self.invariant.within, c.self.inside.input.ok.0) in
    record {
      bytes = read-bytes _ _ _ _ _ (length c.args.room.now) c.self.inside.faults (length c.self.inside.fails.items == 0) c.next_end-end.ensures.above within c.push_reserved.ensures.items ∙ grind (arith, common_steps);
      cuts = read-cuts _ _ _ _ _ (length c.args.room.now) c.self.inside.faults (length c.self.inside.fails.items == 0) c.next_end-end.ensures.above within c.push_reserved.ensures.items;
      rest = grind (arith, common_steps);
      ended = read-not_ended _ _ _ _ _ (length c.args.room.now) c.self.inside.faults (length c.self.inside.fails.items == 0) c.next_end-end.ensures.above within c.push_reserved.ensures.items;
    })

pub returns-clause-reads : goal.returns-clause-reads
returns-clause-reads c = rw (← c.self.view_is) (
    let end : c.self.inside.given + (c.next_end-end.result - c.self.inside.given) ≡ c.next_end-end.result = omega (arith, c.next_end-end.ensures.above) in
    record {
      fails = search rules;
      most = record {
        passes_none = rw (end, ← c.deref-2.ensures.value) c.next_end-end.ensures.passes_none;
        most = λ less. rw (end, ← c.deref-2.ensures.value) (c.next_end-end.ensures.most (omega (arith, c.self.inside.input.ok.0, c.self.invariant.within)));
      };
      keeps = search rules;
      counts = refl;
    })
