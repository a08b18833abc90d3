use Rattle.std.proofs.Common.{arith, ap, ◌∙◌, Some}
use Rattle.modbus_store.specs.Legal.{Call}
use Rattle.modbus_store.proofs.Keeps.{counts}
use Rattle.modbus_store.proofs.steps.count_as.Goals as goal

pub fetch_add-requires : goal.fetch_add-requires
fetch_add-requires g c =
    let h = c.requires.turn in
    let m = c.args.seat.now.me in
    let number = ap (λ (x : Call). Some x.number) c.requires.call in
    (c.requires.desk.0, omega arith, counts _ _ c.args.seat.now.id g.E.Adds.added m.0 m.1 h.1.0 _ h.1.1 (h.0.1 ∙ number) h.0.0 c.requires.legal.0 c.requires.legal.1)
