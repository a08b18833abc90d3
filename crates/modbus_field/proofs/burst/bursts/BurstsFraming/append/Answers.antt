use Rattle.std.proofs.Common.{◌≡◌, ◌++◌, ◌∷◌, ◌∙◌, [], length, ap, sym, subst}
use Rattle.modbus_field.specs.BurstFraming.{StandsFor}
use Rattle.modbus_field.proofs.Reading.{grown}
use Rattle.modbus_field.proofs.burst.bursts.BurstsFraming.append.Goals as goal

pub returns-clause-grows : goal.returns-clause-grows
returns-clause-grows c = λ bytes cuts taken s some.
    let piece = c.args.piece.now in
    let same : c.extend_reserved.new.self.items ≡ piece = c.extend_reserved.ensures.items ∙ ap (λ front. front ++ piece) c.clear.ensures.items in
    subst (λ held. StandsFor (bytes ++ piece) (cuts ++ length (bytes ++ piece) ∷ []) held taken) (sym same)
    (grown bytes cuts piece taken (subst (λ held. StandsFor bytes cuts held taken) c.requires.waits s) some)
