use Rattle.std.proofs.Common.{◌∙◌, ◌++◌, ◌∷◌, [], ap}
use Rattle.json.specs.Token.{string}
use Rattle.modbus_lines.proofs.Quoted.{alone}
use Rattle.modbus_lines.proofs.json_lines.quoted.Goals as goal

pub returns : goal.returns
returns c = alone _ _ _ c.args.text.now c.into_inner.ensures.items
    (c.in_ok-string.ensures.room.0 ∙ c.new-writer.ensures.before ∙ c.new.ensures.items)
    (c.in_ok-string.ensures.ok ∙ ap (λ tokens. tokens ++ string c.args.text.now ∷ []) c.new-writer.ensures.tokens)
