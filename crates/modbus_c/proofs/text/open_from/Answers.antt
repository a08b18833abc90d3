use Rattle.std.proofs.Common.{[], ◌∷◌, ◌++◌, sym, arith}
use Rattle.modbus_c.proofs.Texts.{begins_at, begins_still}
use Rattle.modbus_c.proofs.text.open_from.Goals as goal

pub returns-then-byte-eq-COLON-clause-begins : goal.returns-then-byte-eq-COLON-clause-begins
returns-then-byte-eq-COLON-clause-begins c = λ fed size begins decodes. begins_at c.open_ends_grow.ensures.begins fed c.args.byte c.args.place (sym size) c.if-byte-eq-COLON.true

pub returns-then-is_open-clause-begins : goal.returns-then-is_open-clause-begins
returns-then-is_open-clause-begins c = λ fed size begins decodes.
    begins_still c.open_ends_grow.ensures.joins fed c.args.byte c.args.start (omega (arith, size, c.requires.start)) c.if-byte-eq-COLON.false
    ((c.is_open.ensures (fed ++ c.args.byte ∷ []) decodes).0 c.if-is_open.true) begins
