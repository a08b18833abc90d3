use Rattle.std.proofs.Common.{◌≢◌, ◌∷◌, ◌++◌, ◌∙◌, [], length, sym, ap, arith}
use Rattle.modbus_ascii.specs.Limits.{colon}
use Rattle.modbus_ascii.specs.Stands.{held_open}
use Rattle.modbus_ascii.proofs.Scanning.{open-one, open-count}
use Rattle.modbus_ascii.proofs.scan.Scan.count.Goals as goal

pub returns-then-byte-eq-COLON : goal.returns-then-byte-eq-COLON
returns-then-byte-eq-COLON c = λ seen e k. sym (ap (λ b. length (held_open (seen ++ b ∷ []))) c.if-byte-eq-COLON.true ∙ open-one seen)

pub returns-then-is_open : goal.returns-then-is_open
returns-then-is_open c = λ seen e k.
    let some = (c.is_open.ensures (seen ++ c.args.byte ∷ []) k).0 c.if-is_open.true in
    let other : c.args.byte ≢ colon = c.if-byte-eq-COLON.false in
    let count = open-count seen c.args.byte other some in
    omega (arith, count, c.min.ensures, e)
