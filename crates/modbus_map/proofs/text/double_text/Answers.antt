use Rattle.std.proofs.Common.{rules}
use Rattle.std.proofs.lemmas.Float.{not_nan_f64_bits}
use Rattle.modbus_map.proofs.text.double_text.Goals as goal

pub float_from_bits-bits : goal.float_from_bits-bits
float_from_bits-bits c = not_nan_f64_bits c.args.bits (search rules)
