use Rattle.std.proofs.Common.{rules}
use Rattle.std.proofs.lemmas.Float.{not_nan_f64_bits}
use Rattle.modbus_map.proofs.json_text.double_json.Goals as goal

pub float_from_bits-float : goal.float_from_bits-float
float_from_bits-float c = not_nan_f64_bits c.args.bits (search rules)
