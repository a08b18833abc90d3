use Rattle.std.proofs.Common.{rules}
use Rattle.std.proofs.lemmas.Float.{not_nan_f32_bits}
use Rattle.modbus_map.proofs.json_text.single_json.Goals as goal

pub float_from_bits-float : goal.float_from_bits-float
float_from_bits-float c = not_nan_f32_bits c.args.bits (search rules)
