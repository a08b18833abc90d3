use Rattle.std.proofs.Common.{refl}
use Rattle.modbus_ascii.specs.Text.{open_end}
use Rattle.modbus_ascii.proofs.decoder.AsciiDecoder.new.Goals as goal

pub returns : goal.returns
unfolding open_end
returns c = refl
