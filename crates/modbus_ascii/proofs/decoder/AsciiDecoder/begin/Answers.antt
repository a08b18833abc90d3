use Rattle.modbus_ascii.proofs.Decoding.{begin-step}
use Rattle.modbus_ascii.proofs.decoder.AsciiDecoder.begin.Goals as goal

pub returns : goal.returns
returns c = λ fed. begin-step fed c.clear.new.self.items c.clear.ensures
