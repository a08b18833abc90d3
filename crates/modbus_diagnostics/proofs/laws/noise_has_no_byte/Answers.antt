use Rattle.modbus_diagnostics.proofs.Noise.{no_byte_is_noise, bytes_are_no_noise}
use Rattle.modbus_diagnostics.proofs.laws.noise_has_no_byte.Goals as goal

pub returns-clause-noise : goal.returns-clause-noise
returns-clause-noise c = no_byte_is_noise

pub returns-clause-message : goal.returns-clause-message
returns-clause-message c = bytes_are_no_noise c.requests_are_read.ensures.read
