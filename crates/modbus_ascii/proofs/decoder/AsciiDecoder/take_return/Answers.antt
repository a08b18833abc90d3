use Rattle.modbus_ascii.specs.declared.decoder.Phase.TheVariants.{Digits}
use Rattle.std.proofs.Common.{arith}
use Rattle.modbus_ascii.specs.Limits.{carriage_return}
use Rattle.modbus_ascii.proofs.Decoding.{kept, return-step, stays-closed, returns-skipping}
use Rattle.modbus_ascii.proofs.decoder.AsciiDecoder.take_return.Goals as goal

pub returns-in-Closed : goal.returns-in-Closed
returns-in-Closed c = λ fed k. stays-closed fed carriage_return _ _ _ _ c.self.view_is c.in-Closed.is (λ e. omega (arith, e)) k

pub returns-in-Digits : goal.returns-in-Digits
returns-in-Digits c = λ fed k. return-step fed Digits _ _ (kept fed _ Digits _ _ _ c.self.view_is c.in-Digits.is k)

pub returns-in-Returned : goal.returns-in-Returned
returns-in-Returned c = λ fed k. returns-skipping fed _ _ _ _ c.self.view_is c.in-Returned.is k
