use Rattle.std.proofs.Common.{arith, rules}
use Rattle.modbus_ascii.proofs.Decoding.{frames-quiet}
use Rattle.modbus_ascii.proofs.decoder.AsciiDecoder.take.Goals as goal

pub returns-in-58-clause-gives : goal.returns-in-58-clause-gives
returns-in-58-clause-gives c = λ fed k. frames-quiet fed c.args.byte (λ e. omega (arith, e, c.in-58.is))

pub returns-in-13-clause-gives : goal.returns-in-13-clause-gives
returns-in-13-clause-gives c = λ fed k. frames-quiet fed c.args.byte (λ e. omega (arith, e, c.in-13.is))

pub returns-in_default-clause-gives : goal.returns-in_default-clause-gives
returns-in_default-clause-gives c = λ fed k. frames-quiet fed c.args.byte (search rules)
