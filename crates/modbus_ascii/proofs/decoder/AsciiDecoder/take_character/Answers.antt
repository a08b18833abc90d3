use Rattle.modbus_ascii.specs.declared.decoder.Phase.TheVariants.{Digits}
use Rattle.std.proofs.Common.{◌≡◌, false}
use Rattle.modbus_ascii.specs.Frames.{is_hex_digit}
use Rattle.modbus_ascii.proofs.Decoding.{kept, character-step, stays-closed, untrue, goes-skipping}
use Rattle.modbus_ascii.proofs.decoder.AsciiDecoder.take_character.Goals as goal

pub returns-in-Closed : goal.returns-in-Closed
returns-in-Closed c = λ fed k. stays-closed fed c.args.character _ _ _ _ c.self.view_is c.in-Closed.is c.requires.begins k

pub returns-in-None : goal.returns-in-None
returns-in-None c = λ fed k.
    let other : is_hex_digit c.args.character ≡ false = untrue (is_hex_digit c.args.character) c.in-None.ensures.digit.1 in
    character-step fed Digits _ _ c.args.character c.requires.begins c.requires.returns c.requires.feeds (λ e. other) (kept fed _ Digits _ _ _ c.self.view_is c.in-Digits.is k)

pub returns-in-Returned : goal.returns-in-Returned
returns-in-Returned c = λ fed k. goes-skipping fed _ _ _ _ c.args.character c.requires.begins c.requires.returns c.requires.feeds c.self.view_is c.in-Returned.is k
