use Rattle.std.proofs.Common.{◌≡◌, ◌≤◌, [], take, drop}
use Rattle.modbus_ascii.specs.Decoder.{DecodesText}
use Rattle.modbus_ascii.specs.Frames.{frames}
use Rattle.modbus_ascii.specs.Text.{open_end}
use Rattle.modbus_c.proofs.text.next_text.Given as goal

abbrev pub invariant-texts : goal.invariant-texts
invariant-texts l = record {
  within : l.start ≤ l.place;
  quiet : frames (take l.place l.bytes) ≡ [];
  decodes : DecodesText (take l.place l.bytes) l.decoder;
  begins : drop l.start (take l.place l.bytes) ≡ open_end (take l.place l.bytes);
}
