use Rattle.std.proofs.Common.{◌≡◌, ◌+◌, ◌*◌, ◌++◌, take}
use Rattle.modbus_ascii.specs.Encoder.{text_of}
use Rattle.modbus_ascii.proofs.encoder.put_text.Given as goal

-- the digits of the bytes so far
abbrev pub invariant-loop-byte : goal.invariant-loop-byte
invariant-loop-byte l = record {
  items : l.buf.items ≡ l.fn.buf.items ++ text_of (take l.byte-index l.bytes);
  spare : l.buf.spare + 2 * l.byte-index ≡ l.fn.buf.spare;
}
