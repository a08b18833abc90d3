use Rattle.std.proofs.Common.{◌≡◌, ◌<◌, ◌^◌, true, take}
use Rattle.modbus_poll.specs.Notation.{are_digits, number}
use Rattle.modbus_poll.proofs.number.number_of.Given as goal

abbrev pub invariant-loop-byte : goal.invariant-loop-byte
invariant-loop-byte l = record {
  digits : are_digits (take l.byte-index l.text) ≡ true;
  value : l.value ≡ number (take l.byte-index l.text);
  bound : l.value < 10 ^ l.byte-index;
}
