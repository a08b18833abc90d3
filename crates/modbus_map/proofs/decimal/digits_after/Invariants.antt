use Rattle.std.proofs.Common.{◌≡◌, ◌+◌, ◌*◌, ◌<◌, ◌^◌, true, take}
use Rattle.modbus_map.specs.Decimals.{are_digits, number_after}
use Rattle.modbus_map.proofs.decimal.digits_after.Given as goal

abbrev pub invariant-loop-byte : goal.invariant-loop-byte
invariant-loop-byte l = record {
  digits : are_digits (take l.byte-index l.digits) ≡ true;
  value : l.value ≡ number_after l.start (take l.byte-index l.digits);
  bound : l.value < (l.start + 1) * 10 ^ l.byte-index;
}
