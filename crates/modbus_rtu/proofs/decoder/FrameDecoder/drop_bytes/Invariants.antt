use Rattle.std.proofs.Common.{◌≡◌, take, drop}
use Rattle.modbus_rtu.specs.Decoder.{with_all_dropped}
use Rattle.modbus_rtu.proofs.decoder.FrameDecoder.drop_bytes.Given as goal

abbrev pub invariant-loop : goal.invariant-loop
invariant-loop l = record {
  buffer : l.buf.items ≡ drop l.counter l.fn.buf.items;
  recorded : l.self ≡ with_all_dropped l.fn.self (take l.counter l.fn.buf.items);
}
