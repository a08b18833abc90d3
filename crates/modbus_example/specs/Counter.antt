-- An answerer that refused memory leaves changed.
use Rattle.std.specs.Prelude.{◌≡◌, ◌-◌, ◌+◌, ◌^◌, min}
use Rattle.modbus_frame.specs.declared.code.ExceptionCode.TheVariants.{ServerDeviceBusy}
use Rattle.modbus_service.specs.Outcome.{exception}
use Rattle.modbus_service.specs.Answering.{Answering}
use Rattle.modbus_example.specs.declared.counter.Counter.{Counter}

-- each request is counted, whether memory is there or not, and is answered with an exception
abbrev pub counting : Answering Counter
counting = record {
  gives = λ old slave request outcome new. (new.asked ≡ min (old.asked + 1) (2 ^ 64 - 1)) × (outcome ≡ exception ServerDeviceBusy);
  wants = λ old slave request new. new.asked ≡ min (old.asked + 1) (2 ^ 64 - 1);
}
