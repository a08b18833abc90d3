-- What is said of an object that is reached through a reference is said of the object.
use Rattle.std.proofs.Common.{ℕ, ap, Result, Bool}
use Rattle.modbus_link.specs.Outside.{outside, Input, Output, input_through, output_through}
use Rattle.modbus_link.specs.Through.{bare_input, passes_through}
use Rattle.modbus_server.specs.declared.error.ProcessError.{ProcessError}
use Rattle.modbus_server.specs.declared.error.Step.{Step}
use Rattle.modbus_server.specs.Framing.{Framing}
use Rattle.modbus_service.specs.Answering.{Answering}
use Rattle.modbus_server.specs.State.{State}
use Rattle.modbus_server.specs.Step.{Stepped, Ran}
use Rattle.modbus_server.specs.Moment.{moment}

pub stepped_through : (F : Framing) {S : Type 0} (A : Answering S) (old new : State) (before after : S) (n m n' m' : ℕ) (a b : Input) (k l : Output) (may_read : Bool) (result : Result Step ProcessError)
    → Stepped F A old new (moment before (input_through n a) (output_through n' k)) (moment after (input_through m b) (output_through m' l)) may_read result
    → Stepped F A old new (moment before a k) (moment after b l) may_read result
stepped_through F A old new before after n m n' m' a b k l may_read result s = record {
  fed = s.fed;
  made = s.made;
  sent = s.sent;
  passes = passes_through n m n' m' (outside a k) (outside b l) s.fed s.made s.sent s.passes;
  fresh = s.fresh;
  ends = s.ends;
  run = s.run;
  asked = s.asked;
  stands = s.stands;
  last = s.last;
  rooms = s.rooms;
  leaves = s.leaves;
  memory = s.memory;
  ended = s.ended;
  idle = λ e. ap bare_input (s.idle e);
  read_fault = s.read_fault;
  write_fault = s.write_fault;
}

pub ran_through : (F : Framing) {S : Type 0} (A : Answering S) (before after : S) (n m n' m' : ℕ) (a b : Input) (k l : Output) (turns : ℕ) (result : Result (Unit {0}) ProcessError)
    → Ran F A turns (moment before (input_through n a) (output_through n' k)) (moment after (input_through m b) (output_through m' l)) result
    → Ran F A turns (moment before a k) (moment after b l) result
ran_through F A before after n m n' m' a b k l turns result r = record {
  fed = r.fed;
  made = r.made;
  sent = r.sent;
  passes = passes_through n m n' m' (outside a k) (outside b l) r.fed r.made r.sent r.passes;
  served = r.served;
  rooms = r.rooms;
  spends = r.spends;
  ended = r.ended;
  read_fault = r.read_fault;
  write_fault = r.write_fault;
}
