use Rattle.std.proofs.Common.{◌≡◌, ◌≤◌, length, take, vec_capacity}
use Rattle.modbus_poll.specs.States.{states_among}
use Rattle.modbus_poll.proofs.states.states_among.Given as goal

abbrev pub invariant-loop-address : goal.invariant-loop-address
invariant-loop-address l = record {
  so_far : l.states.items ≡ states_among l.plan l.found (take l.address-index l.addresses);
  room : length l.addresses ≤ vec_capacity l.states;
}
