use Rattle.std.proofs.Common.{◌≤◌, length, take, vec_capacity}
use Rattle.modbus_poll.specs.Polls.{ReadsEach}
use Rattle.modbus_poll.specs.States.{AsksBits}
use Rattle.modbus_poll.proofs.states.read_bits.Given as goal

abbrev pub invariant-loop-place : goal.invariant-loop-place
invariant-loop-place g l = record {
  made : ReadsEach (AsksBits g.R.Client.answers l.bits) l.initial.reader (take l.place l.reads) l.found.items l.reader;
  room : length l.reads ≤ vec_capacity l.found;
}
