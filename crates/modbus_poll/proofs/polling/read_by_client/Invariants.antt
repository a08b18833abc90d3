use Rattle.std.proofs.Common.{◌≤◌, length, take, vec_capacity}
use Rattle.modbus_poll.specs.Polls.{AsksClient, ReadsEach}
use Rattle.modbus_poll.proofs.polling.read_by_client.Given as goal

abbrev pub invariant-loop-place : goal.invariant-loop-place
invariant-loop-place g l = record {
  made : ReadsEach (AsksClient g.R.Client.answers) l.initial.reader (take l.place l.reads) l.found.items l.reader;
  room : length l.reads ≤ vec_capacity l.found;
}
