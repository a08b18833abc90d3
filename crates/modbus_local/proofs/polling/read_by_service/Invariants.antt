use Rattle.std.proofs.Common.{◌≤◌, length, take, vec_capacity}
use Rattle.modbus_poll.specs.Polls.{ReadsEach}
use Rattle.modbus_local.specs.Polls.{AsksService}
use Rattle.modbus_local.proofs.polling.read_by_service.Given as goal

abbrev pub invariant-loop-place : goal.invariant-loop-place
invariant-loop-place g l = record {
  made : ReadsEach (AsksService g.V.Answerer.answering l.fn.slave.0) l.initial.service (take l.place l.reads) l.found.items l.service;
  room : length l.reads ≤ vec_capacity l.found;
}
