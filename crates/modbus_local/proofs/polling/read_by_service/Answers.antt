use Rattle.std.proofs.Common.{take, get_or, rules, arith, subst, add-one}
use Rattle.std.proofs.lemmas.List.{length-take-le}
use Rattle.std.proofs.lemmas.Option.{slice_get-get_or}
use Rattle.modbus_poll.specs.declared.polling.PollError.TheVariants.{NoMemory}
use Rattle.modbus_poll.specs.Polls.{WordsAnswer}
use Rattle.modbus_local.specs.Polls.{AsksService}
use Rattle.modbus_poll.specs.Making.{reads_more, lacks_first, stops_at, stops_with, length_made}
use Rattle.modbus_local.proofs.polling.read_by_service.Goals as goal

pub returns-in_err-found-clause-stops : goal.returns-in_err-found-clause-stops
returns-in_err-found-clause-stops g c =
    stops_with (AsksService g.V.Answerer.answering c.args.slave.0) c.args.reads.now c.args.service.now _ NoMemory _ c.from_residual.ensures.1
    (lacks_first (AsksService g.V.Answerer.answering c.args.slave.0) c.args.reads.now c.args.service.now)

pub returns-in_err-words-clause-stops : goal.returns-in_err-words-clause-stops
returns-in_err-words-clause-stops g c =
    stops_with (AsksService g.V.Answerer.answering c.args.slave.0) c.args.reads.now c.args.service.now _ c.in_err-words.field-0.0 _ c.from_residual-in_err-words.ensures.1
    (stops_at (AsksService g.V.Answerer.answering c.args.slave.0) c.args.reads.now c.loop-place.place c.loop-place.found.items c.args.service.now c.loop-place.service _ _
    c.ask_service-answer.result c.in_err-words.field-0.0 (slice_get-get_or c.args.reads.now c.loop-place.place _ c.loop-place-test.true)
    c.loop-place.invariant.made c.ask_service-answer.ensures c.in_err-words.ensures)

pub push_reserved-requires : goal.push_reserved-requires
push_reserved-requires g c =
    let count = length_made (AsksService g.V.Answerer.answering c.args.slave.0) (take c.loop-place.place c.args.reads.now) c.loop-place.found.items c.args.service.now c.loop-place.service c.loop-place.invariant.made in
    let taken = length-take-le c.loop-place.place c.args.reads.now (omega arith) in
    omega (arith, c.loop-place.invariant.room, c.loop-place-test.true)

pub loop-place-preserved : goal.loop-place-preserved
loop-place-preserved g c = record {
  made = rw (add-one c.loop-place.place) (rw c.push_reserved.ensures.items
      (reads_more (AsksService g.V.Answerer.answering c.args.slave.0) c.args.reads.now c.loop-place.place c.loop-place.found.items c.args.service.now c.loop-place.service _ _
      c.in_ok-words.words c.loop-place-test.true c.loop-place.invariant.made
      (subst (λ (a : WordsAnswer). AsksService g.V.Answerer.answering c.args.slave.0 c.loop-place.service (get_or c.args.reads.now c.loop-place.place (record { address = 0; count = 0 })) a
      c.ask_service-answer.new.service) c.in_ok-words.ensures.0 c.ask_service-answer.ensures) c.in_ok-words.ensures.1));
  room = search rules;
}
