use Rattle.std.proofs.Common.{take, get_or, rules, arith, subst, add-one}
use Rattle.std.proofs.lemmas.List.{length-take-le}
use Rattle.std.proofs.lemmas.Option.{slice_get-get_or}
use Rattle.modbus_poll.specs.declared.polling.PollError.TheVariants.{NoMemory}
use Rattle.std.proofs.Common.{Bool, List}
use Rattle.modbus_client.specs.Typed.{AnswerOf}
use Rattle.modbus_poll.specs.States.{AsksBits}
use Rattle.modbus_poll.specs.Making.{reads_more, lacks_first, stops_at, stops_with, length_made}
use Rattle.modbus_poll.proofs.states.read_bits.Goals as goal

pub returns-in_err-found-clause-stops : goal.returns-in_err-found-clause-stops
returns-in_err-found-clause-stops g c =
    stops_with (AsksBits g.R.Client.answers c.args.bits) c.args.reads.now c.args.reader.now _ NoMemory _ c.from_residual.ensures.1
    (lacks_first (AsksBits g.R.Client.answers c.args.bits) c.args.reads.now c.args.reader.now)

pub returns-in_err-states-clause-stops : goal.returns-in_err-states-clause-stops
returns-in_err-states-clause-stops g c =
    stops_with (AsksBits g.R.Client.answers c.args.bits) c.args.reads.now c.args.reader.now _ c.in_err-states.field-0.0 _ c.from_residual-in_err-states.ensures.1
    (stops_at (AsksBits g.R.Client.answers c.args.bits) c.args.reads.now c.loop-place.place c.loop-place.found.items c.args.reader.now c.loop-place.reader _ _
    c.ask_bits-answer.result c.in_err-states.field-0.0 (slice_get-get_or c.args.reads.now c.loop-place.place _ c.loop-place-test.true)
    c.loop-place.invariant.made c.ask_bits-answer.ensures c.in_err-states.ensures)

pub push_reserved-requires : goal.push_reserved-requires
push_reserved-requires g c =
    let count = length_made (AsksBits g.R.Client.answers c.args.bits) (take c.loop-place.place c.args.reads.now) c.loop-place.found.items c.args.reader.now c.loop-place.reader c.loop-place.invariant.made in
    let taken = length-take-le c.loop-place.place c.args.reads.now (omega arith) in
    omega (arith, c.loop-place.invariant.room, c.loop-place-test.true)

pub loop-place-preserved : goal.loop-place-preserved
loop-place-preserved g c = record {
  made = rw (add-one c.loop-place.place) (rw c.push_reserved.ensures.items
      (reads_more (AsksBits g.R.Client.answers c.args.bits) c.args.reads.now c.loop-place.place c.loop-place.found.items c.args.reader.now c.loop-place.reader _ _
      c.in_ok-states.states c.loop-place-test.true c.loop-place.invariant.made
      (subst (λ (a : AnswerOf (List Bool)). AsksBits g.R.Client.answers c.args.bits c.loop-place.reader (get_or c.args.reads.now c.loop-place.place (record { address = 0; count = 0 })) a
      c.ask_bits-answer.new.reader) c.in_ok-states.ensures.0 c.ask_bits-answer.ensures) c.in_ok-states.ensures.1));
  room = search rules;
}
