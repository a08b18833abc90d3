use Rattle.std.proofs.Common.{Bool, List, sym, subst}
use Rattle.modbus_poll.specs.declared.polling.PollError.TheVariants.{NoMemory}
use Rattle.modbus_poll.specs.declared.read.Read.{Read}
use Rattle.modbus_poll.specs.Words.{AreWordsOf}
use Rattle.modbus_poll.specs.Polls.{ReadsEach}
use Rattle.modbus_poll.specs.States.{AsksBits}
use Rattle.modbus_poll.specs.Making.{words_made, lacks_last, stops_with}
use Rattle.modbus_poll.proofs.states.poll_bits.Goals as goal

pub states_among-requires-clause-states : goal.states_among-requires-clause-states
states_among-requires-clause-states g c =
    let made = words_made (AsksBits g.R.Client.answers c.args.bits) c.reads.result.now c.in_ok-found.found.items c.args.reader.now c.read_bits.new.reader c.in_ok-found.ensures.made in
    subst (λ (found : List (List Bool)). AreWordsOf c.args.plan.now found) (sym c.as_slice.ensures.value)
    (subst (λ (reads : List Read). AreWordsOf reads c.in_ok-found.found.items) c.reads.ensures made)

pub returns-in_err-states_among-clause-stops : goal.returns-in_err-states_among-clause-stops
returns-in_err-states_among-clause-stops g c =
    stops_with (AsksBits g.R.Client.answers c.args.bits) c.args.plan.now c.args.reader.now _ NoMemory _ c.from_residual-in_err-states_among.ensures.1
    (lacks_last (AsksBits g.R.Client.answers c.args.bits) c.args.plan.now c.in_ok-found.found.items c.args.reader.now c.read_bits.new.reader
    (subst (λ (reads : List Read). ReadsEach (AsksBits g.R.Client.answers c.args.bits) c.args.reader.now reads c.in_ok-found.found.items c.read_bits.new.reader) c.reads.ensures c.in_ok-found.ensures.made))
