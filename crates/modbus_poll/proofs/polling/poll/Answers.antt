use Rattle.std.proofs.Common.{ℕ, List, sym, subst}
use Rattle.modbus_poll.specs.declared.polling.PollError.TheVariants.{NoMemory}
use Rattle.modbus_poll.specs.declared.read.Read.{Read}
use Rattle.modbus_poll.specs.Words.{AreWordsOf}
use Rattle.modbus_poll.specs.Polls.{AsksClient, ReadsEach}
use Rattle.modbus_poll.specs.Making.{words_made, lacks_last, stops_with}
use Rattle.modbus_poll.proofs.polling.poll.Goals as goal

pub values_among-requires-clause-words : goal.values_among-requires-clause-words
values_among-requires-clause-words g c =
    let made = words_made (AsksClient g.R.Client.answers) c.reads.result.now c.in_ok-found.found.items c.args.reader.now c.read_by_client.new.reader c.in_ok-found.ensures.made in
    subst (λ (found : List (List ℕ)). AreWordsOf c.args.plan.now found) (sym c.as_slice.ensures.value)
    (subst (λ (reads : List Read). AreWordsOf reads c.in_ok-found.found.items) c.reads.ensures made)

pub returns-in_err-values_among-clause-stops : goal.returns-in_err-values_among-clause-stops
returns-in_err-values_among-clause-stops g c =
    stops_with (AsksClient g.R.Client.answers) c.args.plan.now c.args.reader.now _ NoMemory _ c.from_residual-in_err-values_among.ensures.1
    (lacks_last (AsksClient g.R.Client.answers) c.args.plan.now c.in_ok-found.found.items c.args.reader.now c.read_by_client.new.reader
    (subst (λ (reads : List Read). ReadsEach (AsksClient g.R.Client.answers) c.args.reader.now reads c.in_ok-found.found.items c.read_by_client.new.reader) c.reads.ensures c.in_ok-found.ensures.made))
