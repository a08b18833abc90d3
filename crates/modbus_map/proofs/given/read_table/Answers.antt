use Rattle.std.proofs.Common.{take, get_or, rules, arith, subst, add-one, inl, refl}
use Rattle.std.proofs.lemmas.List.{length-take-le}
use Rattle.std.proofs.lemmas.Option.{slice_get-get_or}
use Rattle.modbus_poll.specs.declared.polling.PollError.TheVariants.{NoMemory}
use Rattle.modbus_map.specs.Asking.{AsksTable}
use Rattle.modbus_map.proofs.TableReads.{reads_more, length_read, stops_one, stops_with}
use Rattle.modbus_map.proofs.given.read_table.Goals as goal

pub returns-in_err-found-clause-stops : goal.returns-in_err-found-clause-stops
returns-in_err-found-clause-stops g c =
    stops_with (AsksTable g.R.Client.answers c.args.table) c.args.reads.now c.args.reader.now _ NoMemory _ c.from_residual.ensures.1 (inl refl)

pub returns-in_err-given-clause-stops : goal.returns-in_err-given-clause-stops
returns-in_err-given-clause-stops g c =
    stops_with (AsksTable g.R.Client.answers c.args.table) c.args.reads.now c.args.reader.now _ c.in_err-given.field-0.0 _ c.from_residual-in_err-given.ensures.1
    (stops_one (AsksTable g.R.Client.answers c.args.table) c.args.reads.now c.loop-place.place c.loop-place.found.items c.args.reader.now c.loop-place.reader _ _
    c.in_err-given.field-0.0 (slice_get-get_or c.args.reads.now c.loop-place.place _ c.loop-place-test.true) c.loop-place.invariant.made c.in_err-given.ensures)

pub push_reserved-requires : goal.push_reserved-requires
push_reserved-requires g c =
    let count = length_read (AsksTable g.R.Client.answers c.args.table) (take c.loop-place.place c.args.reads.now) c.loop-place.found.items c.args.reader.now c.loop-place.reader c.loop-place.invariant.made in
    let taken = length-take-le c.loop-place.place c.args.reads.now (omega arith) in
    omega (arith, c.loop-place.invariant.room, c.loop-place-test.true)

pub loop-place-preserved : goal.loop-place-preserved
loop-place-preserved g c = record {
  made = rw (add-one c.loop-place.place) (rw c.push_reserved.ensures.items
      (reads_more (AsksTable g.R.Client.answers c.args.table) c.args.reads.now c.loop-place.place c.loop-place.found.items c.args.reader.now c.loop-place.reader _ _
      c.in_ok-given.given c.loop-place-test.true c.loop-place.invariant.made c.in_ok-given.ensures));
  room = search rules;
}
