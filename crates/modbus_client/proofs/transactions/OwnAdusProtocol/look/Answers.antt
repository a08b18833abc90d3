use Rattle.std.proofs.Common.{◌++◌, ◌∷◌, [], length, arith}
use Rattle.modbus_pdu.specs.ResponseOf.{response_result_of}
use Rattle.modbus_client.specs.Protocol.{waiting}
use Rattle.modbus_client.proofs.OwnAdu.{drops_further, looks_own, counts_own, count_of, count_on}
use Rattle.modbus_client.proofs.transactions.OwnAdusProtocol.look.Goals as goal

pub returns-clause-looks : goal.returns-clause-looks
returns-clause-looks c = λ bytes cuts earlier more s is some.
    let now = cuts ++ length (bytes ++ more) ∷ [] in
    let (adus, drops, count) = c.drop_others-dropped.ensures.dropped in
    looks_own c.args.asked (bytes ++ more) now c.drop_others-dropped.new.held.items _ (drops_further c.args.asked bytes cuts earlier more c.args.held.now.items c.drop_others-dropped.new.held.items s is adus drops) c.drop_others-dropped.ensures.all
    response_result_of c.take_adu.new.held.items c.take_adu.result (c.take_adu.ensures.looks c.args.asked now)

pub returns-clause-counts : goal.returns-clause-counts
returns-clause-counts c = λ bytes cuts earlier more s is some counts.
    let now = cuts ++ length (bytes ++ more) ∷ [] in
    let (adus, drops, count) = c.drop_others-dropped.ensures.dropped in
    let (before, tells) = count_of c.one_front.ensures.adu c.one_front.ensures.rest c.one_front.ensures.apart c.args.asked cuts bytes _ (waiting earlier) counts s in
    counts_own c.args.asked (bytes ++ more) now c.drop_others-dropped.new.held.items _ (drops_further c.args.asked bytes cuts earlier more c.args.held.now.items c.drop_others-dropped.new.held.items before is adus drops) c.drop_others-dropped.ensures.all
    response_result_of _ (count_on c.args.asked _ _ before.dropped adus tells (omega (arith, c.saturating_add-self-inside.ensures, c.self.view_is, count))) c.take_adu.new.held.items c.take_adu.result (c.take_adu.ensures.looks c.args.asked now)
