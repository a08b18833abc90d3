use Rattle.std.proofs.Common.{sym, ap, ◌∙◌, arith}
use Rattle.std.proofs.lemmas.List.{drop_all}
use Rattle.modbus_client.specs.LineReading.{is_own}
use Rattle.modbus_client.proofs.StreamVerdict.{no_own}
use Rattle.modbus_client.proofs.stream_judge.is_own_behind.Goals as goal

pub returns-then-adu-count : goal.returns-then-adu-count
returns-then-adu-count c = sym (ap (is_own c.args.asked) (drop_all c.args.count c.args.adu.now (omega (arith, c.if-adu-count.true))) ∙ no_own c.args.asked)
