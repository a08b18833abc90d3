use Rattle.std.proofs.Common.{None, lit<}
use Rattle.std.proofs.lemmas.Str.Pattern.{strip_prefix_char}
use Rattle.modbus_poll.proofs.Prefixes.{holding_table, whole_rest}
use Rattle.modbus_poll.proofs.notation.split_table.Goals as goal

pub returns-clause-table : goal.returns-clause-table
returns-clause-table c =
    holding_table c.args.word.now (strip_prefix_char 105 c.args.word.now None c.in_default.ensures.cases (lit< tt))

pub returns-clause-rest : goal.returns-clause-rest
returns-clause-rest c =
    whole_rest c.args.word.now (strip_prefix_char 105 c.args.word.now None c.in_default.ensures.cases (lit< tt))
    (strip_prefix_char 104 c.args.word.now None c.in_default-strip_prefix.ensures.cases (lit< tt))
