use Rattle.std.proofs.Common.{◌++◌, sym, subst}
use Rattle.modbus_tcp.specs.Stream.{IsSplit}
use Rattle.modbus_tcp.proofs.Splitting.{first_adus, split_behind}
use Rattle.modbus_tcp.proofs.laws.adus_come_first.Goals as goal

pub returns-clause-first : goal.returns-clause-first
returns-clause-first c = λ bytes held rest adus all kind joined whole split.
    first_adus adus held rest all kind whole (subst (λ xs. IsSplit xs all rest kind) joined split)

pub returns-clause-later : goal.returns-clause-later
returns-clause-later c = λ bytes held rest adus later kind joined whole split.
    subst (λ xs. IsSplit xs (adus ++ later) rest kind) (sym joined) (split_behind adus held rest later kind whole split)
