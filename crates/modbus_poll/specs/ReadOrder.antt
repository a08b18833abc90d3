-- Reads in the order of their registers.
use Rattle.std.specs.Prelude.{List}
use Rattle.std.specs.List.Sorted.{IsNonDecreasingBy}
use Rattle.modbus_poll.specs.declared.read.Read.{Read}
use Rattle.modbus_poll.specs.Items.{read_end}

-- no read begins before those that were made earlier, or ends before them
abbrev pub AreRising : List Read → Type 0
AreRising reads =
    IsNonDecreasingBy (λ (read : Read). read.address) reads × IsNonDecreasingBy read_end reads
