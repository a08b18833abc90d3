-- What a link means of which one turn takes so many reads at most.
use Rattle.std.specs.Prelude.{ℕ, ◌+◌, ◌==◌, length, if◌then◌else◌}
use Rattle.modbus_link.specs.Outside.{Input, input_through}

-- Of a link that tells its content: how many of its reads gave bytes, with those that may still. Each read that gives bytes uses one of
-- these up, so both together stay.
abbrev pub reads_in_all : ℕ → Input → ℕ
reads_in_all left input = if input.told then length input.cuts + left else 0

-- how many reads were left when one was refused; it stays too, and is 0 where nothing was refused at first
abbrev pub left_behind : ℕ → ℕ → ℕ
left_behind left refused = if refused == 0 then 0 else left

-- the input behind a reference; what stays of a ration stands among its names
abbrev pub rationed_input : ℕ → ℕ → ℕ → Input → Input
rationed_input left refused name input =
    input_through (reads_in_all left input) (input_through (left_behind left refused) (input_through name input))
