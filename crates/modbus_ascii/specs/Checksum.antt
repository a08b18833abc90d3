-- The longitudinal redundancy check of a frame (MODBUS over Serial Line V1.02, section 6.2.1).
use Rattle.std.specs.Prelude.{ℕ, ◌-◌, ◌%◌, List}
use Rattle.std.specs.Prelude.{sum}

-- the two's complement of the sum of the bytes, as a number of eight bits
abbrev pub lrc : List ℕ → ℕ
lrc bytes = (256 - sum bytes % 256) % 256
