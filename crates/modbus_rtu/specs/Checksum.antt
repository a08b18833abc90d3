-- CRC-16/MODBUS bit by bit (MODBUS over Serial Line V1.02, section 6.2.2).
use Rattle.std.specs.Prelude.{ℕ, zero, suc, ◌/◌, ◌%◌, if◌then◌else◌, ◌==◌, List, [], bit_xor, fold, get_or}

-- the register after one bit is shifted out
unfoldable pub shifted_out : ℕ → ℕ
shifted_out register = if register % 2 == 1 then bit_xor (register / 2) 0xA001 else register / 2

-- after so many bits
unfoldable pub shifts : ℕ → ℕ → ℕ
shifts zero register = register
shifts (suc n) register = shifted_out (shifts n register)

-- after a byte, which is taken into the low half
unfoldable pub with_byte : ℕ → ℕ → ℕ
with_byte register byte = shifts 8 (bit_xor register byte)

-- the checksum of bytes
unfoldable pub crc : List ℕ → ℕ
crc bytes = fold with_byte 0xFFFF bytes

-- what four rows of a table make of a register that took two bytes, and of two bytes behind them
abbrev pub four_looked_up : List (List ℕ) → ℕ → ℕ → ℕ → ℕ
four_looked_up rows word c d =
    bit_xor (bit_xor (get_or (get_or rows 2 []) (word / 256) 0) (get_or (get_or rows 3 []) (word % 256) 0)) (bit_xor (get_or (get_or rows 0 []) d 0) (get_or (get_or rows 1 []) c 0))
