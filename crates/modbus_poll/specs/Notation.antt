-- The notation of items as words.
use Rattle.std.specs.Prelude.{ℕ, ◌+◌, ◌-◌, ◌*◌, ◌==◌, ◌&&◌, ◌||◌, nat_eq, nat_le, Bool, true, List, [], ◌∷◌, fold, drop, length, codes, Option, Some, None, Result, Ok, Err, if◌then◌else◌}
use Rattle.std.specs.List.{before_first, after_first, starts_with}
use Rattle.std.specs.Str.{bytes_eq}
use Rattle.modbus_pdu.specs.Limits.{max_read_registers}
use Rattle.modbus_poll.specs.Items.{is_readable}
use Rattle.modbus_poll.specs.declared.item.Order.TheVariants.{HighFirst, LowFirst}
use Rattle.modbus_poll.specs.declared.item.Kind.{Kind}
use Rattle.modbus_poll.specs.declared.item.Kind.TheVariants.{U16, I16, U32, I32, U64, I64, Text}
use Rattle.modbus_poll.specs.declared.item.Item.{Item}
use Rattle.modbus_poll.specs.declared.notation.Table.{Table}
use Rattle.modbus_poll.specs.declared.notation.Table.TheVariants.{Holding, Input}
use Rattle.modbus_poll.specs.declared.notation.Point.{Point}
use Rattle.modbus_poll.specs.declared.notation.PointError.{PointError}
use Rattle.modbus_poll.specs.declared.notation.PointError.TheVariants as fault

-- an ASCII digit
abbrev pub is_digit : ℕ → Bool
is_digit byte = nat_le 48 byte && nat_le byte 57

-- every byte is one
abbrev pub are_digits : List ℕ → Bool
are_digits text = fold (λ all byte. all && is_digit byte) true text

-- the number that digits show, in decimal
abbrev pub number : List ℕ → ℕ
number text = fold (λ value byte. value * 10 + (byte - 48)) 0 text

-- the number that a word shows: one digit to so many, of a value from the least to the most
abbrev pub number_within : ℕ → ℕ → ℕ → List ℕ → Option ℕ
number_within digits least most text =
    if nat_le 1 (length text) && nat_le (length text) digits && are_digits text && nat_le least (number text) && nat_le (number text) most
    then Some (number text) else None

-- the table that a word begins with: `i` for input registers, `h` or nothing for holding registers
abbrev pub table_of : List ℕ → Table
table_of [] = Holding
table_of (byte ∷ rest) = if byte == 105 then Input else Holding

-- what stands behind that letter
abbrev pub rest_of : List ℕ → List ℕ
rest_of [] = []
rest_of (byte ∷ rest) = if (byte == 104) || (byte == 105) then rest else byte ∷ rest

-- what stands before the first colon, and after it
abbrev pub address_part : List ℕ → List ℕ
address_part text = before_first (λ byte. byte == 58) text

abbrev pub kind_part : List ℕ → List ℕ
kind_part text = after_first (λ byte. byte == 58) text

abbrev pub address_named : List ℕ → Option ℕ
address_named text = number_within 5 0 65535 text

abbrev pub text_wide : Option ℕ → Option Kind
text_wide (Some words) = Some (Text words)
text_wide None = None

-- a text of so many registers
abbrev pub text_named : List ℕ → Option Kind
text_named text = if starts_with nat_eq text (codes "text") then text_wide (number_within 3 1 max_read_registers (drop 4 text)) else None

-- a number with its high word first, with its low word first (`le`), or a text
abbrev pub kind_named : List ℕ → Option Kind
kind_named text =
    if bytes_eq text (codes "u16") then Some U16 else
    if bytes_eq text (codes "i16") then Some I16 else
    if bytes_eq text (codes "u32") then Some (U32 HighFirst) else
    if bytes_eq text (codes "i32") then Some (I32 HighFirst) else
    if bytes_eq text (codes "u64") then Some (U64 HighFirst) else
    if bytes_eq text (codes "i64") then Some (I64 HighFirst) else
    if bytes_eq text (codes "u32le") then Some (U32 LowFirst) else
    if bytes_eq text (codes "i32le") then Some (I32 LowFirst) else
    if bytes_eq text (codes "u64le") then Some (U64 LowFirst) else
    if bytes_eq text (codes "i64le") then Some (I64 LowFirst) else
    text_named text

-- a point, where its last register has an address
abbrev pub point_within : Table → Item → Result Point PointError
point_within table item = if is_readable item then Ok (record { table = table; item = item }) else Err fault.End

abbrev pub point_of : Table → Option ℕ → Option Kind → Result Point PointError
point_of table None kind = Err fault.Address
point_of table (Some address) None = Err fault.Kind
point_of table (Some address) (Some kind) = point_within table (record { address = address; kind = kind })

-- the point that a word names
abbrev pub point_named : List ℕ → Result Point PointError
point_named word =
    point_of (table_of word) (address_named (address_part (rest_of word))) (kind_named (kind_part (rest_of word)))
