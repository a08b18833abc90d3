-- The names of kinds and orders.
use Rattle.std.specs.Prelude.{ℕ, ◌&&◌, ◌||◌, nat_le, nat_eq, Bool, List, length, drop, codes, Option, Some, None, if◌then◌else◌}
use Rattle.std.specs.List.{starts_with}
use Rattle.std.specs.Str.{bytes_eq}
use Rattle.modbus_map.specs.declared.kind.ByteOrder.{ByteOrder}
use Rattle.modbus_map.specs.declared.kind.ByteOrder.TheVariants.{Abcd, Cdab, Badc, Dcba}
use Rattle.modbus_map.specs.declared.kind.Kind.{Kind}
use Rattle.modbus_map.specs.declared.kind.Kind.TheVariants.{Bit, U16, I16, U32, I32, U64, I64, F32, F64, Text}
use Rattle.modbus_map.specs.declared.kind.Kind.TheVariants as kind
use Rattle.modbus_map.specs.Decimals.{are_digits, number_after}

-- the number that one digit to three show, from the least to the most
abbrev pub small_in : ℕ → ℕ → List ℕ → Option ℕ
small_in least most text =
    if nat_le 1 (length text) && nat_le (length text) 3 && are_digits text && nat_le least (number_after 0 text) && nat_le (number_after 0 text) most
    then Some (number_after 0 text) else None

-- what stands behind a space, where one comes first
abbrev pub behind_space : List ℕ → List ℕ
behind_space text = if starts_with nat_eq text (codes " ") then drop 1 text else text

abbrev pub bit_of : Option ℕ → Option Kind
bit_of (Some place) = Some (Bit place)
bit_of None = None

abbrev pub text_of : Option ℕ → Option Kind
text_of (Some count) = Some (Text count)
text_of None = None

-- a bit of a register, 0 to 15
abbrev pub bit_named : List ℕ → Option Kind
bit_named text = if starts_with nat_eq text (codes "bit") then bit_of (small_in 0 15 (behind_space (drop 3 text))) else None

-- a text of 1 to 125 registers
abbrev pub text_named : List ℕ → Option Kind
text_named text = if starts_with nat_eq text (codes "text") then text_of (small_in 1 125 (behind_space (drop 4 text))) else None

abbrev pub or_else : Option Kind → Option Kind → Option Kind
or_else (Some kind) other = Some kind
or_else None other = other

-- a bit or a text
abbrev pub numbered : List ℕ → Option Kind
numbered text = or_else (bit_named text) (text_named text)

-- the kind of a name
abbrev pub kind_named : List ℕ → Option Kind
kind_named text =
    if bytes_eq text (codes "bool") then Some kind.Bool else
    if bytes_eq text (codes "u16") then Some U16 else
    if bytes_eq text (codes "i16") then Some I16 else
    if bytes_eq text (codes "u32") then Some U32 else
    if bytes_eq text (codes "i32") then Some I32 else
    if bytes_eq text (codes "u64") then Some U64 else
    if bytes_eq text (codes "i64") then Some I64 else
    if bytes_eq text (codes "f32") then Some F32 else
    if bytes_eq text (codes "f64") then Some F64 else
    numbered text

-- one of two words
abbrev pub is_either : List ℕ → List ℕ → List ℕ → Bool
is_either text one other = bytes_eq text one || bytes_eq text other

-- the order of a name, in capitals or in small letters; one register has two bytes alone
abbrev pub order_named : List ℕ → Option ByteOrder
order_named text =
    if is_either text (codes "ABCD") (codes "abcd") || is_either text (codes "AB") (codes "ab") then Some Abcd else
    if is_either text (codes "CDAB") (codes "cdab") then Some Cdab else
    if is_either text (codes "BADC") (codes "badc") || is_either text (codes "BA") (codes "ba") then Some Badc else
    if is_either text (codes "DCBA") (codes "dcba") then Some Dcba else None
