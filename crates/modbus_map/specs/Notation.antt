-- The notation of a point's place as a word.
use Rattle.std.specs.Prelude.{ℕ, ◌+◌, ◌^◌, ◌&&◌, nat_le, nat_eq, Bool, true, false, List, length, drop, codes, Option, Some, None, Result, Ok, Err, if◌then◌else◌}
use Rattle.std.specs.List.{before_first, after_first, starts_with}
use Rattle.std.specs.Str.{bytes_eq}
use Rattle.modbus_map.specs.declared.kind.ByteOrder.{ByteOrder}
use Rattle.modbus_map.specs.declared.kind.ByteOrder.TheVariants.{Abcd, Cdab}
use Rattle.modbus_map.specs.declared.kind.Kind.{Kind}
use Rattle.modbus_map.specs.declared.kind.Kind.TheVariants.{U16, I16, U32, I32, U64, I64, F32, F64}
use Rattle.modbus_map.specs.declared.kind.Table.{Table}
use Rattle.modbus_map.specs.declared.kind.Table.TheVariants.{Coils, DiscreteInputs, InputRegisters, HoldingRegisters}
use Rattle.modbus_map.specs.declared.notation.Place.{Place}
use Rattle.modbus_map.specs.declared.notation.PlaceError.{PlaceError}
use Rattle.modbus_map.specs.declared.notation.PlaceError.TheVariants as fault
use Rattle.modbus_map.specs.Decimals.{are_digits, number_after}
use Rattle.modbus_map.specs.Kinds.{width, is_of_registers, has_registers}
use Rattle.modbus_map.specs.Names.{order_named, kind_named}

abbrev pub begins : List ℕ → List ℕ → Bool
begins text word = starts_with nat_eq text word

-- the table that a word begins with: coils, discrete inputs, input registers, or holding registers for `h` or nothing
abbrev pub table_of : List ℕ → Table
table_of word =
    if begins word (codes "c") then Coils else
    if begins word (codes "d") then DiscreteInputs else
    if begins word (codes "i") then InputRegisters else HoldingRegisters

-- what stands behind that letter
abbrev pub rest_of : List ℕ → List ℕ
rest_of word =
    if begins word (codes "c") then drop 1 word else
    if begins word (codes "d") then drop 1 word else
    if begins word (codes "i") then drop 1 word else
    if begins word (codes "h") then drop 1 word else word

-- what stands before the first colon, and after it
abbrev pub address_part : List ℕ → List ℕ
address_part text = before_first (λ byte. nat_eq byte 58) text

abbrev pub kind_part : List ℕ → List ℕ
kind_part text = after_first (λ byte. nat_eq byte 58) text

-- one digit to five, of a value up to 65535
abbrev pub address_named : List ℕ → Option ℕ
address_named text =
    if nat_le 1 (length text) && nat_le (length text) 5 && are_digits text && nat_le (number_after 0 text) 65535
    then Some (number_after 0 text) else None

-- the order that stands behind a kind: none, `le` for the low word first, or one of the four
abbrev pub suffix_named : List ℕ → Option ByteOrder
suffix_named text =
    if bytes_eq text (codes "") then Some Abcd else
    if bytes_eq text (codes "le") then Some Cdab else order_named text

abbrev pub reading_of : Kind → Option ByteOrder → Option (Kind × ByteOrder)
reading_of kind (Some order) = Some (kind, order)
reading_of kind None = None

abbrev pub reading_with : Kind → List ℕ → Option (Kind × ByteOrder)
reading_with kind text = reading_of kind (suffix_named text)

abbrev pub in_order : Option Kind → Option (Kind × ByteOrder)
in_order (Some kind) = Some (kind, Abcd)
in_order None = None

-- a number in four registers or a float with its order, or a kind that has none
unfoldable pub wide_reading : List ℕ → Option (Kind × ByteOrder)
wide_reading text =
    if begins text (codes "u64") then reading_with U64 (drop 3 text) else
    if begins text (codes "i64") then reading_with I64 (drop 3 text) else
    if begins text (codes "f32") then reading_with F32 (drop 3 text) else
    if begins text (codes "f64") then reading_with F64 (drop 3 text) else
    in_order (kind_named text)

-- a number with its order, or another kind
abbrev pub reading_named : List ℕ → Option (Kind × ByteOrder)
reading_named text =
    if begins text (codes "u16") then reading_with U16 (drop 3 text) else
    if begins text (codes "i16") then reading_with I16 (drop 3 text) else
    if begins text (codes "u32") then reading_with U32 (drop 3 text) else
    if begins text (codes "i32") then reading_with I32 (drop 3 text) else
    wide_reading text

-- a state lies in coils or discrete inputs, another kind in registers
abbrev pub same : Bool → Bool → Bool
same true true = true
same false false = true
same _ _ = false

abbrev pub fits_table : Table → Kind → Bool
fits_table table kind = same (has_registers table) (is_of_registers kind)

-- a place whose kind lies in its table, and whose last register has an address
abbrev pub place_within : Table → ℕ → Kind → ByteOrder → Result Place PlaceError
place_within table address kind order =
    if fits_table table kind then
    (if nat_le (address + width kind) (2 ^ 16)
    then Ok (record { table = table; address = address; kind = kind; order = order }) else Err fault.End)
    else Err fault.Table

abbrev pub place_of : Table → Option ℕ → Option (Kind × ByteOrder) → Result Place PlaceError
place_of table None reading = Err fault.Address
place_of table (Some address) None = Err fault.Kind
place_of table (Some address) (Some (kind, order)) = place_within table address kind order

-- the place that a word names
abbrev pub place_named : List ℕ → Result Place PlaceError
place_named word = place_of (table_of word) (address_named (address_part (rest_of word))) (reading_named (kind_part (rest_of word)))
