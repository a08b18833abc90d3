-- The values that texts stand for.
use Rattle.std.specs.Prelude.{◌≡◌, ℕ, ◌||◌, Bool, true, false, List, codes, Option, Some, None, Result, Ok, Err, ⊤, if◌then◌else◌, to_bits, is_nan}
use Rattle.std.specs.Float.{binary32, binary64, float_is_finite}
use Rattle.std.specs.Float.Ieee.{Float, Format}
use Rattle.std.specs.Str.{bytes_eq}
use Rattle.fast_float.specs.Parse.{parse_float}
use Rattle.modbus_map.specs.declared.decimal.Decimal.{Decimal}
use Rattle.modbus_map.specs.declared.decimal.DecimalError.{DecimalError}
use Rattle.modbus_map.specs.declared.kind.Kind.{Kind}
use Rattle.modbus_map.specs.declared.kind.Kind.TheVariants as kind
use Rattle.modbus_map.specs.declared.value.PointValue.{PointValue}
use Rattle.modbus_map.specs.declared.value.PointValue.TheVariants.{State, Number, Single, Double, Text}
use Rattle.modbus_map.specs.declared.write_error.WriteError.{WriteError}
use Rattle.modbus_map.specs.declared.write_error.WriteError.TheVariants.{NotOfKind, OutOfRange, NoMemory}
use Rattle.modbus_map.specs.Decimals.{number_in}

-- one of two words
abbrev pub is_either : List ℕ → List ℕ → List ℕ → Bool
is_either text one other = bytes_eq text one || bytes_eq text other

-- the state that a text tells
abbrev pub state_in : List ℕ → Result PointValue WriteError
state_in text =
    if is_either text (codes "1") (codes "true") then Ok (State true) else
    if is_either text (codes "0") (codes "false") then Ok (State false) else Err NotOfKind

abbrev pub number_or_none : Result Decimal DecimalError → Result PointValue WriteError
number_or_none (Ok number) = Ok (Number number)
number_or_none (Err none) = Err NotOfKind

-- the bits of the nearest float, where it is finite
abbrev pub finite_bits : Format → Option Float → Result ℕ WriteError
finite_bits format None = Err NotOfKind
finite_bits format (Some x) =
    if is_nan x then Err NotOfKind else if float_is_finite x then Ok (to_bits format x) else Err OutOfRange

abbrev pub single_of : Result ℕ WriteError → Result PointValue WriteError
single_of (Ok bits) = Ok (Single bits)
single_of (Err error) = Err error

abbrev pub double_of : Result ℕ WriteError → Result PointValue WriteError
double_of (Ok bits) = Ok (Double bits)
double_of (Err error) = Err error

-- The value of a kind that a text stands for: a state as 0 or 1, false or true; a number in decimal, exactly; the float nearest to a number,
-- where it is finite; the bytes of the text.
abbrev pub value_in : Kind → List ℕ → Result PointValue WriteError
value_in kind.Bool text = state_in text
value_in (kind.Bit place) text = state_in text
value_in kind.F32 text = single_of (finite_bits binary32 (parse_float binary32 text))
value_in kind.F64 text = double_of (finite_bits binary64 (parse_float binary64 text))
value_in (kind.Text count) text = Ok (Text text)
value_in _ text = number_or_none (number_in text)

-- refused as a definition says, or for want of memory
abbrev pub IsRefusedBy : Result PointValue WriteError → WriteError → Type 0
IsRefusedBy answer NoMemory = ⊤
IsRefusedBy answer error = answer ≡ Err error
