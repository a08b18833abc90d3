-- What an integer is worth.
use Rattle.std.specs.Prelude.{◌≡◌, ℕ, ◌-◌, ◌^◌, ◌&&◌, nat_lt, max, Bool, ℤ, pos, negsuc, ◌+ℤ◌, ◌*ℤ◌, Result, Ok, Err, if◌then◌else◌}
use Rattle.std.specs.Ordering.{int_eq}
use Rattle.modbus_map.specs.declared.decimal.Decimal.{Decimal}
use Rattle.modbus_map.specs.declared.scale.Scale.{Scale}
use Rattle.modbus_map.specs.declared.scale.ScaleError.{ScaleError}
use Rattle.modbus_map.specs.declared.scale.ScaleError.TheVariants.{Zero, TooLong}

-- the integer times the factor, and the offset more, in units of the last place of the two
abbrev pub worth : Scale → ℤ → Decimal
worth scale n = record { units = n *ℤ scale.factor +ℤ scale.offset; places = scale.places }

-- both are one number: with as many places as the longer of the two has, they have the same units
abbrev pub IsSame : Decimal → Decimal → Type 0
IsSame a b = a.units *ℤ pos (10 ^ (b.places - a.places)) ≡ b.units *ℤ pos (10 ^ (a.places - b.places))

-- so many units at these places are the number
abbrev pub IsUnitsOf : ℕ → Decimal → ℤ → Type 0
IsUnitsOf places number units = units *ℤ pos (10 ^ (number.places - places)) ≡ number.units *ℤ pos (10 ^ (places - number.places))

-- it fits 64 bits
abbrev pub fits_64 : ℤ → Bool
fits_64 (pos n) = nat_lt n (2 ^ 63)
fits_64 (negsuc n) = nat_lt n (2 ^ 63)

-- a factor and an offset in units of one last place
abbrev pub scale_with : ℕ → ℤ → ℤ → Result Scale ScaleError
scale_with places factor offset =
    if fits_64 factor && fits_64 offset then Ok (record { factor = factor; offset = offset; places = places }) else Err TooLong

-- the units of a number at so many places, where they are no fewer than its own
abbrev pub units_at : ℕ → Decimal → ℤ
units_at places number = number.units *ℤ pos (10 ^ (places - number.places))

-- the scale of a factor that is not 0 and an offset, with as many places as the longer of the two has
abbrev pub scale_of : Decimal → Decimal → Result Scale ScaleError
scale_of factor offset =
    if int_eq factor.units (pos 0) then Err Zero else
    (let places = max factor.places offset.places in scale_with places (units_at places factor) (units_at places offset))
