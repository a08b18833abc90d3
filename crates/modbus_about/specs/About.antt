-- The words by which a program is asked to say something of itself.
use Rattle.std.specs.Prelude.{ℕ, ◌||◌, List, codes, Option, Some, None, if◌then◌else◌}
use Rattle.std.specs.Str.{bytes_eq}
use Rattle.modbus_about.specs.declared.About.{About}
use Rattle.modbus_about.specs.declared.About.TheVariants.{Help, Version}

abbrev pub about_named : List ℕ → Option About
about_named word =
    if bytes_eq word (codes "--help") || bytes_eq word (codes "-h") then Some Help
    else if bytes_eq word (codes "--version") || bytes_eq word (codes "-V") then Some Version
    else None
