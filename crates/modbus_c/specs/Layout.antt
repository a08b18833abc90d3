-- Arrays of the caller that are written at the front.
use Rattle.std.specs.Prelude.{ℕ, ◌/◌, ◌%◌, List, [], ◌∷◌}
use Rattle.modbus_rtu.specs.Checksum.{crc}
use Rattle.modbus_store.specs.Tables.{with_entries}

-- the list with these items at its front; all others stay
abbrev pub laid : {A : Type 0} → List A → List A → List A
laid items list = with_entries 0 items list

-- the checksum of bytes, its low byte first (MODBUS over Serial Line V1.02, section 2.5.1)
abbrev pub checksum_bytes : List ℕ → List ℕ
checksum_bytes bytes = crc bytes % 256 ∷ crc bytes / 256 ∷ []
