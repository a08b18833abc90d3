-- The failing place on a serial line, by offset.
use Rattle.std.specs.Prelude.{◌≡◌, ℕ, ◌+◌, ◌-◌, ◌<◌, List, ◌∷◌, ◌++◌, length, Contains, Err}
use Rattle.modbus_rtu.specs.Limits.{max_retries}
use Rattle.modbus_rtu.specs.Place.{frames_below}
use Rattle.modbus_rtu.specs.Stands.{HasCrowd, frame_at}
use Rattle.modbus_pdu.specs.Limits.{max_pdu}
use Rattle.modbus_pdu.specs.RequestOf.{request_of}
use Rattle.modbus_server.specs.declared.error.ProcessError.TheVariants.{TooManyRetries}
use Rattle.modbus_server.specs.Exchanges.{Exchange, told_reply_size, asked_of, asks}
use Rattle.modbus_server.specs.Served.{Halt, remaining, broken, refused, too_long}
use Rattle.modbus_server.specs.First.{IsFirst}
use Rattle.modbus_server.specs.Rtu.{rtu}

-- something fails at a place, where the service was asked in all these exchanges, one for each of the first frames
abbrev pub FailsAt : List ℕ → List ℕ → List ℕ → List (Exchange rtu) → ℕ → Halt → Type 0
FailsAt bytes cuts frames all place (remaining left) = ⊥
FailsAt bytes cuts frames all place (broken TooManyRetries) = (k : ℕ) × HasCrowd bytes cuts k × (place ≡ k + (max_retries - 1))
FailsAt bytes cuts frames all place (broken _) = ⊥
FailsAt bytes cuts frames all place (refused reason) = Contains frames place × (request_of (frame_at bytes place).pdu ≡ Err reason)
FailsAt bytes cuts frames all place (too_long size) =
    Contains frames place × (earlier : List (Exchange rtu)) × (x : Exchange rtu) × (later : List (Exchange rtu)) × (all ≡ earlier ++ x ∷ later)
    × (length earlier ≡ length (frames_below place frames)) × (asked_of rtu (frame_at bytes place) ≡ asks rtu x) × (size ≡ told_reply_size rtu x) × (max_pdu < size)

-- the first place, by offset, where something fails, or that nothing does
abbrev pub IsFirstFault : List ℕ → List ℕ → List ℕ → List (Exchange rtu) → Halt → Type 0
IsFirstFault bytes cuts frames all halt = IsFirst (FailsAt bytes cuts frames all) halt
