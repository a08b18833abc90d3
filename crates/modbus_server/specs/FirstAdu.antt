-- The failing place in a stream of ADUs: its first failing ADU, else its rest.
use Rattle.std.specs.Prelude.{◌≡◌, ℕ, ◌<◌, List, ◌∷◌, ◌++◌, length, Err}
use Rattle.modbus_frame.specs.declared.tcp.Header.{Header}
use Rattle.modbus_pdu.specs.Limits.{max_pdu}
use Rattle.modbus_pdu.specs.RequestOf.{request_of}
use Rattle.modbus_pdu.specs.Message.{Message}
use Rattle.modbus_tcp.specs.Stream.{Rest, no_length, foreign}
use Rattle.modbus_server.specs.declared.error.ProcessError.TheVariants.{InvalidLength, InvalidProtocol}
use Rattle.modbus_server.specs.Exchanges.{Exchange, told_reply_size, asked_of, asks}
use Rattle.modbus_server.specs.Served.{Halt, remaining, broken, refused, too_long}
use Rattle.modbus_server.specs.First.{IsFirst}
use Rattle.modbus_server.specs.Tcp.{tcp}

-- Something fails at a place, where the service was asked in all these exchanges, one for each of the first ADUs. The place of an
-- ADU is how many come before it, and that of the rest comes after all ADUs.
abbrev pub HasAduFault : List (Message Header) → Rest → List (Exchange tcp) → ℕ → Halt → Type 0
HasAduFault adus kind all place (remaining left) = ⊥
HasAduFault adus kind all place (broken InvalidLength) = (place ≡ length adus) × (kind ≡ no_length)
HasAduFault adus kind all place (broken (InvalidProtocol protocol)) = (place ≡ length adus) × (kind ≡ foreign protocol)
HasAduFault adus kind all place (broken _) = ⊥
HasAduFault adus kind all place (refused reason) =
    (earlier : List (Message Header)) × (message : Message Header) × (later : List (Message Header)) × (adus ≡ earlier ++ message ∷ later)
    × (length earlier ≡ place) × (request_of message.pdu ≡ Err reason)
HasAduFault adus kind all place (too_long size) =
    (earlier : List (Message Header)) × (message : Message Header) × (later : List (Message Header)) × (adus ≡ earlier ++ message ∷ later)
    × (length earlier ≡ place) × (before : List (Exchange tcp)) × (x : Exchange tcp) × (after : List (Exchange tcp)) × (all ≡ before ++ x ∷ after)
    × (length before ≡ place) × (asked_of tcp message ≡ asks tcp x) × (size ≡ told_reply_size tcp x) × (max_pdu < size)

-- the first place, ADU by ADU and then the rest, where something fails, or that nothing does
abbrev pub IsFirstAduFault : List (Message Header) → Rest → List (Exchange tcp) → Halt → Type 0
IsFirstAduFault adus kind all halt = IsFirst (HasAduFault adus kind all) halt
