-- The requests that the program makes, and the summary of their replies.
use Rattle.std.specs.Prelude.{◌≡◌, ℕ, zero, suc, ◌+◌, ◌*◌, ◌/◌, ◌%◌, ◌^◌, ◌==◌, if◌then◌else◌, false, List, [], ◌∷◌, ◌++◌, map, sum, length, codes, IsTrue, Result, Ok, Err}
use Rattle.std.specs.Fmt.{decimal}
use Rattle.std.specs.List.{range_with_len, flat_map}
use Rattle.modbus_link.specs.Outside.{Output, Rose, Extends, bytes_appended, IsFront}
use Rattle.modbus_frame.specs.Meaning.{Asked, ReadHoldingRegisters, WriteSingleRegister, ReadCoils, WriteSingleCoil}
use Rattle.modbus_pdu.specs.RequestPdu.{request_pdu}
use Rattle.modbus_rtu.specs.Frame.{frame}
use Rattle.modbus_server.specs.Exchanges.{Exchange, output}
use Rattle.modbus_server.specs.Rtu.{rtu}
use Rattle.modbus_server.specs.declared.error.ProcessError.{ProcessError}
use Rattle.modbus_server.specs.declared.error.ProcessError.TheVariants.{WriteFault, NoMemory}
use Rattle.modbus_store.specs.Tables.{Tables}
use Rattle.modbus_store.specs.Step.{store_step}
use Rattle.modbus_app.specs.declared.words.Mode.TheVariants.{Rtu}
use Rattle.modbus_app.specs.Device.{device_of}
use Rattle.modbus_app.specs.Words.{default_size}

-- The numbers of a linear congruential generator: the first is 1, and each is made of the one before.
abbrev pub next_number : ℕ → ℕ
next_number x = (x * 1103515245 + 12345) % 2 ^ 31

unfoldable pub number_at : ℕ → ℕ
number_at zero = 1
number_at (suc k) = next_number (number_at k)

-- The request that a number makes, of an address below 1000 and of 1 to 16 entries.
abbrev pub made_kind : ℕ → ℕ → ℕ → ℕ → Asked
made_kind kind address count x =
    if kind == 0 then ReadHoldingRegisters address count
    else if kind == 1 then WriteSingleRegister address (x % 65536)
    else if kind == 2 then ReadCoils address count
    else WriteSingleCoil address (x % 2 == 1)

unfoldable pub request_by : ℕ → Asked
request_by x = made_kind (x / 65536 % 4) (x / 64 % 1000) (1 + x % 16) x

-- the requests of the first numbers after 1
unfoldable pub requests_made : ℕ → List Asked
requests_made count = map (λ k. request_by (number_at k)) (range_with_len 1 count)

-- whom they are for
abbrev pub made_slave : ℕ
made_slave = 1

-- their frames, one after another
abbrev pub line_made : ℕ → List ℕ
line_made count = flat_map (λ request. frame made_slave (request_pdu request)) (requests_made count)

-- a store that begins so is asked one request after another, all for that slave
unfoldable pub exchanges_made : Tables → List Asked → List (Exchange rtu)
exchanges_made tables [] = []
exchanges_made tables (request ∷ requests) =
    let step = store_step tables made_slave request in
    record { header = made_slave; request = request; outcome = step.0 } ∷ exchanges_made step.1 requests

-- the device of the word `rtu`, as it begins
abbrev pub made_tables : Tables
made_tables = device_of (record { mode = Rtu; size = default_size; seeded = false })

-- the frames of all replies
abbrev pub replies_made : ℕ → List ℕ
replies_made count = output rtu (exchanges_made made_tables (requests_made count))

-- how many requests were made, how many bytes their replies have, and the sum of these bytes, each on a line
abbrev pub summary_of : ℕ → ℕ → ℕ → List ℕ
summary_of count bytes total = codes "requests " ++ decimal count ++ codes "\nbytes " ++ decimal bytes ++ codes "\nsum " ++ decimal total ++ codes "\n"

abbrev pub summary : ℕ → List ℕ
summary count = summary_of count (length (replies_made count)) (sum (replies_made count))

-- The summary was appended, or a front of it where the sink failed; nothing was where memory was wanting. There is no other ending.
abbrev pub SumsUp : ℕ → Output → Output → Result (Unit {0}) ProcessError → Type 0
SumsUp count sunk sinks (Ok done) = Extends sunk sinks × (IsTrue sunk.told → bytes_appended sunk sinks ≡ summary count)
SumsUp count sunk sinks (Err WriteFault) =
    Extends sunk sinks × Rose sunk.faults sinks.faults × (IsTrue sunk.told → IsFront (bytes_appended sunk sinks) (summary count))
SumsUp count sunk sinks (Err NoMemory) = sinks ≡ sunk
SumsUp count sunk sinks (Err _) = ⊥
