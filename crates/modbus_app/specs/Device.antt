-- The device that the program serves.
use Rattle.std.specs.Prelude.{ℕ, zero, suc, ◌-◌, ◌^◌, ◌%◌, ◌==◌, Bool, true, false, List, [], ◌∷◌, ◌++◌, Result, if◌then◌else◌}
use Rattle.modbus_link.specs.Outside.{Input, Output}
use Rattle.modbus_server.specs.declared.error.ProcessError.{ProcessError}
use Rattle.modbus_server.specs.Framing.{Framing as Messages}
use Rattle.modbus_server.specs.Rtu.{rtu}
use Rattle.modbus_server.specs.Tcp.{tcp}
use Rattle.modbus_ascii.specs.Framing.{ascii}
use Rattle.modbus_server.specs.Served.{EndsAs}
use Rattle.modbus_server.specs.Step.{Ran}
use Rattle.modbus_store.specs.Tables.{Tables}
use Rattle.modbus_store.specs.Opening.{zeros_of}
use Rattle.modbus_store.specs.Step.{device}
use Rattle.modbus_store.specs.Views.{Opening}
use Rattle.modbus_port.specs.declared.listen.Framing.{Framing}
use Rattle.modbus_port.specs.declared.listen.Framing.TheVariants as framing
use Rattle.modbus_app.specs.declared.words.Mode.{Mode}
use Rattle.modbus_app.specs.declared.words.Mode.TheVariants.{Rtu, Ascii, Tcp}
use Rattle.modbus_app.specs.declared.words.Form.{Form}
use Rattle.modbus_app.specs.Words.{default_size}
use Rattle.modbus_server.specs.Moment.{moment}

-- a table of so many entries, each made of its address
unfoldable pub entries_by : {A : Type 0} → (ℕ → A) → ℕ → List A
entries_by entry zero = []
entries_by entry (suc size) = entries_by entry size ++ (entry size ∷ [])

-- coils 0, 3, 6, ... are on, and discrete inputs 1, 3, 5, ...; a holding register holds its address i, an input register 65535 - i
abbrev pub third : ℕ → Bool
third i = i % 3 == 0

abbrev pub odd : ℕ → Bool
odd i = i % 2 == 1

abbrev pub same : ℕ → ℕ
same i = i

abbrev pub down : ℕ → ℕ
down i = 65535 - i

abbrev pub seeded_tables : ℕ → Bool → Tables
seeded_tables size broadcast = record { coils = entries_by third size; discrete_inputs = entries_by odd size; holding_registers = entries_by same size; input_registers = entries_by down size; broadcast = broadcast }

-- on a serial line a request to slave 0 is a broadcast, which has its effect and no answer; over TCP it is answered like any other
abbrev pub broadcasts_of : Mode → Bool
broadcasts_of Rtu = true
broadcasts_of Ascii = true
broadcasts_of Tcp = false

-- four tables of the form's size
abbrev pub device_of : Form → Tables
device_of form = if form.seeded then seeded_tables form.size (broadcasts_of form.mode)
    else zeros_of (record { coils = form.size; discrete_inputs = form.size; holding_registers = form.size; input_registers = form.size }) (broadcasts_of form.mode)

-- the mode of a connection to a listener
abbrev pub mode_of : Framing → Mode
mode_of framing.Rtu = Rtu
mode_of framing.Tcp = Tcp

-- the device that all connections to a listener share, as it begins: no record of its calls is kept
abbrev pub shared_opening : Framing → Opening
shared_opening by = record {
  tables = device_of (record { mode = mode_of by; size = default_size; seeded = false });
  recorded = false;
}

-- how the requests of a mode stand in the bytes of a connection
abbrev pub messages_of : Mode → Messages
messages_of Rtu = rtu
messages_of Ascii = ascii
messages_of Tcp = tcp

-- how serving the device ended, over all that was read and written; its tables are then those after one run over the requests
abbrev pub EndsServing : Form → List ℕ → List ℕ → List ℕ → Result (Unit {0}) ProcessError → Type 0
EndsServing form bytes cuts written result = (now : Tables) × EndsAs (messages_of form.mode) device bytes cuts (device_of form) now written result

-- serving the device, over a source and a sink, with no limit of turns but that of a counter of 64 bits
pub record ServesStreams (form : Form) (from to : Input) (sunk sinks : Output) (result : Result (Unit {0}) ProcessError) : Type 0 where
  pub now : Tables
  pub ran : Ran (messages_of form.mode) device (2 ^ 64 - 1) (moment (device_of form) from sunk) (moment now to sinks) result
