-- What a connector keeps that tells why it could not connect.
use Rattle.std.specs.Prelude.{◌≡◌, ℕ, Option, Some, None, Result, Ok, Err}
use Rattle.std.specs.declared.io.ErrorKind.{ErrorKind}
use Rattle.modbus_link.specs.declared.outside.Failed.{Failed}
use Rattle.modbus_link.specs.Memory.{next_count}
use Rattle.modbus_plant.specs.declared.connector.Refusals.{Refusals}

-- one that has never failed
abbrev pub refusing_never : Refusals
refusing_never = record { faults = 0; last = None }

-- one fault more is counted, and what the system said is kept
abbrev pub Notes : Refusals → ErrorKind → Refusals → Type 0
Notes old kind new = new ≡ record { faults = next_count old.faults; last = Some kind }

-- A link is given that nothing was done to, and the connector is as it was; or none, and what the system said is kept.
abbrev pub ConnectsTelling : {L : Type 0} → L → Refusals → Result L Failed → Refusals → Type 0
ConnectsTelling start old (Ok link) new = (link ≡ start) × (new ≡ old)
ConnectsTelling start old (Err failed) new = (kind : ErrorKind) × Notes old kind new
