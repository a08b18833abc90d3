-- What a typed call picks from a response that has no layout of its own.
use Rattle.std.specs.Prelude.{ℕ, ◌==◌, if◌then◌else◌, List, [], ◌∷◌, Option, Some, None}
use Rattle.modbus_frame.specs.declared.response.Response.{Response}
use Rattle.modbus_frame.specs.declared.response.Response.TheVariants as response
use Rattle.modbus_client.specs.Typed.{Pick, picked, unequal, another_kind}
use Rattle.modbus_calls.specs.declared.server.ServerId.{ServerId}

-- a value where the data has one, and else a misfit
abbrev pub pick_of : {A : Type 0} → Option A → Pick A
pick_of (Some value) = picked value
pick_of None = unequal

-- what the data of a response of this function has
abbrev pub data_read : {A : Type 0} → ℕ → (List ℕ → Option A) → Response → Pick A
data_read function read (response.Custom code bytes) = if code == function then pick_of (read bytes) else another_kind
data_read function read _ = another_kind

-- the outputs that a device reports by one byte (6.7)
abbrev pub exception_status_of : List ℕ → Option ℕ
exception_status_of (status ∷ []) = Some status
exception_status_of _ = None

-- what a device says of itself (6.13)
abbrev pub server_id_read : Response → Pick ServerId
server_id_read (response.ReportServerId id running found) = picked (record { id = id; is_running = running; «data» = found })
server_id_read _ = another_kind
