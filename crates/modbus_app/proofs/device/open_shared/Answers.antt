use Rattle.std.proofs.Common.{false, ap, ◌∙◌}
use Rattle.modbus_store.specs.Tables.{Tables}
use Rattle.modbus_store.specs.Views.{Opening}
use Rattle.modbus_app.specs.Device.{device_of}
use Rattle.modbus_app.specs.Words.{default_size}
use Rattle.modbus_app.proofs.device.open_shared.Goals as goal

abbrev unrecorded : Tables → Opening
unrecorded tables = record { tables = tables; recorded = false }

pub returns-in-Ok-clause-table : goal.returns-in-Ok-clause-table
returns-in-Ok-clause-table c = c.in-Ok.ensures.table ∙ ap unrecorded c.in_ok-store.ensures
    ∙ ap (λ m. unrecorded (device_of (record { mode = m; size = default_size; seeded = false }))) c.mode_of.ensures
