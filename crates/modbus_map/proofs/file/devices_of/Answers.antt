use Rattle.std.proofs.lemmas.List.Elements.{All-push}
use Rattle.modbus_map.specs.Sound.{IsSoundDevice}
use Rattle.modbus_map.proofs.file.devices_of.Goals as goal

pub loop-value-preserved : goal.loop-value-preserved
loop-value-preserved c =
    rw c.in-Ok.ensures.items (All-push IsSoundDevice c.loop-value.devices.items c.in_ok-device.device c.loop-value.invariant c.in_ok-device.ensures)
