use Rattle.std.proofs.Common.{◌≡◌, take}
use Rattle.modbus_frame.proofs.identification.Items+DeviceIdObject.try_clone.Given as goal

abbrev pub invariant-loop-object : goal.invariant-loop-object
invariant-loop-object l = l.items.items ≡ take l.object-index l.objects
