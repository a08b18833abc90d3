-- How long objects are.
use Rattle.std.proofs.Common.{◌*◌, ◌≤◌, ◌<◌, List, [], ◌∷◌, length, arith, length-append}
use Rattle.std.specs.List.{AllByRecursion}
use Rattle.modbus_frame.specs.declared.identification.DeviceIdObject.{DeviceIdObject}
use Rattle.modbus_pdu.specs.ResponsePdu.{objects}

-- as many objects as take so many bytes are fewer
pub fewer : (os : List DeviceIdObject) → 2 * length os ≤ length (objects os)
unfolding objects
fewer [] = omega arith
fewer (o ∷ os) = omega (arith, fewer os, length-append o.value (objects os))

-- and each is short
pub each_short : (os : List DeviceIdObject) → length (objects os) < 256 → AllByRecursion (λ o. length o.value < 256) os
unfolding objects
each_short [] few = tt
each_short (o ∷ os) few = (omega (arith, few, length-append o.value (objects os)), each_short os (omega (arith, few, length-append o.value (objects os))))

pub ruleset object_facts = (fewer, each_short)
