-- What is asked of a device.
use Rattle.std.specs.Prelude.{◌≡◌, ℕ, Option, Some, None, Result, slice_get}
use Rattle.slab.specs.Slab.{Slab, get}
use Rattle.modbus_frame.specs.declared.fault.Error.{Error}
use Rattle.modbus_client.specs.Protocol.{Protocol, Heading}
use Rattle.modbus_fleet.specs.Device.{DeviceState}
use Rattle.modbus_fleet.specs.Fleet.{BeginsAt, OthersStay, of_slave}
use Rattle.modbus_supervisor.specs.Reads.{asked_by}
use Rattle.modbus_supervisor.specs.declared.reads.TableRead.{TableRead}
use Rattle.modbus_supervisor.specs.declared.supervised.Supervised.{Supervised}
use Rattle.modbus_supervisor.specs.declared.watched.Watched.{Watched}

-- the read of a device that comes next; none where its poll is over
abbrev pub next_read : Watched → Option TableRead
next_read watched = slice_get watched.asks.items watched.place

-- A call is begun over the connection of the device, and no other, to the unit of the device, that asks just this read.
abbrev pub AsksRead : {H I L : Type 0} → Protocol H → Heading H I → ℕ → Supervised → Option TableRead → Slab (DeviceState I L) → Option (Result (Unit {0}) Error) → Slab (DeviceState I L) → Type 0
AsksRead P N now device None old told new = (told ≡ None) × (new ≡ old)
AsksRead P N now device (Some read) old told new =
    BeginsAt P N (asked_by read) now (of_slave device.unit.0 (get old device.place)) told (get new device.place) × OthersStay device.place old new

-- the same of the read that comes next
abbrev pub AsksNext : {H I L : Type 0} → Protocol H → Heading H I → ℕ → Supervised → Slab (DeviceState I L) → Option (Result (Unit {0}) Error) → Slab (DeviceState I L) → Type 0
AsksNext P N now device old told new = AsksRead P N now device (next_read device.watched) old told new
