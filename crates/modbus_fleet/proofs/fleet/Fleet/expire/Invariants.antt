use Rattle.std.proofs.Common.{◌≡◌, ◌<◌, ℕ}
use Rattle.slab.specs.Slab.{get, SameValues}
use Rattle.modbus_fleet.specs.Fleet.{IsDueAt}
use Rattle.modbus_fleet.proofs.fleet.Fleet.expire.Given as goal

abbrev pub invariant-keys : goal.invariant-keys
invariant-keys g l = ((k : ℕ) → k < l.key → IsDueAt l.fn.now (get l.fn.self.devices k) → ⊥) × SameValues l.fn.self.devices l.self.devices × (l.self ≡ record l.fn.self { devices = l.self.devices })
