use Rattle.std.proofs.Common.{◌≡◌, ◌≤◌}
use Rattle.modbus_hub.specs.Shares.{share_below}
use Rattle.modbus_hub.proofs.seats.Seats.share.Given as goal

abbrev pub invariant-keys : goal.invariant-keys
invariant-keys g l = (l.share ≡ share_below l.key l.fn.peer l.self.seats) × (l.share ≤ l.key)
