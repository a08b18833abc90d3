use Rattle.std.proofs.Common.{◌≤◌, length, arith}
use Rattle.modbus_hub.proofs.Sharing.{is_share, share_next}
use Rattle.modbus_hub.proofs.seats.Seats.share.Goals as goal

pub keys-preserved : goal.keys-preserved
keys-preserved g c = (
  share_next c.args.peer c.args.self.now.seats c.keys.key c.keys.share c.count_of-share.result c.count_of-share.ensures.count c.keys.invariant.0,
  omega (arith, c.keys.invariant.1, c.count_of-share.ensures.most),
)

pub returns : goal.returns
returns g c =
    let room : length c.args.self.now.seats.slots ≤ c.keys.key = rw (← c.self.view_is) (omega (arith, c.keys-test.false, c.capacity-key-end.ensures.slots)) in
    is_share c.args.peer c.args.self.now.seats c.keys.key c.keys.share room c.keys.invariant.0
