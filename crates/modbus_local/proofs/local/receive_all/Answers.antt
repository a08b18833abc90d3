use Rattle.std.proofs.Common.{rules, ◌≡◌, ◌<◌, ◌-◌, ◌^◌, length, take, drop, sym, ap, ◌∙◌, subst, arith}
use Rattle.std.proofs.lemmas.List.{take_min, drop_min}
use Rattle.modbus_client.specs.Limits.{read_room}
use Rattle.modbus_client.specs.Call.{holding}
use Rattle.modbus_local.proofs.Exchanging.{roomier, Going, going, goes_on, received, no_memory, may_read}
use Rattle.modbus_local.proofs.local.receive_all.Goals as goal

pub pieces-init : goal.pieces-init
pieces-init g c = going g.P.Protocol.protocol c.args.replies.now (holding c.args.call.now c.args.held.now) c.requires.written c.requires.stands

pub feed-requires-clause-may_read : goal.feed-requires-clause-may_read
feed-requires-clause-may_read g c =
    let some : 0 < length c.pieces.left.now = search rules in
    let less = may_read g.P.Protocol.protocol c.args.replies.now (holding c.args.call.now c.args.held.now) (holding c.pieces.call c.pieces.held) c.pieces.left.now c.pieces.invariant some in
    let limit : c.pieces.call.turns ≡ 2 ^ 64 - 1 = search rules in
    let within : length c.args.replies.now < 2 ^ 64 - 1 = search rules in
    omega (arith, less, limit, within)

pub returns-then-is_err : goal.returns-then-is_err
returns-then-is_err g c = no_memory g.P.Protocol.protocol c.args.replies.now (holding c.args.call.now c.args.held.now) (holding c.pieces.call c.pieces.held) c.pieces.left.now c.pieces.invariant c.make_room.new.held.items

pub returns-in-Some : goal.returns-in-Some
returns-in-Some g c =
    let is : c.split_at.result.0.now ≡ take read_room c.pieces.left.now = c.split_at.ensures.front ∙ ap (λ n. take n c.pieces.left.now) c.min.ensures ∙ take_min read_room c.pieces.left.now in
    received g.P.Protocol.protocol c.args.replies.now (holding c.args.call.now c.args.held.now) (holding c.pieces.call c.pieces.held) c.pieces.left.now c.pieces.invariant _ (holding c.pieces.call c.make_room.new.held) (holding c.feed.new.self c.feed.new.held) (roomier c.pieces.call c.pieces.held c.make_room.new.held c.make_room.ensures.keeps) _ is
    c.bytes_end_calls.ensures.ends c.bytes_end_calls.ensures.anywhere c.in-Some.answer c.in-Some.ensures

pub pieces-preserved : goal.pieces-preserved
pieces-preserved g c =
    let is : c.split_at.result.0.now ≡ take read_room c.pieces.left.now = c.split_at.ensures.front ∙ ap (λ n. take n c.pieces.left.now) c.min.ensures ∙ take_min read_room c.pieces.left.now in
    let back : c.split_at.result.1.now ≡ drop read_room c.pieces.left.now = c.split_at.ensures.back ∙ ap (λ n. drop n c.pieces.left.now) c.min.ensures ∙ drop_min read_room c.pieces.left.now in
    subst (λ l. Going g.P.Protocol.protocol c.args.replies.now (holding c.args.call.now c.args.held.now) (holding c.feed.new.self c.feed.new.held) l) (sym back)
    (goes_on g.P.Protocol.protocol c.args.replies.now (holding c.args.call.now c.args.held.now) (holding c.pieces.call c.pieces.held) c.pieces.left.now c.pieces.invariant _ (holding c.pieces.call c.make_room.new.held) (holding c.feed.new.self c.feed.new.held) (roomier c.pieces.call c.pieces.held c.make_room.new.held c.make_room.ensures.keeps) _ is (rw c.in_default.is at c.feed.ensures))
